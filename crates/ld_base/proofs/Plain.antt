-- Names whose bytes all stand for themselves.
use Rattle.std.proofs.Common.{◌≡◌, ℕ, List, [], ◌∷◌, true, flat_map, refl}
use Rattle.std.proofs.lemmas.Bool.{and_parts}
use Rattle.std.specs.List.{list_all}
use Rattle.ld_base.specs.Text.{byte_text, is_plain}

plain_byte : (c : ℕ) → is_plain c ≡ true → byte_text c ≡ c ∷ []
plain_byte c p = rw p refl

-- such bytes are their own text
pub plain_bytes : (bytes : List ℕ) → list_all is_plain bytes ≡ true → flat_map byte_text bytes ≡ bytes
plain_bytes [] p = refl
plain_bytes (c ∷ bytes) p =
    let parts = and_parts (is_plain c) (list_all is_plain bytes) p in
    rw (plain_byte c parts.0, plain_bytes bytes parts.1) refl
