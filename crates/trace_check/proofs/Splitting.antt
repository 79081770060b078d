-- A text cut into lines.
use Rattle.std.proofs.Common.{◌≡◌, ℕ, ◌+◌, ◌<◌, ◌≤◌, false, ◌==◌, List, [], ◌∷◌, ◌++◌, length, get_or, take, Some, None, ap, ◌∙◌, arith}
use Rattle.std.specs.List.{position, position_or_len}
use Rattle.std.proofs.lemmas.Grind.{common_steps}
use Rattle.std.proofs.lemmas.List.{get_or-take, take_more}
use Rattle.std.proofs.lemmas.List.Quantifiers.{position-Some}
use Rattle.std.proofs.lemmas.List.Sums.{fails_before_first}
use Rattle.trace_check.specs.Lines.{HasNoFeed, IsLine}

not_feed : (byte : ℕ) → byte ≡ 10 → (byte == 10) ≡ false → ⊥
not_feed byte is not = grind (arith, common_steps)

-- none before the first
none_before : (text : List ℕ) (i : ℕ) → i ≤ length text → ((k : ℕ) → k < i → (get_or text k 0 == 10) ≡ false) → HasNoFeed (take i text)
none_before text i within fails (k, inside, at) =
    let below : k < i = grind (arith, common_steps) in
    let same : get_or (take i text) k 0 ≡ get_or text k 0 = get_or-take i text k 0 below in
    not_feed (get_or text k 0) (grind (arith, common_steps)) (fails k below)

pub first_line : (text : List ℕ) (i : ℕ) → position (λ byte. byte == 10) text ≡ Some i → IsLine (take (i + 1) text)
first_line text i e =
    let found = position-Some (λ byte. byte == 10) text i 0 e in
    let feed : get_or text i 0 ≡ 10 = grind (arith, common_steps, found.1) in
    record {
      words = take i text;
      are = take_more text i 0 found.0 ∙ ap (λ byte. take i text ++ byte ∷ []) feed;
      one = none_before text i (omega (arith, found.0)) found.2;
    }

pub no_line : (text : List ℕ) → position (λ byte. byte == 10) text ≡ None → HasNoFeed text
no_line text e (k, inside, at) =
    let none : length text ≤ position_or_len (λ byte. byte == 10) text = grind (arith, common_steps) in
    not_feed (get_or text k 10) (grind (arith, common_steps)) (fails_before_first (λ byte. byte == 10) text k 10 (omega arith))
