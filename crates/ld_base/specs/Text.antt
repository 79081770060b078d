-- How names are written in lines of text.
use Rattle.std.specs.Prelude.{ℕ, ◌+◌, ◌/◌, ◌%◌, Bool, not, ◌&&◌, ◌==◌, nat_lt, nat_le, if◌then◌else◌, Option, Some, None, List, [], ◌∷◌, length, flat_map}
use Rattle.std.specs.Str.{bytes_eq}

-- a lower-case hexadecimal digit
abbrev pub hex_digit : ℕ → ℕ
hex_digit n = if nat_lt n 10 then 48 + n else 87 + n

-- a byte that stands for itself: a visible character that separates nothing in a line
abbrev pub is_plain : ℕ → Bool
is_plain c = nat_le 0x21 c && nat_le c 0x7e && not (c == 37) && not (c == 44) && not (c == 58) && not (c == 61) && not (c == 64)

-- any other byte is % and its two digits
abbrev pub byte_text : ℕ → List ℕ
byte_text c = if is_plain c then c ∷ [] else 37 ∷ hex_digit (c / 16) ∷ hex_digit (c % 16) ∷ []

-- a name; the empty one is %, and - alone, which stands for no name, is escaped
unfoldable pub name_text : List ℕ → List ℕ
name_text name = if length name == 0 then 37 ∷ [] else if bytes_eq name (45 ∷ []) then 37 ∷ 50 ∷ 100 ∷ [] else flat_map byte_text name

-- a name, or - where there is none
abbrev pub name_or_none : Option (List ℕ) → List ℕ
name_or_none (Some name) = name_text name
name_or_none None = 45 ∷ []
