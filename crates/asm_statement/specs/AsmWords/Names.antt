-- Names: letters, digits, low lines and points, a digit not the first.
use Rattle.std.specs.Prelude.{ℕ, Bool, false, not, ◌&&◌, ◌||◌, ◌==◌, if◌then◌else◌, List, [], ◌∷◌, Option, Some, None}
use Rattle.std.specs.List.{list_all}
use Rattle.std.specs.Str.{byte}
use Rattle.std.specs.Char.{is_ascii_digit, is_ascii_alphanumeric}

unfoldable pub is_name_byte : ℕ → Bool
is_name_byte code = is_ascii_alphanumeric code || code == byte "_" || code == byte "."

unfoldable pub may_begin : ℕ → Bool
may_begin code = not (is_ascii_digit code)

unfoldable pub is_name : List ℕ → Bool
is_name [] = false
is_name (first ∷ rest) = may_begin first && list_all is_name_byte (first ∷ rest)

abbrev pub name : List ℕ → Option (List ℕ)
name text = if is_name text then Some text else None
