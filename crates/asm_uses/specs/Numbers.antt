-- Names with numbers, as they are looked up.
use Rattle.std.specs.Prelude.{ℕ, Bool, false, List, Option, Some, None, nat_lt}
use Rattle.std.specs.Map.{lookup}
use Rattle.std.specs.Str.{bytes_eq}

-- the number of the name that is spelled so
abbrev pub number_of : List (List ℕ × ℕ) → List ℕ → Option ℕ
number_of numbers bytes = lookup (bytes_eq bytes) numbers

-- there is a number, and it is below another
abbrev pub is_below : Option ℕ → ℕ → Bool
is_below None k = false
is_below (Some number) k = nat_lt number k
