-- The bytes of a line.
use Rattle.std.specs.Prelude.{ℕ, Bool, not, ◌||◌, ◌==◌, if◌then◌else◌}
use Rattle.std.specs.Int.{is_in_range}
use Rattle.std.specs.Str.{byte}

-- a byte that a line may have: a tab, a blank or a printed one
unfoldable pub is_printed : ℕ → Bool
is_printed code = code == 9 || is_in_range 32 126 code

-- whether what follows a byte stands in quotes: each quotation mark begins or ends them
abbrev pub is_quoted_after : Bool → ℕ → Bool
is_quoted_after is_quoted code = if code == byte "\"" then not is_quoted else is_quoted
