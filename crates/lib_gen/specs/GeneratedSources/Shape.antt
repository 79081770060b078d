-- How many libraries a number makes, and how many functions each has.
use Rattle.std.specs.Prelude.{ℕ, ◌+◌, ◌*◌, ◌/◌, ◌%◌}

unfoldable pub library_count : ℕ → ℕ
library_count number = 8 + number % 57

unfoldable pub function_count : ℕ → ℕ
function_count number = 4 + number / 64 % 61

-- each library exports its functions, and one more that they call; each of these is one symbol, and its one use one slot
abbrev pub symbol_count : ℕ → ℕ
symbol_count number = library_count number * (function_count number + 1)

-- the program calls each function once
abbrev pub call_count : ℕ → ℕ
call_count number = library_count number * function_count number
