-- Numbers: decimal, or hexadecimal after 0x, with or without a minus sign before them.
use Rattle.std.specs.Prelude.{ℕ, true, false, ◌+◌, ◌-◌, ◌*◌, ◌^◌, ◌==◌, nat_lt, ◌&&◌, if◌then◌else◌, List, [], ◌∷◌, Option, Some, None}
use Rattle.std.specs.Option.{option_map}
use Rattle.std.specs.Int.{is_in_range}
use Rattle.std.specs.Str.{byte}
use Rattle.asm_statement.specs.AsmWords.Text.{◌>>=◌}
use Rattle.asm_statement.specs.declared.number.Number.{Number}

-- the value of a digit
abbrev pub digit : ℕ → Option ℕ
digit code =
    if is_in_range (byte "0") (byte "9") code then Some (code - byte "0")
    else (if is_in_range (byte "a") (byte "f") code then Some (code - byte "a" + 10)
    else (if is_in_range (byte "A") (byte "F") code then Some (code - byte "A" + 10) else None))

-- a digit of a base
unfoldable pub digit_below : ℕ → ℕ → Option ℕ
digit_below base code = do
  value ← digit code
  if nat_lt value base then Some value else None

-- the number that digits make, after digits that make a number
abbrev pub continued : ℕ → ℕ → List ℕ → Option ℕ
continued base value [] = Some value
continued base value (first ∷ rest) = do
  next ← digit_below base first
  continued base (value * base + next) rest

-- the number that one digit or more make
abbrev pub number_in : ℕ → List ℕ → Option ℕ
number_in base [] = None
number_in base (first ∷ rest) = continued base 0 (first ∷ rest)

-- a number without a sign: in base 16 after 0x, else in base 10
abbrev pub unsigned : List ℕ → Option ℕ
unsigned (first ∷ second ∷ rest) =
    if (first == byte "0") && (second == byte "x") then number_in 16 rest else number_in 10 (first ∷ second ∷ rest)
unsigned text = number_in 10 text

-- a magnitude below 2^64, or none
abbrev pub kept : ℕ → Option ℕ
kept value = if nat_lt value (2 ^ 64) then Some value else None

-- a number
unfoldable pub number : List ℕ → Option Number
number [] = None
number (first ∷ rest) =
    if first == byte "-" then option_map (λ value. record { is_negative = true; magnitude = kept value }) (unsigned rest)
    else option_map (λ value. record { is_negative = false; magnitude = kept value }) (unsigned (first ∷ rest))
