-- Numbers as lines have them: digits without a zero before them. For the code of this crate alone.
use Rattle.std.specs.Prelude.{ℕ, ◌+◌, ◌-◌, ◌*◌, ◌^◌, ◌==◌, nat_lt, if◌then◌else◌, codes, List, [], ◌∷◌, Option, Some, None}
use Rattle.std.specs.Int.{is_in_range}
use Rattle.trace_read.specs.Pieces.{◌>>=◌, labelled, pair}

-- a number below a bound
abbrev pub below : ℕ → ℕ → Option ℕ
below bound n = if nat_lt n bound then Some n else None

-- the value of a lower-case digit
abbrev pub digit_value : ℕ → Option ℕ
digit_value byte = if is_in_range 48 57 byte then Some (byte - 48) else (if is_in_range 97 102 byte then Some (byte - 87) else None)

-- a digit of a base
unfoldable pub digit : ℕ → ℕ → Option ℕ
digit base byte = digit_value byte >>= below base

-- the number of 64 bits that digits make, behind digits that make a number
abbrev pub continued : ℕ → ℕ → List ℕ → Option ℕ
continued base value [] = Some value
continued base value (byte ∷ rest) = digit base byte >>= λ d. below (2 ^ 64) (value * base + d) >>= λ n. continued base n rest

unfoldable pub numeral : ℕ → List ℕ → Option ℕ
numeral base [] = None
numeral base (byte ∷ []) = digit base byte
numeral base (byte ∷ next ∷ rest) = if byte == 48 then None else continued base 0 (byte ∷ next ∷ rest)

abbrev pub decimal_in : ℕ → List ℕ → Option ℕ
decimal_in bound text = numeral 10 text >>= below bound

abbrev pub hexadecimal_in : ℕ → List ℕ → Option ℕ
hexadecimal_in bound text = labelled (numeral 16) (codes "0x") text >>= below bound

-- a definition: the object, and the index of its symbol
abbrev pub definition : List ℕ → Option (ℕ × ℕ)
definition text = pair 46 (numeral 10) (decimal_in (2 ^ 32)) text
