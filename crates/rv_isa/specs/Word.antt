-- Words as fields side by side, and numbers in two's complement (Unprivileged ISA 20191213,
-- sections 2.2 and 2.3).
use Rattle.std.specs.Prelude.{◌≡◌, ℕ, ◌+◌, ◌-◌, ◌*◌, ◌/◌, ◌%◌, ◌^◌, List, [], ◌∷◌, ℤ, pos, ◌-ℤ◌, nat_lt, if◌then◌else◌}
use Rattle.std.specs.Int.{w32, cast_unsigned}

-- the number in the bits of a word from lo on, so many of them
unfoldable pub bits : ℕ → ℕ → ℕ → ℕ
bits lo width word = word / 2 ^ lo % 2 ^ width

-- the word that fields make, the lowest first, each with its width and its value
abbrev pub joined : List (ℕ × ℕ) → ℕ
joined [] = 0
joined (field ∷ fields) = field.1 + 2 ^ field.0 * joined fields

-- from a bit on, a word has these fields, the lowest first, and nothing above them
abbrev pub HasFields : ℕ → List (ℕ × ℕ) → ℕ → Type 0
HasFields low [] word = word / 2 ^ low ≡ 0
HasFields low (field ∷ fields) word = (bits low field.0 word ≡ field.1) × HasFields (low + field.0) fields word

-- the same bits of a signed number in two's complement
abbrev pub part : ℤ → ℕ → ℕ → ℕ
part number lo width = bits lo width (cast_unsigned w32 number)

-- the signed number that so many bits are in two's complement
abbrev pub signed : ℕ → ℕ → ℤ
signed width number = if nat_lt number (2 ^ (width - 1)) then pos number else (pos number -ℤ pos (2 ^ width))
