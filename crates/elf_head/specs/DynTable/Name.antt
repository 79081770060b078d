-- Strings of a string table (gABI, "String Table").
use Rattle.std.specs.Prelude.{◌≡◌, ℕ, ◌+◌, ◌≤◌, ◌<◌, ◌==◌, slice_range, List, [], length, take, drop, Option, unwrap_or}
use Rattle.elf_head.specs.AcceptancePart.Before.{before, StandsBefore}

-- the string at an offset: the bytes before the first zero byte, which is one of the 4,096 bytes from there on
unfoldable pub string_at : List ℕ → ℕ → Option (List ℕ)
string_at strings offset = before (λ b. b == 0) (take 4096 (drop offset strings))

-- the same as a relation: from the offset on stands the string, which has no zero byte, then a zero byte
pub record IsStringAt (strings : List ℕ) (offset : ℕ) (name : List ℕ) : Type 0 where
  pub ended : StandsBefore (λ b. b == 0) name (drop offset strings)
  pub short : length name < 4096

-- the name is what stands from the offset on
pub record StandsAt (strings : List ℕ) (offset : ℕ) (name : List ℕ) : Type 0 where
  pub held : offset + length name ≤ length strings
  pub cut : slice_range strings offset (offset + length name) ≡ name

-- the string at an offset, empty where there is none
abbrev pub string_in : List ℕ → ℕ → List ℕ
string_in strings offset = unwrap_or (string_at strings offset) []
