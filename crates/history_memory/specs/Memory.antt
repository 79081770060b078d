-- Guest memory: the value and the role of each doubleword, by its address.
use Rattle.std.specs.Prelude.{◌≡◌, ℕ, ◌*◌, ◌/◌, ◌%◌, ◌≤◌, ◌<◌}
use Rattle.ld_base.specs.declared.linking.Role.{Role}

pub record Memory : Type 0 where
  pub value : ℕ → ℕ
  pub role : ℕ → Role

-- the address of a doubleword of guest memory
pub record IsDoubleword (a : ℕ) : Type 0 where
  pub low : 0x10000 ≤ a
  pub high : a < 0x810000
  pub whole : a % 8 ≡ 0

-- the doubleword that an address lies in
abbrev pub doubleword_of : ℕ → ℕ
doubleword_of a = a / 8 * 8

-- nothing changes
pub record IsSame (old new : Memory) : Type 0 where
  pub value : (a : ℕ) → IsDoubleword a → new.value a ≡ old.value a
  pub role : (a : ℕ) → IsDoubleword a → new.role a ≡ old.role a
