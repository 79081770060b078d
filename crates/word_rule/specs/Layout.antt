-- Where the words of guest memory stand, and what a control word is.
-- First come a word that nothing changes, the generation, the count, and a row of six words for each of 16 harts. From the
-- word 128 on, each doubleword has two words: its value, and its control word.
use Rattle.std.specs.Prelude.{◌≡◌, ℕ, ◌+◌, ◌-◌, ◌*◌, ◌/◌, ◌%◌, ◌≤◌, ◌<◌, List, [], ◌∷◌, slice_index_or}
use Rattle.ld_base.specs.declared.linking.Role.{Role}
use Rattle.ld_base.specs.declared.linking.Role.TheVariants.{None as NoRole, Ro, Rx, Rw, Slot as SlotRole}
use Rattle.word_rule.specs.declared.entry.RowWord.{RowWord}
use Rattle.word_rule.specs.declared.entry.RowWord.TheVariants.{Number, Slot, Lazy, Value, Generation}

-- ---- words

-- guest memory has 2,048 pages of 512 doublewords
unfoldable pub doublewords : ℕ
doublewords = 1048576

abbrev pub quiet_at : ℕ
quiet_at = 0

abbrev pub generation_at : ℕ
generation_at = 1

abbrev pub count_at : ℕ
count_at = 2

abbrev pub harts_at_most : ℕ
harts_at_most = 16

-- the word i of a hart's row; the first is its state
abbrev pub row_at : ℕ → ℕ → ℕ
row_at hart i = 6 * hart + i + 8

abbrev pub state_at : ℕ → ℕ
state_at hart = row_at hart 0

abbrev pub index_of : RowWord → ℕ
index_of Number = 1
index_of Slot = 2
index_of Lazy = 3
index_of Value = 4
index_of Generation = 5

abbrev pub value_at : ℕ → ℕ
value_at d = 2 * d + 128

abbrev pub control_at : ℕ → ℕ
control_at d = 2 * d + 129

abbrev pub table_words : ℕ
table_words = 2 * doublewords + 128

-- ---- addresses

abbrev pub first_address : ℕ
first_address = 0x10000

-- the doubleword that holds an address
unfoldable pub place_of : ℕ → ℕ
place_of address = (address - first_address) / 8

-- the address of a doubleword
abbrev pub address_of : ℕ → ℕ
address_of d = 8 * d + first_address

-- the address is one of guest memory
abbrev pub IsInMemory : ℕ → Type 0
IsInMemory address = (first_address ≤ address) × (place_of address < doublewords)

-- the address is that of a doubleword
abbrev pub IsDoubleword : ℕ → Type 0
IsDoubleword address = IsInMemory address × (address % 8 ≡ 0)

-- ---- control words: the role in bits 0 to 2, the lock in bit 3, the version above

abbrev pub role_code : Role → ℕ
role_code NoRole = 0
role_code Ro = 1
role_code Rx = 2
role_code Rw = 3
role_code SlotRole = 4

abbrev pub roles : List Role
roles = NoRole ∷ Ro ∷ Rx ∷ Rw ∷ SlotRole ∷ []

abbrev pub role_in : ℕ → Role
role_in control = slice_index_or roles (control % 8) NoRole

abbrev pub lock_bit : ℕ → ℕ
lock_bit control = control / 8 % 2

abbrev pub version_in : ℕ → ℕ
version_in control = control / 16

-- what is added to a control word with the lock to unlock it, with another role or with the same one
abbrev pub to_lock : ℕ
to_lock = 8

abbrev pub to_unlock : Role → Role → ℕ
to_unlock old new = 8 + role_code new - role_code old
