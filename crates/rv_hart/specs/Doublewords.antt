-- A doubleword of memory, its lanes, and what each call of a bus does to it.
use Rattle.std.specs.Prelude.{◌≡◌, ℕ, ◌+◌, ◌-◌, ◌*◌, ◌/◌, ◌%◌, ◌^◌, List, [], ◌∷◌, Bool, true, Option, Some, None, Result, Ok, Err, slice_index_or, slice_set}
use Rattle.std.specs.Prelude.{nat_lt, ◌==◌, if◌then◌else◌}
use Rattle.ld_base.specs.declared.linking.Role.{Role}
use Rattle.ld_base.specs.declared.linking.Role.TheVariants.{None as NoRole}
use Rattle.rv_isa.specs.Word.{bits, joined}
use Rattle.rv_hart.specs.declared.bus.BusFault.{BusFault}
use Rattle.rv_hart.specs.declared.bus.BusFault.TheVariants.{Role as RoleFault, Misaligned}
use Rattle.rv_hart.specs.declared.bus.Item.{Item}
use Rattle.rv_hart.specs.declared.bus.Item.TheVariants.{Fetch, Read, Write, Amo, Reserve, Conditional}
use Rattle.rv_hart.specs.declared.doubleword.Doubleword.{Doubleword}
use Rattle.rv_hart.specs.Arithmetic.{combined}
use Rattle.rv_hart.specs.Buses.{may_fetch, may_read, may_write}

-- the lowest bit of an address within its doubleword, the lowest byte first
abbrev pub low_bit : ℕ → ℕ
low_bit address = 8 * (address % 8)

-- the bytes at an address, of the doubleword that holds them
unfoldable pub lane : ℕ → ℕ → ℕ → ℕ
lane word address size = bits (low_bit address) (8 * size) word

-- the doubleword with other bytes at an address: what is below them, they, and what is above them
unfoldable pub with_lane : ℕ → ℕ → ℕ → ℕ → ℕ
with_lane word address size value =
    let low = low_bit address in
    let width = 8 * size in
    joined ((low, bits 0 low word) ∷ (width, value) ∷ (64 - (low + width), word / 2 ^ (low + width)) ∷ [])

-- why a call may not do what it asks, where it may not: its address isn't aligned, or the role
-- doesn't allow it
abbrev pub refusal : Bool → ℕ → ℕ → Role → Option BusFault
refusal allowed address size role = if address % size == 0 then (if allowed then None else Some (RoleFault role)) else Some Misaligned

-- an answer, or why there is none
abbrev pub answer_or : {T : Type 0} → Option BusFault → T → Result T BusFault
answer_or None value = Ok value
answer_or (Some fault) value = Err fault

abbrev pub checked : {T : Type 0} → (Role → Bool) → ℕ → ℕ → Role → T → Result T BusFault
checked may address size role value = answer_or (refusal (may role) address size role) value

-- a version counts modulo 2^60: one word of a memory that harts share holds it beside a role and a lock
abbrev pub raised : ℕ → ℕ
raised version = (version + 1) % 2 ^ 60

-- a store raises the version
abbrev pub stored : Doubleword → ℕ → ℕ → ℕ → Doubleword
stored word address size value = record { value = with_lane word.value address size value; role = word.role; version = raised word.version }

-- what is left where a call answered this
abbrev pub if_ok : {T : Type 0} → Result T BusFault → Doubleword → Doubleword → Doubleword
if_ok (Ok value) changed word = changed
if_ok (Err fault) changed word = word

abbrev pub if_stored : Result Bool BusFault → Doubleword → Doubleword → Doubleword
if_stored (Ok true) changed word = changed
if_stored _ changed word = word

-- what a call does to the doubleword that it is at
abbrev pub DoesAt : Doubleword → Item → Doubleword → Type 0
DoesAt word (Fetch address answer) word' = (answer ≡ checked may_fetch address 4 word.role (lane word.value address 4)) × (word' ≡ word)
DoesAt word (Read address size answer) word' = (answer ≡ checked may_read address size word.role (lane word.value address size)) × (word' ≡ word)
DoesAt word (Write address size value answer) word' =
    (answer ≡ checked may_write address size word.role tt) × (word' ≡ if_ok answer (stored word address size value) word)
DoesAt word (Amo address size op value answer) word' =
    (answer ≡ checked may_write address size word.role (lane word.value address size))
    × (word' ≡ if_ok answer (stored word address size (combined op size (lane word.value address size) value)) word)
DoesAt word (Reserve address size answer) word' =
    (answer ≡ checked may_read address size word.role (lane word.value address size, word.version)) × (word' ≡ word)
DoesAt word (Conditional address size value version answer) word' =
    (answer ≡ checked may_write address size word.role (word.version == version)) × (word' ≡ if_stored answer (stored word address size value) word)

-- a doubleword that isn't there
abbrev pub nowhere : Doubleword
nowhere = record { value = 0; role = NoRole; version = 0 }

-- the address of a call
abbrev pub address_of : Item → ℕ
address_of (Fetch address answer) = address
address_of (Read address size answer) = address
address_of (Write address size value answer) = address
address_of (Amo address size op value answer) = address
address_of (Reserve address size answer) = address
address_of (Conditional address size value version answer) = address

-- the doubleword at an address, of those that lie side by side from the address `first` on, and these with another one there
abbrev pub word_at : ℕ → List Doubleword → ℕ → Doubleword
word_at first words address = if nat_lt address first then nowhere else slice_index_or words ((address - first) / 8) nowhere

abbrev pub with_word_at : ℕ → List Doubleword → ℕ → Doubleword → List Doubleword
with_word_at first words address word = if nat_lt address first then words else slice_set words ((address - first) / 8) word

-- what a call does to doublewords that lie side by side from the address `first` on, a multiple of 8
abbrev pub DoesIn : ℕ → List Doubleword → Item → List Doubleword → Type 0
DoesIn first words item words' =
    let at = address_of item in (word' : Doubleword) × DoesAt (word_at first words at) item word' × (words' ≡ with_word_at first words at word')
