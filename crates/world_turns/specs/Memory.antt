-- What turns do to guest memory: the doublewords from 0x10000 on.
use Rattle.std.specs.Prelude.{◌≡◌, ℕ, ◌==◌, if◌then◌else◌, List, [], ◌∷◌, length, Contains, IsTrue}
use Rattle.ld_base.specs.declared.linking.Role.TheVariants.{None as NoRole, Rx}
use Rattle.history_event.specs.declared.event.Event.{Event}
use Rattle.history_event.specs.declared.event.Range.{Range}
use Rattle.history_state.specs.Addresses.{is_linkers_page}
use Rattle.history_state.specs.After.{after}
use Rattle.history_state.specs.Changes.{StandsApart, reserved, taken}
use Rattle.history_state.specs.Memory.{covers, ebreaks, role_at, first_word_at}
use Rattle.history_state.specs.State.{State}
use Rattle.history_state.specs.Step.{step}
use Rattle.history_memory.specs.Memory.{IsDoubleword, Memory}
use Rattle.rv_hart.specs.Doublewords.{DoesIn, raised, with_word_at}
use Rattle.rv_hart.specs.Doublewords as doublewords
use Rattle.rv_hart.specs.declared.doubleword.Doubleword.{Doubleword}
use Rattle.rv_hart.specs.Trail.{Chain}
use Rattle.hart_moves.specs.Harts.{Offered}
use Rattle.hart_moves.specs.Moves.{Did}

-- the lowest address, and how many doublewords there are
abbrev pub lowest : ℕ
lowest = 0x10000

abbrev pub word_count : ℕ
word_count = 0x100000

abbrev pub doubleword : List Doubleword → ℕ → Doubleword
doubleword words a = doublewords.word_at lowest words a

-- value and role of each
abbrev pub memory_of : List Doubleword → Memory
memory_of words = record { value = λ a. (doubleword words a).value; role = λ a. (doubleword words a).role }

-- ---- before startup

-- the linker's own page is there, and nothing else
abbrev pub fresh_word : ℕ → Doubleword
fresh_word a =
    if is_linkers_page a then record { value = ebreaks; role = Rx; version = 0 } else record { value = 0; role = NoRole; version = 0 }

pub record AreFresh (words : List Doubleword) : Type 0 where
  pub all : length words ≡ word_count
  pub each : (a : ℕ) → IsDoubleword a → doubleword words a ≡ fresh_word a

-- ---- events

-- what an event reserves gets its first words and its roles, what it takes away loses its role alone, and the version of both rises; all else stays
pub record Remakes (s : State) (e : Event) (old new : List Doubleword) : Type 0 where
  pub all : length new ≡ length old
  pub kept : (a : ℕ) → IsDoubleword a → StandsApart s e a → doubleword new a ≡ doubleword old a
  pub given : (r : Range) (a : ℕ) → IsDoubleword a → Contains (reserved s e) r → IsTrue (covers a r)
      → doubleword new a ≡ record { value = first_word_at (step s e) a; role = role_at (step s e) a; version = raised (doubleword old a).version }
  pub gone : (r : Range) (a : ℕ) → IsDoubleword a → Contains (taken s e) r → IsTrue (covers a r)
      → doubleword new a ≡ record (doubleword old a) { role = NoRole; version = raised (doubleword old a).version }

-- one event after another
abbrev pub RemakesAll : State → List Event → List Doubleword → List Doubleword → Type 0
RemakesAll s [] old new = new ≡ old
RemakesAll s (e ∷ rest) old new = (between : List Doubleword) × Remakes s e old between × RemakesAll (step s e) rest between new

-- ---- an exchange

-- the chosen value is put into the slot where the lazy word is still there; no store of a hart's is made
abbrev pub with_value : ℕ → Doubleword → Doubleword
with_value value word = record word { value = value }

abbrev pub exchanged : Offered → List Doubleword → List Doubleword
exchanged o words =
    if (doubleword words o.slot).value == o.lazy then with_word_at lowest words o.slot (with_value o.value (doubleword words o.slot)) else words

-- ---- a turn

-- after these events, a turn that did this left memory so
abbrev pub Does : List Event → List Doubleword → Did → List Doubleword → Type 0
Does past old (Did.quiet items) new = Chain (DoesIn lowest) old items new
Does past old (Did.serves items appended) new =
    (between : List Doubleword) × Chain (DoesIn lowest) old items between × RemakesAll (after past) appended between new
Does past old (Did.waits for) new = new ≡ old
Does past old (Did.exchanges o found) new = (found ≡ (doubleword old o.slot).value) × (new ≡ exchanged o old)
Does past old Did.finishes new = new ≡ old
