-- What changes guest memory: an event, a store, an exchange.
use Rattle.std.specs.Prelude.{◌≡◌, ◌≢◌, ℕ, not, ◌==◌, List, filter, if◌then◌else◌, Contains, IsTrue}
use Rattle.ld_base.specs.declared.linking.Role.TheVariants.{None as NoRole, Rw, Rx}
use Rattle.history_event.specs.declared.event.Event.{Event}
use Rattle.history_event.specs.declared.event.Event.TheVariants as events
use Rattle.history_event.specs.declared.event.Range.{Range}
use Rattle.history_event.specs.declared.state.Granting.{Granting}
use Rattle.history_event.specs.declared.state.Standing.TheVariants.{Open}
use Rattle.history_state.specs.State.{State}
use Rattle.history_state.specs.Addresses.{is_linkers_page}
use Rattle.history_state.specs.Changes.{StandsApart, reserved, taken}
use Rattle.history_state.specs.Memory.{covers, ebreaks, role_at, first_word_at}
use Rattle.history_state.specs.Step.{step}
use Rattle.history_memory.specs.Holds.{IsSlotAt, lazy_at}
use Rattle.history_memory.specs.Memory.{IsDoubleword, Memory}

-- ---- before the first event

-- the linker's own page alone has a role, and ebreaks in it
pub record Begins (memory : Memory) : Type 0 where
  pub role : (a : ℕ) → IsDoubleword a → memory.role a ≡ (if is_linkers_page a then Rx else NoRole)
  pub code : (a : ℕ) → IsDoubleword a → IsTrue (is_linkers_page a) → memory.value a ≡ ebreaks

-- ---- an event

-- what is reserved gets the roles and the words of the state after it, what is taken away loses its role, and all else stays
pub record Remade (s : State) (e : Event) (old new : Memory) : Type 0 where
  pub kept : (a : ℕ) → IsDoubleword a → StandsApart s e a → (new.value a ≡ old.value a) × (new.role a ≡ old.role a)
  pub given : (r : Range) (a : ℕ) → IsDoubleword a → Contains (reserved s e) r → IsTrue (covers a r)
      → (new.value a ≡ first_word_at (step s e) a) × (new.role a ≡ role_at (step s e) a)
  pub gone : (r : Range) (a : ℕ) → IsDoubleword a → Contains (taken s e) r → IsTrue (covers a r) → new.role a ≡ NoRole

-- the grants that have won and aren't settled, after an event
abbrev pub won_after : Event → List ℕ → List ℕ
won_after (events.Bound number) won = filter (λ n. not (n == number)) won
won_after other won = won

-- a grant is bound only if it won, and lost only if it didn't
abbrev pub SettlesRightly : List ℕ → Event → Type 0
SettlesRightly won (events.Bound number) = Contains won number
SettlesRightly won (events.Lost number saw) = ¬ (Contains won number)
SettlesRightly won other = Unit {0}

-- ---- a store

-- a doubleword that may be written changes alone
pub record Stores (old new : Memory) (a : ℕ) : Type 0 where
  pub may : old.role a ≡ Rw
  pub others : (b : ℕ) → IsDoubleword b → b ≢ a → new.value b ≡ old.value b
  pub role : (b : ℕ) → IsDoubleword b → new.role b ≡ old.role b

-- ---- an exchange

-- an open grant, and the address of its slot
pub record MayExchange (s : State) (a : ℕ) (g : Granting) : Type 0 where
  pub place : IsDoubleword a
  pub there : Contains s.grants g
  pub open_yet : g.standing ≡ Open
  pub of : IsSlotAt s a g.owner g.slot

abbrev pub HasSlot : State → Granting → Type 0
HasSlot s g = (a : ℕ) × MayExchange s a g

-- it found the lazy word and left the grant's value
pub record Wins (s : State) (a : ℕ) (g : Granting) (old new : Memory) : Type 0 where
  pub found : old.value a ≡ lazy_at s a
  pub left : new.value a ≡ g.value
  pub others : (b : ℕ) → IsDoubleword b → b ≢ a → new.value b ≡ old.value b
  pub role : (b : ℕ) → IsDoubleword b → new.role b ≡ old.role b
