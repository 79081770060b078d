-- Shared words as guest memory, and when the keeper's view of them is that of a state of the linker.
use Rattle.std.specs.Prelude.{◌≡◌, ◌⊎◌, ℕ, ◌<◌, List, Some, Contains}
use Rattle.ld_base.specs.declared.linking.Role.TheVariants.{Ro, Rx, Slot}
use Rattle.history_event.specs.declared.state.Granting.{Granting}
use Rattle.history_event.specs.declared.state.Standing.TheVariants.{Bound, Open}
use Rattle.word_rule.specs.declared.entry.Grant.{Grant}
use Rattle.word_rule.specs.declared.view.Fate.TheVariants.{Won}
use Rattle.word_rule.specs.declared.view.HartView.{HartView}
use Rattle.word_rule.specs.declared.view.KeeperView.{KeeperView}
use Rattle.word_rule.specs.Allowed.{IsOf, Stands}
use Rattle.word_rule.specs.Layout.{control_at, harts_at_most, place_of, role_in, value_at}
use Rattle.word_rule.specs.Slots.{HasWon}
use Rattle.word_rule.specs.Views.{exchanges_of, kept_at, row_of}
use Rattle.history_state.specs.Memory.{role_at, first_word_at}
use Rattle.history_state.specs.State.{State}
use Rattle.history_memory.specs.Holds.{IsSlotAt, lazy_at}
use Rattle.history_memory.specs.Memory.{IsDoubleword, Memory}

-- guest memory of shared words: the value of each doubleword, and the role that its control word gives it
abbrev pub memory_of : (ℕ → ℕ) → Memory
memory_of word = record { value = λ a. word (value_at (place_of a)); role = λ a. role_in (word (control_at (place_of a))) }

-- a hart's grant is one of the state's: its slot, its value, and that it is open while the keeper hasn't asked for it, and bound once
-- it is known as won
pub record IsGrantOf (s : State) (k : KeeperView) (m : ℕ) (g : Grant) (x : Granting) : Type 0 where
  pub there : Contains s.grants x
  pub value : x.value ≡ g.entry.value
  pub slot : IsSlotAt s g.entry.slot x.owner x.slot
  pub open_yet : (row_of k m).pending ≡ Some g → x.standing ≡ Open
  pub bound : Contains (row_of k m).settled (record { grant = g; fate = Won }) → x.standing ≡ Bound

-- the keeper's view is that of a state: roles, the words put there first, lazy words, and the grants of slots that are there. `number`
-- gives the number of a hart's grant in the state
pub record IsOfState (s : State) (k : KeeperView) (number : ℕ → Grant → ℕ) : Type 0 where
  pub role : (a : ℕ) → IsDoubleword a → (kept_at k (place_of a)).role ≡ role_at s a
  pub word : (a : ℕ) → IsDoubleword a → (role_at s a ≡ Ro) ⊎ (role_at s a ≡ Rx) ⊎ (role_at s a ≡ Slot) → (kept_at k (place_of a)).value ≡ first_word_at s a
  pub lazy : (a : ℕ) → IsDoubleword a → role_at s a ≡ Slot → (kept_at k (place_of a)).lazy ≡ lazy_at s a
  -- a grant that stands is one of the state's
  pub granted : (m : ℕ) (g : Grant) → m < harts_at_most → Stands (row_of k m) g → IsOf (kept_at k) (place_of g.entry.slot) g
      → (x : Granting) × (x.number ≡ number m g) × IsGrantOf s k m g x
  -- and each of the state's that is open or bound, of a slot that is there, is one that stands
  pub stands : (a : ℕ) (x : Granting) → IsDoubleword a → Contains s.grants x → (x.standing ≡ Bound) ⊎ (x.standing ≡ Open) → IsSlotAt s a x.owner x.slot
      → (m : ℕ) × (g : Grant) × (m < harts_at_most) × Stands (row_of k m) g × IsOf (kept_at k) (place_of a) g × (number m g ≡ x.number) × IsGrantOf s k m g x
  -- a number is that of one grant
  pub one : (m n : ℕ) (g p : Grant) → m < harts_at_most → n < harts_at_most → Stands (row_of k m) g → Stands (row_of k n) p → number m g ≡ number n p
      → (m ≡ n) × (g ≡ p)

-- the grants that have won, of those that the keeper hasn't asked for
pub record HaveWon (k : KeeperView) (hart : ℕ → HartView) (number : ℕ → Grant → ℕ) (won : List ℕ) : Type 0 where
  pub all : (m : ℕ) (g : Grant) → m < harts_at_most → (row_of k m).pending ≡ Some g → HasWon (exchanges_of (hart m).trail) g → Contains won (number m g)
  pub only : (n : ℕ) → Contains won n → (m : ℕ) × (g : Grant) × (m < harts_at_most) × ((row_of k m).pending ≡ Some g) × HasWon (exchanges_of (hart m).trail) g
      × (number m g ≡ n)
