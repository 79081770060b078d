-- What the loops that put words and take them away leave of a view. For whoever writes those loops, and for the keeper, which installs and unmaps.
use Rattle.std.specs.Prelude.{◌≡◌, ◌≢◌, ℕ, ◌≤◌, ◌<◌, true, List, Contains}
use Rattle.ld_base.specs.declared.linking.Role.TheVariants.{None as NoRole, Slot}
use Rattle.history_event.specs.declared.event.Event.{Event}
use Rattle.history_event.specs.declared.event.Range.{Range}
use Rattle.word_rule.specs.declared.entry.Grant.{Grant}
use Rattle.word_rule.specs.declared.view.KeeperView.{KeeperView}
use Rattle.word_rule.specs.Allowed.{Stands}
use Rattle.word_rule.specs.Layout.{harts_at_most, place_of}
use Rattle.word_rule.specs.Views.{kept_at, row_of}
use Rattle.history_state.specs.Accepted.{AcceptsOnly}
use Rattle.history_state.specs.After.{after}
use Rattle.history_state.specs.Allowed.{Allowed}
use Rattle.history_state.specs.Changes.{StandsApart, reserved, taken}
use Rattle.history_state.specs.Legal.{Lawful}
use Rattle.history_state.specs.Memory.{covers, role_at, first_word_at}
use Rattle.history_state.specs.Setting.{Machine, Setting}
use Rattle.history_state.specs.State.{State}
use Rattle.history_state.specs.Step.{step}
use Rattle.history_memory.specs.Holds.{lazy_at}
use Rattle.history_memory.specs.Memory.{IsDoubleword}
use Rattle.word_holds.specs.Shared.{IsOfState}

-- a doubleword was put there: its role, its first word, a slot's lazy word, and the count at which it was put there. One without a role has
-- nothing more
pub record IsGiven (t : State) (count : ℕ) (l : KeeperView) (a : ℕ) : Type 0 where
  pub role : (kept_at l (place_of a)).role ≡ role_at t a
  pub word : role_at t a ≢ NoRole → (kept_at l (place_of a)).value ≡ first_word_at t a
  pub lazy : role_at t a ≡ Slot → (kept_at l (place_of a)).lazy ≡ lazy_at t a
  pub since : role_at t a ≢ NoRole → (kept_at l (place_of a)).since ≡ count

-- a view is remade by an event: what it reserves is given, what it takes away has no role, all other words stay, and so do the grants
pub record IsRemade (s : State) (e : Event) (count : ℕ) (k l : KeeperView) : Type 0 where
  pub kept : (a : ℕ) → IsDoubleword a → StandsApart s e a → kept_at l (place_of a) ≡ kept_at k (place_of a)
  pub given : (r : Range) (a : ℕ) → IsDoubleword a → Contains (reserved s e) r → covers a r ≡ true → IsGiven (step s e) count l a
  pub gone : (r : Range) (a : ℕ) → IsDoubleword a → Contains (taken s e) r → covers a r ≡ true → (kept_at l (place_of a)).role ≡ NoRole
  pub pending : (m : ℕ) → (row_of l m).pending ≡ (row_of k m).pending
  pub settled : (m : ℕ) → (row_of l m).settled ≡ (row_of k m).settled

-- by an event that leaves the grants as they are, where all of them came before the count
abbrev pub RemadeStays : Type 0
RemadeStays = (m : Machine) (w : Setting) (past : List Event) (e : Event) (k l : KeeperView) (number : ℕ → Grant → ℕ) (count : ℕ)
    → w.machine ≡ m → AcceptsOnly m → Lawful m past → Allowed w past e
    → (step (after past) e).grants ≡ (after past).grants → IsOfState (after past) k number → IsRemade (after past) e count k l
    → ((h : ℕ) (g : Grant) → h < harts_at_most → Stands (row_of k h) g → g.entry.number ≤ count) → IsOfState (step (after past) e) l number
