-- A grant is posted: the view is that of the state with the grant. For the keeper, which posts it.
use Rattle.std.specs.Prelude.{◌≡◌, ◌≢◌, ℕ, ◌<◌, [], ◌∷◌, ◌++◌, None}
use Rattle.history_event.specs.declared.state.Granting.{Granting}
use Rattle.history_event.specs.declared.state.Standing.TheVariants.{Open}
use Rattle.word_rule.specs.declared.entry.Grant.{Grant}
use Rattle.word_rule.specs.declared.view.KeeperView.{KeeperView}
use Rattle.word_rule.specs.Allowed.{IsOf, Stands}
use Rattle.word_rule.specs.Layout.{harts_at_most, place_of}
use Rattle.word_rule.specs.Views.{IsLong, kept_at, row_of}
use Rattle.history_state.specs.State.{State}
use Rattle.history_memory.specs.Holds.{IsSlotAt}
use Rattle.history_memory.specs.Memory.{IsDoubleword}
use Rattle.slot_bind.specs.Grants.{posted}
use Rattle.word_holds.specs.Shared.{IsOfState}

-- the state has one grant more, which is open, and the hart's row has it
pub record Posts (s : State) (k : KeeperView) (number next : ℕ → Grant → ℕ) (m : ℕ) (g : Grant) (x : Granting) : Type 0 where
  pub low : m < harts_at_most
  pub settled : (row_of k m).pending ≡ None
  pub open_yet : x.standing ≡ Open
  pub value : x.value ≡ g.entry.value
  pub slot : IsSlotAt s g.entry.slot x.owner x.slot
  pub place : (a : ℕ) → IsDoubleword a → IsSlotAt s a x.owner x.slot → a ≡ g.entry.slot
  pub numbered : next m g ≡ x.number
  pub same : (j : ℕ) (p : Grant) → j < harts_at_most → Stands (row_of k j) p → next j p ≡ number j p
  pub fresh : (j : ℕ) (p : Grant) → j < harts_at_most → Stands (row_of k j) p → number j p ≢ x.number

abbrev pub PostedStays : Type 0
PostedStays = (s : State) (k : KeeperView) (number next : ℕ → Grant → ℕ) (m : ℕ) (g : Grant) (x : Granting)
    → IsLong k → IsOfState s k number → Posts s k number next m g x
    → IsOf (kept_at k) (place_of g.entry.slot) g → IsOfState (record s { grants = s.grants ++ x ∷ [] }) (posted m g k) next
