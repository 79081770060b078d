-- What an ask of the keeper says of how a grant may be settled. For the keeper, which settles grants before it serves a call.
use Rattle.std.specs.Prelude.{◌≡◌, ℕ, ◌%◌, ◌<◌, List, Some}
use Rattle.history_event.specs.declared.event.Event.{Event}
use Rattle.word_rule.specs.declared.entry.Grant.{Grant}
use Rattle.word_rule.specs.declared.view.Fate.TheVariants.{Lost}
use Rattle.word_rule.specs.declared.view.KeeperView.{KeeperView}
use Rattle.word_rule.specs.KeeperSteps.{TellsAsk, TellsSlot, settled_as, with_row}
use Rattle.word_rule.specs.Layout.{harts_at_most, place_of}
use Rattle.word_rule.specs.Views.{IsLong, row_of}
use Rattle.history_state.specs.Accepted.{AcceptsOnly}
use Rattle.history_state.specs.After.{after}
use Rattle.history_state.specs.Legal.{Lawful}
use Rattle.history_state.specs.Setting.{Machine}
use Rattle.history_state.specs.Slots.{MayBind, MayLose}
use Rattle.word_holds.specs.Shared.{IsOfState}

abbrev pub WonMayBind : Type 0
WonMayBind = (m : Machine) (events : List Event) (k : KeeperView) (number : ℕ → Grant → ℕ) (h n : ℕ) (g : Grant) → AcceptsOnly m → Lawful m events
    → IsOfState (after events) k number → h < harts_at_most → (row_of k h).pending ≡ Some g → TellsAsk k h n → n % 8 ≡ 4 → MayBind (after events) (number h g)

-- the keeper's view with the fate of the grant known as lost
abbrev pub lost_in : ℕ → KeeperView → KeeperView
lost_in h k = with_row h (settled_as Lost (row_of k h).pending (row_of k h)) k

abbrev pub LostMayLose : Type 0
LostMayLose = (m : Machine) (events : List Event) (k : KeeperView) (number : ℕ → Grant → ℕ) (h n saw : ℕ) (g : Grant) → AcceptsOnly m → Lawful m events
    → IsOfState (after events) k number → IsLong k → h < harts_at_most → (row_of k h).pending ≡ Some g → TellsAsk k h n
    → TellsSlot (lost_in h k) (place_of g.entry.slot) saw → MayLose (after events) (number h g) saw
