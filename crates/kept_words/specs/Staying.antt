-- What leaves the keeper's view that of a state, and the numbers of grants. For the keeper, event by event.
use Rattle.std.specs.Prelude.{◌≡◌, ◌⊎◌, ℕ, ◌-◌, ◌<◌, Bool, true, false, List, Option, Some}
use Rattle.std.specs.List.{slice_get}
use Rattle.ld_base.specs.declared.linking.Choice.{Choice}
use Rattle.ld_base.specs.declared.linking.Role.TheVariants.{Ro, Rx, Slot}
use Rattle.history_event.specs.declared.event.Event.{Event}
use Rattle.history_event.specs.declared.event.Event.TheVariants as events
use Rattle.history_event.specs.declared.event.OpenAnswer.{OpenAnswer}
use Rattle.history_event.specs.declared.event.OpenAnswer.TheVariants as opens
use Rattle.history_event.specs.declared.state.Standing.{Standing}
use Rattle.history_event.specs.declared.state.Standing.TheVariants.{Bound, Lost}
use Rattle.word_rule.specs.declared.entry.Grant.{Grant}
use Rattle.word_rule.specs.declared.view.KeeperView.{KeeperView}
use Rattle.word_rule.specs.declared.view.Fate.{Fate}
use Rattle.word_rule.specs.declared.view.Fate.TheVariants.{Won, Lost as LostFate}
use Rattle.word_rule.specs.Allowed.{IsOf, Stands}
use Rattle.word_rule.specs.KeeperSteps.{settled_as, with_row}
use Rattle.word_rule.specs.Layout.{harts_at_most, place_of}
use Rattle.word_rule.specs.Views.{IsLong, kept_at, row_of}
use Rattle.history_state.specs.After.{after}
use Rattle.history_state.specs.Legal.{Lawful}
use Rattle.history_state.specs.Memory.{role_at, first_word_at}
use Rattle.history_state.specs.Setting.{Machine}
use Rattle.history_state.specs.State.{State}
use Rattle.history_state.specs.Step.{settle, step}
use Rattle.history_memory.specs.Memory.{IsDoubleword}
use Rattle.word_holds.specs.Shared.{IsOfState}

-- two states have the same memory, and the same grants
pub record SameMemory (s t : State) : Type 0 where
  pub role : (a : ℕ) → IsDoubleword a → role_at t a ≡ role_at s a
  pub word : (a : ℕ) → IsDoubleword a → (role_at s a ≡ Ro) ⊎ (role_at s a ≡ Rx) ⊎ (role_at s a ≡ Slot) → first_word_at t a ≡ first_word_at s a
  pub images : t.images ≡ s.images
  pub grants : t.grants ≡ s.grants

-- two views have the same words, but for what was seen of slots, and the same of each row's grants
pub record SameGrants (k l : KeeperView) : Type 0 where
  pub words : (d : ℕ) → kept_at l d ≡ record (kept_at k d) { fixed = (kept_at l d).fixed }
  pub pending : (m : ℕ) → (row_of l m).pending ≡ (row_of k m).pending
  pub settled : (m : ℕ) → (row_of l m).settled ≡ (row_of k m).settled

-- two numberings agree on what stands
abbrev pub SameNumbers : KeeperView → (ℕ → Grant → ℕ) → (ℕ → Grant → ℕ) → Type 0
SameNumbers k number next = (m : ℕ) (g : Grant) → m < harts_at_most → Stands (row_of k m) g → next m g ≡ number m g

abbrev pub StatesStay : Type 0
StatesStay = (s t : State) (k l : KeeperView) (number next : ℕ → Grant → ℕ) → SameMemory s t → SameGrants k l → SameNumbers k number next
    → IsOfState s k number → IsOfState t l next

-- events that bring no object, block or grant, and take none away
abbrev pub brings_nothing : OpenAnswer → Bool
brings_nothing answer = elim answer [ opens.Done id root added ranges ↦ false | _ ↦ true ]

abbrev pub leaves_memory : Event → Bool
leaves_memory e = elim e [
  | events.Open hart ask answer ↦ brings_nothing answer
  | events.Unmapped hart set ↦ false
  | events.Grant number hart owner slot choice value ↦ false
  | events.Bound number ↦ false
  | events.Lost number saw ↦ false
  | events.Tls hart owner address ↦ false
  | _ ↦ true
]

-- they change neither memory nor grants
abbrev pub EventsStay : Type 0
EventsStay = (s : State) (e : Event) → leaves_memory e ≡ true → SameMemory s (step s e)

-- the keeper's view with the fate of a hart's grant known
abbrev pub fated_in : Fate → ℕ → KeeperView → KeeperView
fated_in fate h k = with_row h (settled_as fate (row_of k h).pending (row_of k h)) k

-- a fate, and how the state's grant stands then
pub data Settles : Fate → Standing → Type 0 where
  as_bound : Settles Won Bound
  as_lost : (saw : ℕ) → Settles LostFate (Lost saw)

abbrev pub SettledStays : Type 0
SettledStays = (m : Machine) (events : List Event) (k : KeeperView) (number : ℕ → Grant → ℕ) (h : ℕ) (g : Grant) (fate : Fate) (standing : Standing)
    → Lawful m events
    → IsOfState (after events) k number → IsLong k → h < harts_at_most → (row_of k h).pending ≡ Some g → IsOf (kept_at k) (place_of g.entry.slot) g
    → Settles fate standing → IsOfState (settle (number h g) standing (after events)) (fated_in fate h k) number

-- ---- the numbers of grants

-- the number of the grant that an event is
unfoldable pub number_by : Option Event → ℕ
number_by (Some (events.Grant number hart owner slot choice value)) = number
number_by other = 0

-- of a grant with an entry of this journal
abbrev pub number_in : List Event → ℕ → Grant → ℕ
number_in journal hart g = number_by (slice_get journal (g.entry.number - 1))

-- each grant's event stands where its entry says
pub record IsGrantEvent (journal : List Event) (m : ℕ) (g : Grant) : Type 0 where
  pub number : ℕ
  pub owner : ℕ
  pub slot : ℕ
  pub choice : Choice
  pub at : slice_get journal (g.entry.number - 1) ≡ Some (events.Grant number m owner slot choice g.entry.value)
  pub some : 0 < g.entry.number

abbrev pub HaveEvents : List Event → KeeperView → Type 0
HaveEvents journal k = (m : ℕ) (g : Grant) → m < harts_at_most → Stands (row_of k m) g → IsGrantEvent journal m g
