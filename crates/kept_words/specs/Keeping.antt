-- What leaves the keeper's record as it has to be. For the methods of the type behind the lock, one call after another.
use Rattle.std.specs.Prelude.{◌≡◌, ◌⊎◌, ℕ, ◌<◌, Bool, true, false, not, List, length, Some, Contains}
use Rattle.history_event.specs.declared.event.Event.{Event}
use Rattle.history_event.specs.declared.event.Event.TheVariants as events
use Rattle.history_event.specs.declared.event.Event.TheVariants.{Bound, Lost as LostEvent}
use Rattle.history_event.specs.declared.event.Range.{Range}
use Rattle.word_rule.specs.declared.entry.Entry.{Entry}
use Rattle.word_rule.specs.declared.entry.Grant.{Grant}
use Rattle.word_rule.specs.declared.view.KeeperView.{KeeperView}
use Rattle.word_rule.specs.KeeperSteps.{AreDecided, TellsAsk, awaited_if}
use Rattle.word_rule.specs.Allowed.{IsOf}
use Rattle.word_rule.specs.Layout.{harts_at_most, place_of}
use Rattle.word_rule.specs.Views.{IsLong, kept_at, row_of}
use Rattle.word_steps.specs.Knowing.{counted}
use Rattle.slot_bind.specs.declared.slot.Asked.{Asked}
use Rattle.slot_bind.specs.declared.slot.Asked.TheVariants.{Open, Won, Lost}
use Rattle.slot_bind.specs.Grants.{Saw, Says, asked_view, fated_view}
use Rattle.slot_bind.specs.Rows.{handed_over}
use Rattle.history_state.specs.Accepted.{AcceptsOnly}
use Rattle.history_state.specs.After.{after}
use Rattle.history_state.specs.Allowed.{Allowed}
use Rattle.history_state.specs.Changes.{StandsApart, taken}
use Rattle.history_state.specs.Legal.{Lawful}
use Rattle.history_state.specs.Setting.{Setting}
use Rattle.history_state.specs.State.{State}
use Rattle.history_state.specs.Step.{step}
use Rattle.history_calls.specs.Laws.{hart_of}
use Rattle.hart_trails.specs.Entries.{entry_behind}
use Rattle.word_holds.specs.Shared.{IsOfState}
use Rattle.kept_words.specs.Gone.{Goes}
use Rattle.kept_words.specs.Handed.{IsIssued}
use Rattle.kept_words.specs.Kept.{AreKept}
use Rattle.kept_words.specs.Remade.{IsRemade}
use Rattle.kept_words.specs.Staying.{brings_nothing, leaves_memory, number_in}

-- two views that differ only in what is known of calls under way
pub record IsAlike (k l : KeeperView) : Type 0 where
  pub events : l.events ≡ k.events
  pub generation : l.generation ≡ k.generation
  pub harts : l.harts ≡ k.harts
  pub long : IsLong l
  pub words : (d : ℕ) → kept_at l d ≡ kept_at k d
  pub issued : (m : ℕ) → (row_of l m).issued ≡ (row_of k m).issued
  pub pending : (m : ℕ) → (row_of l m).pending ≡ (row_of k m).pending
  pub settled : (m : ℕ) → (row_of l m).settled ≡ (row_of k m).settled
  pub losses : l.losses ≡ k.losses
  pub retired : l.retired ≡ k.retired

abbrev pub AlikeKept : Type 0
AlikeKept = (w : Setting) (begun : List Event) (k l : KeeperView) → IsAlike k l → AreKept w begun k → AreKept w begun l

-- a hart is found calling
abbrev pub AwaitedIsAlike : Type 0
AwaitedIsAlike = (k : KeeperView) (h : ℕ) → IsLong k → h < harts_at_most → IsAlike k (awaited_if h true k)

-- a hart's event that may come and leaves memory is counted, and the hart gets its entry
abbrev pub QuietKept : Type 0
QuietKept = (w : Setting) (begun : List Event) (k : KeeperView) (h : ℕ) (e : Event) (entry : Entry) → AreKept w begun k → h < w.machine.harts
    → hart_of e ≡ Some h → leaves_memory e ≡ true → Allowed w k.events e → entry ≡ entry_behind k.events e
    → AreKept w begun (handed_over h entry (counted e k))

-- a hart gets an answer without an event, which is true of the journal
abbrev pub AnsweredKept : Type 0
AnsweredKept = (w : Setting) (begun : List Event) (k : KeeperView) (h : ℕ) (entry : Entry) → AreKept w begun k → h < w.machine.harts
    → (entry.mark ≡ 2) ⊎ (entry.mark ≡ 6) → IsIssued w k.events h entry → AreKept w begun (handed_over h entry k)

-- ---- an event that remakes memory

-- it brings objects or a block, or takes objects away
abbrev pub remakes_memory : Event → Bool
remakes_memory e = elim e [
  | events.Open hart ask answer ↦ not (brings_nothing answer)
  | events.Unmapped hart set ↦ true
  | events.Tls hart owner address ↦ true
  | _ ↦ false
]

-- the view once memory is remade by the event: but for that, only the generation changed, what was shown of locked words, and which roles went. Before
-- words went, what came of each slot's grants was decided as far as their fates are known
pub record IsRemadeView (s : State) (e : Event) (k l : KeeperView) : Type 0 where
  pub remade : IsRemade s e (length k.events) k l
  pub long : IsLong l
  pub goes : Goes (taken s e) (step s e).generation k l
  pub decided : (r : Range) → Contains (taken s e) r → AreDecided k
  pub only : l ≡ record k { words = l.words; shown = l.shown; retired = l.retired; generation = (step s e).generation }

-- a hart's event that may come remade memory; it is counted, and the hart gets its entry
abbrev pub RemadeKept : Type 0
RemadeKept = (w : Setting) (begun : List Event) (k l : KeeperView) (h : ℕ) (e : Event) (entry : Entry)
    → AcceptsOnly w.machine → AreKept w begun k → h < w.machine.harts
    → hart_of e ≡ Some h → remakes_memory e ≡ true → Allowed w k.events e → IsRemadeView (after k.events) e k l
    → entry ≡ entry_behind k.events e → AreKept w begun (handed_over h entry (counted e l))

-- the slot of a grant whose fate isn't known isn't among what comes and goes
abbrev pub PendingStay : Type 0
PendingStay = (w : Setting) (past : List Event) (e : Event) (k : KeeperView) (number : ℕ → Grant → ℕ) (m : ℕ) (g : Grant)
    → AcceptsOnly w.machine → Lawful w.machine past → Allowed w past e → IsOfState (after past) k number → m < harts_at_most
    → (row_of k m).pending ≡ Some g → IsOf (kept_at k) (place_of g.entry.slot) g → StandsApart (after past) e g.entry.slot

-- ---- a grant is asked for, and settled where it is known what came of it

-- its event is counted
abbrev pub settled_view : ℕ → Asked → KeeperView → KeeperView
settled_view number Open k = k
settled_view number Won k = counted (Bound number) k
settled_view number (Lost saw) k = counted (LostEvent number saw) k

abbrev pub AskedKept : Type 0
AskedKept = (w : Setting) (begun : List Event) (k : KeeperView) (h state : ℕ) (g : Grant) (answer : Asked) → AcceptsOnly w.machine → AreKept w begun k
    → h < harts_at_most → (row_of k h).pending ≡ Some g → TellsAsk k h state → Says state answer → Saw (fated_view h answer k) g answer
    → AreKept w begun (settled_view (number_in k.events h g) answer (asked_view h answer k))
