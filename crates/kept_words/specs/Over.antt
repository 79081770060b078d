-- The end of a run: the journal is a whole history, and harts' trails say what it says. For whoever joins the harts.
use Rattle.std.specs.Prelude.{◌≡◌, ◌≢◌, ℕ, ◌+◌, ◌<◌, List, [], length, map, drop, None, Contains, IsTrue}
use Rattle.history_event.specs.declared.event.Event.{Event}
use Rattle.history_event.specs.declared.event.Event.TheVariants.{Bound, Lost}
use Rattle.word_rule.specs.declared.entry.Entry.{Entry}
use Rattle.word_rule.specs.declared.entry.Exchange.{Exchange}
use Rattle.word_rule.specs.declared.entry.Grant.{Grant}
use Rattle.word_rule.specs.declared.view.Fate.{Fate}
use Rattle.word_rule.specs.declared.view.HartView.{HartView}
use Rattle.word_rule.specs.declared.view.KeeperView.{KeeperView}
use Rattle.word_rule.specs.KeeperSteps.{AreDecided, HasTakenAll}
use Rattle.word_rule.specs.Layout.{harts_at_most}
use Rattle.word_rule.specs.Views.{entries_of, exchanges_of, row_of}
use Rattle.history_state.specs.Accepted.{AcceptsOnly}
use Rattle.history_state.specs.After.{after}
use Rattle.history_state.specs.Legal.{Whole}
use Rattle.history_state.specs.Links.{finis_of}
use Rattle.history_state.specs.Objects.{mapped, serial_of}
use Rattle.history_state.specs.Setting.{Setting, are_finals}
use Rattle.kept_words.specs.Fetched.{AreCode}
use Rattle.kept_words.specs.Handed.{IsIssued, event_numbers, own_numbers}
use Rattle.kept_words.specs.Kept.{AreKept, IsFateEvent, ShowsLoss}
use Rattle.kept_words.specs.Staying.{IsGrantEvent, number_in}

-- what became of each grant is known. Of a slot that is there, and was lazy at first, one grant won where another was lost, with the value that was seen
-- in the slot; what a slot holds that no grant has lost isn't said
pub record IsOver (k : KeeperView) : Type 0 where
  pub settled : (m : ℕ) → m < harts_at_most → (row_of k m).pending ≡ None
  pub decided : AreDecided k

-- where every hart's end was an exit, what was initialised is finalised
abbrev pub IsFinished : Setting → List Event → Type 0
IsFinished w journal = IsTrue (are_finals w (after journal)) → finis_of (after journal) (map serial_of (mapped (after journal))) ≡ []

abbrev pub OverIsWhole : Type 0
OverIsWhole = (w : Setting) (begun : List Event) (k : KeeperView)
    → AcceptsOnly w.machine → AreKept w begun k → IsOver k → IsFinished w k.events → Whole w k.events

-- ---- a hart whose seat was joined once it had taken all

-- each entry of its trail is true of the journal, and those of events are its events since the seats were made. Its exchanges that won are of its
-- grants that were bound, and its others of those that were lost, whose events show the words that they found. Each fetch found code,
-- but where an executable word was taken away
pub record TrailIsTrue (w : Setting) (begun journal : List Event) (h : ℕ) (j : HartView) : Type 0 where
  pub issued : (e : Entry) → Contains (entries_of j.trail) e → IsIssued w journal h e
  pub events : event_numbers (entries_of j.trail) ≡ own_numbers h (length begun + 1) (drop (length begun) journal)
  pub granted : (x : Exchange) → Contains (exchanges_of j.trail) x → IsGrantEvent journal h x.grant
  pub won : (x : Exchange) → Contains (exchanges_of j.trail) x → x.found ≡ x.grant.lazy → Contains journal (Bound (number_in journal h x.grant))
  pub lost : (x : Exchange) → Contains (exchanges_of j.trail) x → x.found ≢ x.grant.lazy → Contains journal (Lost (number_in journal h x.grant) x.found)
  pub fetched : AreCode journal j.trail

abbrev pub TrailsAreTrue : Type 0
TrailsAreTrue = (w : Setting) (begun : List Event) (k : KeeperView) (h state : ℕ) (j : HartView)
    → AreKept w begun k → h < harts_at_most → (row_of k h).pending ≡ None
    → HasTakenAll k h state j → TrailIsTrue w begun k.events h j

-- each grant that was bound is one that a hart's exchange won, and each that was lost one that it lost, with the word that was seen
pub record IsExchanged (journal : List Event) (k : KeeperView) (n : ℕ) (f : Fate) (e : Event) : Type 0 where
  pub hart : ℕ
  pub grant : Grant
  pub low : hart < harts_at_most
  pub event : IsGrantEvent journal hart grant
  pub number_is : number_in journal hart grant ≡ n
  pub fate : Contains (row_of k hart).settled (record { grant = grant; fate = f })
  pub shown : ShowsLoss k.losses hart grant e

abbrev pub FatesAreExchanges : Type 0
FatesAreExchanges = (w : Setting) (begun : List Event) (k : KeeperView) (n : ℕ) (f : Fate) (e : Event)
    → AreKept w begun k → Contains k.events e → IsFateEvent n f e
    → IsExchanged k.events k n f e
