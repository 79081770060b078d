-- What the journal of a run is besides legal: whose its events are, and of which harts it tells that all have ended.
use Rattle.std.specs.Prelude.{◌≡◌, ◌↔◌, ℕ, ◌<◌, ◌==◌, List, [], ◌∷◌, ◌++◌, filter, take, Some, IsTrue}
use Rattle.history_event.specs.declared.event.Event.{Event}
use Rattle.history_event.specs.declared.hart_end.HartEnd.TheVariants.{Exit}
use Rattle.history_event.specs.declared.state.Ending.{Ending}
use Rattle.history_calls.specs.declared.link_served.startup.Setup.{Setup}
use Rattle.history_calls.specs.declared.link_served.startup.Started.{Started}
use Rattle.history_state.specs.After.{after}
use Rattle.history_state.specs.Allowed.{MayEnd}
use Rattle.history_state.specs.Setting.{Setting, are_finals, have_exited}
use Rattle.history_state.specs.State.{State}
use Rattle.history_calls.specs.Laws.{hart_of}
use Rattle.history_calls.specs.Startup.{Starts}

-- ---- events

-- where an event has a hart, it is one that there is, and it hasn't ended, or it is the first one in the final destructors
abbrev pub IsByHart : Setting → List Event → Event → Type 0
IsByHart w past e = (h : ℕ) → hart_of e ≡ Some h → (h < w.machine.harts) × MayEnd w (after past) h

-- so it is of each of these, which come one after another
abbrev pub AreByHarts : Setting → List Event → List Event → Type 0
AreByHarts w past [] = Unit {0}
AreByHarts w past (e ∷ rest) = IsByHart w past e × AreByHarts w (past ++ e ∷ []) rest

-- ---- ends

-- what a hart ended as, the first end first
abbrev pub ends_of : State → ℕ → List Ending
ends_of s h = filter (λ e. e.hart == h) s.endings

-- its first end is an exit, and these came later
pub record ExitsFirst (s : State) (h : ℕ) (later : List Ending) : Type 0 where
  pub code : ℕ
  pub are : ends_of s h ≡ record { hart = h; «end» = Exit code } ∷ later

-- as many ends by exit as there are harts are one of each hart; and nothing more has ended where none of them ended again
pub record CountsEachHart (w : Setting) (s : State) : Type 0 where
  pub exits : IsTrue (have_exited w s) ↔ ((h : ℕ) → h < w.machine.harts → (later : List Ending) × ExitsFirst s h later)
  pub finals : IsTrue (are_finals w s) ↔ ((h : ℕ) → h < w.machine.harts → ExitsFirst s h [])

-- ---- a run

-- startup's events, and then others; each of a hart that runs; and at each moment a count of ends by exit is one of each hart
pub record IsRunJournal (w : Setting) (setup : Setup) (journal : List Event) : Type 0 where
  pub startup : List Event
  pub started : Started
  pub starts : Starts w setup startup started
  pub others : List Event
  pub are : journal ≡ startup ++ others
  pub by : AreByHarts w [] journal
  pub counts : (k : ℕ) → CountsEachHart w (after (take k journal))

-- ---- how it grows

-- startup's events are such a journal
abbrev pub RunJournalsStart : Type 0
RunJournalsStart = (w : Setting) (setup : Setup) (journal : List Event) (started : Started) → Starts w setup journal started → IsRunJournal w setup journal

-- and it stays one with events of harts that run
abbrev pub RunJournalsGrow : Type 0
RunJournalsGrow = (w : Setting) (setup : Setup) (journal more : List Event) → IsRunJournal w setup journal → AreByHarts w journal more
    → IsRunJournal w setup (journal ++ more)
