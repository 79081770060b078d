-- What holds of whole ways. For whoever closes a run, and ties each hart's trail to its journal.
use Rattle.std.specs.Prelude.{◌≡◌, ◌≢◌, ℕ, ◌<◌, List, ◌++◌, length, Some, Contains}
use Rattle.history_event.specs.declared.event.Event.{Event}
use Rattle.history_event.specs.declared.hart_end.HartEnd.{HartEnd}
use Rattle.word_rule.specs.declared.view.HartView.{HartView}
use Rattle.word_rule.specs.declared.view.TrailItem.{TrailItem}
use Rattle.history_state.specs.After.{after}
use Rattle.history_state.specs.Setting.{Setting, have_exited}
use Rattle.history_calls.specs.Laws.{hart_of}
use Rattle.hart_moves.specs.Follows.{AreOthers, HasNone}
use Rattle.hart_moves.specs.Harts.{HartState}
use Rattle.hart_moves.specs.Moves.{all_finis}
use Rattle.hart_moves.specs.Starting.{HartStart}
use Rattle.hart_trails.specs.Owners.{AreNobodys}
use Rattle.hart_trails.specs.Trails.{LeavesToItsEnd}
use Rattle.hart_threads.specs.Ends.{RanWhole}
use Rattle.hart_threads.specs.Turns.{RunsBy}

-- of a hart that isn't the first nothing comes behind its end
abbrev pub OthersRunWhole : Type 0
OthersRunWhole = (w : Setting) (start : HartStart) (begun : List TrailItem) (seat : HartView) (b : HartState) (reason : HartEnd)
    → RunsBy w start.from start.hart begun seat b → b.«end» ≡ Some reason → seat.number ≢ 0 → RanWhole w start begun seat reason

-- a whole way is one over a longer journal, if nothing more of it is the hart's; of the first hart, if who has exited and what is left stays so
abbrev pub WaysStay : Type 0
WaysStay = (w : Setting) (journal more : List Event) (start : HartStart) (h : ℕ) (reason : HartEnd) (trail : List TrailItem)
    → LeavesToItsEnd w journal start h reason trail → AreOthers h more
    → (h ≡ 0 → have_exited w (after (journal ++ more)) ≡ have_exited w (after journal))
    → (h ≡ 0 → all_finis (after (journal ++ more)) ≡ all_finis (after journal))
    → LeavesToItsEnd w (journal ++ more) start h reason trail

-- ---- events of nobody, which settle grants

-- whole ways stay so over them, that of the first hart, too
abbrev pub WaysStayBehind : Type 0
WaysStayBehind = (w : Setting) (journal more : List Event) (start : HartStart) (h : ℕ) (reason : HartEnd) (trail : List TrailItem)
    → LeavesToItsEnd w journal start h reason trail → AreNobodys more → LeavesToItsEnd w (journal ++ more) start h reason trail

-- what stands in a journal behind the last event of each hart is nobody's
abbrev pub RestIsNobodys : Type 0
RestIsNobodys = (w : Setting) (journal more : List Event) → ((e : Event) (h : ℕ) → Contains more e → hart_of e ≡ Some h → h < w.machine.harts)
    → ((h : ℕ) → h < w.machine.harts → HasNone (journal ++ more) h (length journal) (length (journal ++ more))) → AreNobodys more
