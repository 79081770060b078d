-- A hart's fuel bounds its turns. For whoever asks how long a run may go on.
use Rattle.std.specs.Prelude.{ℕ, ◌+◌, ◌≤◌, List, [], ◌++◌, length}
use Rattle.history_event.specs.declared.event.Event.{Event}
use Rattle.history_event.specs.declared.hart_end.HartEnd.{HartEnd}
use Rattle.history_calls.specs.declared.link_served.startup.Started.{Started}
use Rattle.history_state.specs.Setting.{Setting}
use Rattle.rv_hart.specs.Registers.{Registers}
use Rattle.word_rule.specs.declared.view.TrailItem.{TrailItem}
use Rattle.hart_moves.specs.Follows.{Turned}
use Rattle.hart_moves.specs.Harts.{HartState}
use Rattle.hart_moves.specs.Starting.{HartStart, IsStartOf}
use Rattle.hart_trails.specs.Trails.{LeavesBehind, LeavesToItsEnd}

-- the turns of the final destructors
abbrev pub turns_behind : {w : Setting} {journal : List Event} {h : ℕ} {registers : Registers} {from : ℕ} {ended : HartState} {first reason : HartEnd}
    {trail : List TrailItem} → LeavesBehind w journal h registers from ended first reason trail → List Turned
turns_behind (LeavesBehind.is_another other none) = []
turns_behind (LeavesBehind.none_runs is none runs) = []
turns_behind (LeavesBehind.none_is_left is none left) = []
turns_behind (LeavesBehind.no_memory is at lacks none) = []
turns_behind (LeavesBehind.all_run is at to begun last turns trail reason begins follows ends none) = turns

-- all turns of a hart, from its start to its end
abbrev pub turns_of : {w : Setting} {journal : List Event} {start : HartStart} {h : ℕ} {reason : HartEnd} {trail : List TrailItem}
    → LeavesToItsEnd w journal start h reason trail → List Turned
turns_of way = way.turns ++ turns_behind way.behind

-- they are no more than its fuel and three: a slot that was granted in its last turn is exchanged and given back behind that, and then it ends
abbrev pub FuelBounds : Type 0
FuelBounds = (w : Setting) (journal : List Event) (fuel : ℕ) (past : List Event) (started : Started) (start : HartStart) (h : ℕ) (reason : HartEnd)
    (trail : List TrailItem) → IsStartOf fuel past started h start → (way : LeavesToItsEnd w journal start h reason trail)
    → length (turns_of way) ≤ fuel + 3
