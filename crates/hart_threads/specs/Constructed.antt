-- Startup's constructors come first. For whoever tells what a run on threads leaves, and for whoever judges its journal.
use Rattle.std.specs.Prelude.{◌≡◌, ℕ, List, ◌++◌, length, Some, Contains}
use Rattle.history_event.specs.declared.event.Event.{Event}
use Rattle.history_event.specs.declared.hart_end.HartEnd.{HartEnd}
use Rattle.history_calls.specs.declared.link_served.startup.Setup.{Setup}
use Rattle.history_calls.specs.declared.link_served.startup.Started.{Started}
use Rattle.history_calls.specs.Laws.{hart_of}
use Rattle.history_state.specs.Setting.{Setting}
use Rattle.word_rule.specs.declared.view.TrailItem.{TrailItem}
use Rattle.hart_moves.specs.Follows.{HasNone, Turned}
use Rattle.hart_moves.specs.Harts.{HartState}
use Rattle.hart_moves.specs.Starting.{HartStart, IsStartOf}
use Rattle.hart_trails.specs.Trails.{FollowsBy, LeavesToItsEnd}
use Rattle.hart_threads.specs.Run.{HasStarted}

-- they are over where these events stand behind startup's. None of them is another hart's than the first one's, whose turns bring it there from
-- where startup sets it off: it has run the constructors then, or has ended
pub record IsConstructed (w : Setting) (setup : Setup) (past alone : List Event) (started : Started) : Type 0 where
  pub own : (e : Event) (h : ℕ) → Contains alone e → hart_of e ≡ Some h → h ≡ 0
  pub start : HartStart
  pub sets_off : IsStartOf setup.fuel past started 0 start
  pub turns : List Turned
  pub items : List TrailItem
  pub to : ℕ
  pub hart : HartState
  pub follows : FollowsBy w (past ++ alone) 0 start.from start.hart turns items to hart
  pub none : HasNone (past ++ alone) 0 to (length (past ++ alone))
  pub over : HasStarted hart

-- its trail begins with what these turns left, and from there its turns bring it to this end
pub record GoesOn (w : Setting) (setup : Setup) (past alone : List Event) (started : Started) (c : IsConstructed w setup past alone started)
    (journal : List Event) (reason : HartEnd) (trail : List TrailItem) : Type 0 where
  pub rest : List TrailItem
  pub whole : trail ≡ c.items ++ rest
  pub way : LeavesToItsEnd w journal (record c.start { from = length (past ++ alone); hart = c.hart }) 0 reason rest
