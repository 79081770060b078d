-- A run's setting without its files, and what it may do all the same.
use Rattle.std.specs.Prelude.{ℕ, List, None}
use Rattle.history_event.specs.declared.event.Event.{Event}
use Rattle.history_state.specs.Allowed.{Allowed}
use Rattle.history_state.specs.Setting.{Setting}
use Rattle.history_calls.specs.declared.link_served.startup.Setup.{Setup}
use Rattle.history_calls.specs.declared.link_served.startup.Started.{Started}
use Rattle.history_calls.specs.Answer.{Answer}
use Rattle.history_calls.specs.Call.{Call}
use Rattle.history_calls.specs.Gives.{Serves}
use Rattle.history_calls.specs.Startup.{Starts}

abbrev pub untold : Setting → Setting
untold w = record w { files = None }

abbrev pub AllowedUntold : Type 0
AllowedUntold = (w : Setting) (past : List Event) (e : Event) → Allowed w past e → Allowed (untold w) past e

abbrev pub ServesUntold : Type 0
ServesUntold = (w : Setting) (past : List Event) (h : ℕ) (call : Call) (appended : List Event) (answer : Answer)
    → Serves w past h call appended answer → Serves (untold w) past h call appended answer

abbrev pub StartsUntold : Type 0
StartsUntold = (w : Setting) (setup : Setup) (journal : List Event) (started : Started) → Starts w setup journal started
    → Starts (untold w) setup journal started
