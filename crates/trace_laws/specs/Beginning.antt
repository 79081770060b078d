-- How the journal of a run begins.
use Rattle.std.specs.Prelude.{◌≡◌, false, List, ◌∷◌, ◌++◌, All, IsTrue}
use Rattle.history_calls.specs.Startup.{Starts}
use Rattle.history_calls.specs.declared.link_served.startup.Setup.{Setup}
use Rattle.history_calls.specs.declared.link_served.startup.Started.{Started}
use Rattle.history_event.specs.declared.event.Event.{Event}
use Rattle.history_state.specs.Setting.{Setting}
use Rattle.trace_check.specs.Harts.{ends_start, names_hart}
use Rattle.trace_read.specs.Fits.{IsWritable}
use Rattle.trace_read.specs.Said.{said_of}

-- its numbers and bytes are of their widths, as those of each event in memory are
abbrev pub IsWritten : Event → Type 0
IsWritten e = IsWritable (said_of e)

-- the start is over with one of these events, and before it no name is looked up for a hart other than the first
pub record BeginsAlone (events : List Event) : Type 0 where
  pub before : List Event
  pub over : Event
  pub behind : List Event
  pub are : events ≡ before ++ over ∷ behind
  pub ends : IsTrue (ends_start (said_of over))
  pub alone : All (λ e. names_hart (said_of e) ≡ false) before

-- startup's events, and then others by the first hart alone until the start is over
pub record StartsAlone (w : Setting) (setup : Setup) (journal : List Event) : Type 0 where
  pub startup : List Event
  pub started : Started
  pub starts : Starts w setup startup started
  pub others : List Event
  pub are : journal ≡ startup ++ others
  pub begins : BeginsAlone others
