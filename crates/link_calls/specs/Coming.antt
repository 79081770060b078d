-- What calls of a linker's state come to: the words of the service, over the state before a call and after it.
use Rattle.std.specs.Prelude.{◌≡◌, ℕ, List, ◌++◌, Option}
use Rattle.history_calls.specs.CallLaws.Coming.{Comes, IsOn, LooksUp}
use Rattle.history_journal.specs.Following.{machine_of}
use Rattle.history_event.specs.declared.event.Event.{Event}
use Rattle.history_state.specs.Setting.{Setting}
use Rattle.history_calls.specs.declared.link_served.served.Served.{Served}
use Rattle.history_calls.specs.Call.{Call}
use Rattle.history_calls.specs.Served.{IsTold}
use Rattle.link_state.specs.Table.{LinkTable}

-- the call came to this (dlclose(3))
abbrev pub ComesIn : LinkTable → ℕ → Call → Served → LinkTable → Type 0
ComesIn old hart call came new = Comes (IsOn (machine_of old.harts)) old.events new.events hart call came

-- the look-up came to this, and made that (dlsym(3))
abbrev pub LooksUpIn : LinkTable → ℕ → Call → Served → LinkTable → Type 0
LooksUpIn old hart call came new = LooksUp (machine_of old.harts) old.events new.events old.made new.made hart call came

-- the hart was told this (dlerror(3))
pub record TellsIn (old : LinkTable) (hart : ℕ) (text : Option (List ℕ)) (new : LinkTable) : Type 0 where
  pub given : List Event
  pub are : new.events ≡ old.events ++ given
  pub told : (w : Setting) → IsOn (machine_of old.harts) w → IsTold w old.events hart text given
