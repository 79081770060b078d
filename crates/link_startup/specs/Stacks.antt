-- In which stacks the harts of a run start.
use Rattle.std.specs.Prelude.{◌≡◌, ℕ, ◌+◌, ◌*◌, ◌%◌, ◌≤◌, List, Contains, Some}
use Rattle.std.specs.List.{slice_get}
use Rattle.history_event.specs.declared.event.Event.{Event}
use Rattle.history_event.specs.declared.event.Purpose.TheVariants.{Stack}
use Rattle.history_event.specs.declared.event.Range.{Range}
use Rattle.history_event.specs.declared.handed.HartEntry.{HartEntry}
use Rattle.history_state.specs.After.{after}
use Rattle.history_state.specs.Setting.{Setting}
use Rattle.history_state.specs.State.{State}
use Rattle.history_calls.specs.declared.link_served.startup.Setup.{Setup}
use Rattle.history_calls.specs.declared.link_served.startup.Started.{Started}
use Rattle.history_calls.specs.Startup.{Starts, harts_of}

-- the sp is in the stack that is the hart's own, 48 bytes below its end, and a multiple of 16 (psABI)
pub record StartsInStack (s : State) (hart sp : ℕ) : Type 0 where
  pub stack : Range
  pub reserved : Contains s.ranges stack
  pub own : stack.purpose ≡ Stack hart
  pub top : sp + 48 ≡ stack.address + 4096 * stack.pages
  pub within : stack.address ≤ sp
  pub aligned : sp % 16 ≡ 0

-- that of each hart of a run that has started
abbrev pub StacksAreOwn : Type 0
StacksAreOwn = (w : Setting) (setup : Setup) (journal : List Event) (started : Started) (hart : ℕ) (entry : HartEntry) → w.machine.harts ≡ harts_of setup
    → Starts w setup journal started → slice_get started.entries hart ≡ Some entry → StartsInStack (after journal) hart entry.sp
