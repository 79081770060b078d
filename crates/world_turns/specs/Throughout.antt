-- What holds of a whole run on one thread, at each of its worlds and at its end.
use Rattle.std.specs.Prelude.{◌≢◌, ℕ, ◌<◌, List, length, Contains, IsTrue}
use Rattle.history_event.specs.declared.state.Granting.{Granting}
use Rattle.history_event.specs.declared.state.Standing.TheVariants.{Open}
use Rattle.history_calls.specs.declared.link_served.startup.Setup.{Setup}
use Rattle.rv_hart.specs.Registers.{Registers}
use Rattle.history_state.specs.Accepted.{AcceptsOnly}
use Rattle.history_state.specs.After.{after}
use Rattle.history_state.specs.Setting.{Setting}
use Rattle.history_state.specs.Slots.{HasNoGrant}
use Rattle.world_turns.specs.declared.schedules.schedule.TurnItem.{TurnItem}
use Rattle.world_turns.specs.Run.{Constructs, Finalises, RunFinishes, Run, TakesItems, have_ended}
use Rattle.world_turns.specs.Sound.{Sound}
use Rattle.world_turns.specs.World.{World}

-- ---- one part of a run after another

abbrev pub ConstructorsKeep : Type 0
ConstructorsKeep = (w : Setting) (old new : World) → AcceptsOnly w.machine → Constructs w old new → Sound w old → Sound w new

abbrev pub ItemsKeep : Type 0
ItemsKeep =
    (w : Setting) (items : List TurnItem) (old new : World) → AcceptsOnly w.machine → TakesItems w items old new → Sound w old → Sound w new

abbrev pub RoundsKeep : Type 0
RoundsKeep = (w : Setting) (old new : World) → AcceptsOnly w.machine → RunFinishes w old new → Sound w old → Sound w new

abbrev pub FinalsKeep : Type 0
FinalsKeep = (w : Setting) (registers : Registers) (old new : World) → AcceptsOnly w.machine → Finalises w registers old new → Sound w old
    → Sound w new

-- ---- a run

-- it is sound when it starts, behind each of its parts, and at its end
pub record IsSoundThroughout (w : Setting) (setup : Setup) (items : List TurnItem) (world : World) (run : Run w setup items world) : Type 0 where
  pub started : Sound w run.started
  pub constructed : Sound w run.constructed
  pub scheduled : Sound w run.scheduled
  pub finished : Sound w run.finished
  pub finalised : Sound w run.finalised
  pub ended : Sound w world

abbrev pub RunsAreSound : Type 0
RunsAreSound = (w : Setting) (setup : Setup) (items : List TurnItem) (world : World) (run : Run w setup items world) → AcceptsOnly w.machine
    → IsSoundThroughout w setup items world run

-- at its end each hart has ended
abbrev pub RunsEnd : Type 0
RunsEnd = (w : Setting) (setup : Setup) (items : List TurnItem) (world : World) → Run w setup items world → IsTrue (have_ended world)

-- and none has an open grant
abbrev pub RunsLeaveNoGrant : Type 0
RunsLeaveNoGrant = (w : Setting) (setup : Setup) (items : List TurnItem) (world : World) → Run w setup items world → AcceptsOnly w.machine
    → (h : ℕ) → h < w.machine.harts → HasNoGrant (after world.journal) h

-- each grant of it is of one of its harts
abbrev pub GrantsAreOfHarts : World → Type 0
GrantsAreOfHarts world = (g : Granting) → Contains (after world.journal).grants g → g.hart < length world.harts

abbrev pub RunsGrantHarts : Type 0
RunsGrantHarts = (w : Setting) (setup : Setup) (items : List TurnItem) (world : World) → Run w setup items world → GrantsAreOfHarts world

-- so that no grant is open, as a whole history has it
abbrev pub RunsSettle : Type 0
RunsSettle = (w : Setting) (setup : Setup) (items : List TurnItem) (world : World) → Run w setup items world → AcceptsOnly w.machine
    → (g : Granting) → Contains (after world.journal).grants g → g.standing ≢ Open
