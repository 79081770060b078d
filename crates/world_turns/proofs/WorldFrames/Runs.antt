-- The frames of a run's worlds, until the final destructors begin.
use Rattle.std.proofs.Common.{ℕ, List}
use Rattle.history_calls.specs.declared.link_served.startup.Setup.{Setup}
use Rattle.history_state.specs.Accepted.{AcceptsOnly}
use Rattle.history_state.specs.Setting.{Setting}
use Rattle.world_turns.specs.declared.schedules.schedule.TurnItem.{TurnItem}
use Rattle.world_turns.specs.Laws.{StartIsSound, TurnsAreSound}
use Rattle.world_turns.specs.Run.{Run}
use Rattle.world_turns.specs.Sound.{Sound}
use Rattle.world_turns.specs.Turn.{Turn}
use Rattle.world_turns.specs.World.{World}
use Rattle.world_turns.specs.Lemmas.Running.{constructs, finishes, items_keep}
use Rattle.world_turns.specs.WorldEnds.Ends.{BeforeFinals}
use Rattle.world_turns.specs.WorldEnds.Laws.{StartFits, TurnsKeepBefore}
use Rattle.world_turns.specs.WorldFrames.Belong.{FramesBelong}
use Rattle.world_turns.specs.WorldFrames.Laws.{FramesBelongThroughout, RunsBelong, StartBelongs, TurnsKeepFrames}

pub record RunLaws : Type 0 where
  pub start_sound : StartIsSound
  pub turns_sound : TurnsAreSound
  pub start_ends : StartFits
  pub turns_end : TurnsKeepBefore
  pub start : StartBelongs
  pub turns : TurnsKeepFrames

-- what each turn before the final destructors keeps
record Stands (w : Setting) (world : World) : Type 0 where
  pub sound : Sound w world
  pub before : BeforeFinals w world
  pub belong : FramesBelong world

module _ (laws : RunLaws) (w : Setting) (only : AcceptsOnly w.machine) where
  turn_stands : (h : ℕ) (old new : World) → Stands w old → Turn w h old new → Stands w new
  turn_stands h old new x turn =
      let sound : Sound w new = laws.turns_sound w h old new only x.sound turn in
      record { sound = sound; before = laws.turns_end w h old new turn x.before; belong = laws.turns w h old new sound.legal turn x.before x.belong }

  pub belong_so : (setup : Setup) (items : List TurnItem) (world : World) (run : Run w setup items world) → FramesBelongThroughout w setup items world run
  belong_so setup items world run =
      let started : Stands w run.started = record { sound = laws.start_sound w setup run.started only run.starts; before = laws.start_ends w setup run.started run.starts; belong = laws.start w setup run.started run.starts } in
      let constructed : Stands w run.constructed = constructs w (Stands w) turn_stands run.started run.constructed run.constructs started in
      let scheduled : Stands w run.scheduled = items_keep w (Stands w) turn_stands items run.constructed run.scheduled run.follows constructed in
      let finished : Stands w run.finished = finishes w (Stands w) turn_stands run.scheduled run.finished run.finishes scheduled in
      record { started = started.belong; constructed = constructed.belong; scheduled = scheduled.belong; finished = finished.belong }

pub runs_belong : RunLaws → RunsBelong
runs_belong laws w setup items world run only = belong_so laws w only setup items world run
