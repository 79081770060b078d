use Rattle.hart_moves.specs.TurnFrames.Lemmas.Turning.{turns_leave_frames}
use Rattle.hart_moves.proofs.turn_frames.law.turns_leave_frames.Goals as goal

pub returns : goal.returns
returns c = turns_leave_frames
