use Rattle.world_turns.proofs.WorldFrames.Settled.{finals_settled, frames_settled}
use Rattle.world_turns.proofs.world_frames.law.settling_keeps_frames.Goals as goal

pub returns-clause-frames : goal.returns-clause-frames
returns-clause-frames c = frames_settled

pub returns-clause-finals : goal.returns-clause-finals
returns-clause-finals c = finals_settled
