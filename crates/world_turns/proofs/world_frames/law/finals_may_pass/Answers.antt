use Rattle.world_turns.proofs.WorldFrames.Finals.{finals_finish, finals_pass}
use Rattle.world_turns.proofs.world_frames.law.finals_may_pass.Goals as goal

pub returns-clause-own : goal.returns-clause-own
returns-clause-own c = finals_finish

pub returns-clause-next : goal.returns-clause-next
returns-clause-next c = finals_pass
