use Rattle.hart_trails.proofs.Marks.{marks_follow}
use Rattle.hart_trails.proofs.law.blocks_are_asked_once.Goals as goal

pub returns : goal.returns
returns c = marks_follow
