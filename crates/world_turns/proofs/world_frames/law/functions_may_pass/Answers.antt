use Rattle.world_turns.specs.WorldFrames.Lemmas.Passing.{closings_pass, frames_close, frames_finish, frames_pass, openings_pass}
use Rattle.world_turns.proofs.world_frames.law.functions_may_pass.Goals as goal

pub returns-clause-frames : goal.returns-clause-frames
returns-clause-frames c =
    frames_pass (record { starts = c.constructors_follow.ensures.next; finishes = c.destructors_follow.ensures.next; begins = c.constructors_follow.ensures.begins })

pub returns-clause-openings : goal.returns-clause-openings
returns-clause-openings c =
    openings_pass (record { starts = c.constructors_follow.ensures.next; finishes = c.destructors_follow.ensures.next; begins = c.constructors_follow.ensures.begins })

pub returns-clause-closings : goal.returns-clause-closings
returns-clause-closings c =
    closings_pass (record { starts = c.constructors_follow.ensures.next; finishes = c.destructors_follow.ensures.next; begins = c.constructors_follow.ensures.begins })

pub returns-clause-finished : goal.returns-clause-finished
returns-clause-finished c = frames_finish

pub returns-clause-closed : goal.returns-clause-closed
returns-clause-closed c = frames_close
