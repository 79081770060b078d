use Rattle.world_turns.proofs.WorldFrames.Starting.{start_belongs}
use Rattle.world_turns.proofs.WorldFrames.Turns.{turns_keep}
use Rattle.world_turns.proofs.world_frames.law.frames_belong.Goals as goal

pub returns-clause-start : goal.returns-clause-start
returns-clause-start c = start_belongs c.constructors_follow.ensures.begins

pub returns-clause-turns : goal.returns-clause-turns
returns-clause-turns c = turns_keep (λ m. record {
  follow = record { starts = c.constructors_follow.ensures.stay; finishes = c.destructors_follow.ensures.stay };
  apart = record { order = c.serials_are_in_order.ensures.order m; dies = c.each_dies_once.ensures m };
  next = record { starts = c.constructors_follow.ensures.next; finishes = c.destructors_follow.ensures.next; begins = c.constructors_follow.ensures.begins };
  load = record { serials = c.serials_follow.ensures; leads = c.found_stands.ensures.names; founds = c.found_stands.ensures.founds };
  new = λ w past hart id root ask added ranges. c.serials_are_in_order.ensures.new m w past hart id root ask added ranges;
  spare = λ w past hart handle set. c.closed_are_spare.ensures m w past hart handle set;
})
