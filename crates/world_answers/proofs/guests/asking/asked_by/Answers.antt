use Rattle.std.proofs.Common.{subst}
use Rattle.hart_moves.specs.Due.{Due}
use Rattle.hart_seat.specs.HartParts.Queues.{below}
use Rattle.world_answers.specs.GuestsPart.Asking.{IsAsked}
use Rattle.world_answers.proofs.GuestsPart.Arms.{called_by}
use Rattle.world_answers.proofs.guests.asking.asked_by.Goals as goal

pub returns-in-Complete : goal.returns-in-Complete
returns-in-Complete c = λ s.
    subst (λ (d : Due). IsAsked d c.passing_for.result) (c.in-Complete.ensures.is s)
    (c.passing_for.ensures c.in-Complete.field-1 c.in-Complete.field-2.now (below c.args.hart.now.hart.frames))

pub returns-in-Serve : goal.returns-in-Serve
returns-in-Serve c = λ s. called_by s c.args.hart.now.hart c.due.result c.in-Serve.is (c.due.ensures.is s)
