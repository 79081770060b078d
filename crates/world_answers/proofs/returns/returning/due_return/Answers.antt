use Rattle.world_answers.proofs.ReturnsPart.ByDue.{serves_so, waits_so}
use Rattle.world_answers.proofs.returns.returning.due_return.Goals as goal

pub returns-in-Serve : goal.returns-in-Serve
returns-in-Serve c = λ s call to is.
    serves_so s c.args.hart.now.hart c.in-Serve.asked call to c.kind_of.result (c.kind_of.ensures.by_call s) (c.kind_of.ensures.at c.args.hart.now.hart)
    (c.in-Serve.ensures.is s) is

pub returns-in-Wait : goal.returns-in-Wait
returns-in-Wait c = λ s call to is.
    waits_so s c.args.hart.now.hart c.in-Wait.asked call to c.kind_of-in-Wait.result (c.kind_of-in-Wait.ensures.by_call s)
    (c.kind_of-in-Wait.ensures.at c.args.hart.now.hart) c.in-Wait.field-0 (c.in-Wait.ensures.is s) is
