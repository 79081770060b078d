use Rattle.std.proofs.Common.{ap, ◌∙◌}
use Rattle.world_answers.specs.GuestsPart.Asking.{may_run_functions}
use Rattle.world_answers.proofs.GuestsPart.Waiting.{waits_run}
use Rattle.world_answers.proofs.guests.asking.may_run_functions.Goals as goal

pub returns-in-Serve : goal.returns-in-Serve
returns-in-Serve c = λ s called. c.may_run_by.ensures s ∙ ap may_run_functions (c.in-Serve.ensures.is s)

pub returns-in-Wait : goal.returns-in-Wait
returns-in-Wait c = λ s called. c.may_run_by-in-Wait.ensures s ∙ waits_run s c.args.hart.now.hart c.in-Wait.field-0 c.in-Wait.asked (c.in-Wait.ensures.is s) called
