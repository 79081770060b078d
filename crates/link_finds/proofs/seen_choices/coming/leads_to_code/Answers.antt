use Rattle.std.proofs.Common.{sym, ap, ◌∙◌}
use Rattle.history_state.specs.Addresses.{leads_to_code}
use Rattle.link_finds.proofs.SeenChoices.Leading.{leads_missing, leads_weak}
use Rattle.link_finds.proofs.seen_choices.coming.leads_to_code.Goals as goal

pub returns-in-WeakZero : goal.returns-in-WeakZero
returns-in-WeakZero c = λ s shows. leads_weak s c.args.lazy ∙ sym (ap (leads_to_code s c.args.lazy) c.in-WeakZero.is)

pub returns-in-Missing : goal.returns-in-Missing
returns-in-Missing c = λ s shows. leads_missing s c.args.lazy ∙ sym (ap (leads_to_code s c.args.lazy) c.in-Missing.is)
