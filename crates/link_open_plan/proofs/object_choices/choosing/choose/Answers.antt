use Rattle.std.proofs.Common.{sym, ◌∙◌}
use Rattle.history_state.specs.Relocating.{object_fault, relocation_fault}
use Rattle.scope_rule.specs.Seen.{seen}
use Rattle.link_open_plan.proofs.ObjectChoices.Empty.{none_of_none}
use Rattle.link_open_plan.proofs.object_choices.choosing.choose.Goals as goal

pub returns-in-Some-clause-refused : goal.returns-in-Some-clause-refused
unfolding relocation_fault
returns-in-Some-clause-refused c = λ s shows. sym (c.in_ok-fault.ensures.fault s shows) ∙ c.in-Some.is

pub returns-clause-relocated : goal.returns-clause-relocated
unfolding relocation_fault
returns-clause-relocated c = λ s shows. sym (c.in_ok-fault.ensures.fault s shows) ∙ c.in-None.is

pub returns-then-is_empty-clause-relocated : goal.returns-then-is_empty-clause-relocated
unfolding relocation_fault
returns-then-is_empty-clause-relocated c =
    λ s shows. none_of_none (object_fault s (seen c.args.view.now) c.args.now) c.args.view.now.added.now c.is_empty.result c.is_empty.ensures c.if-is_empty.true
