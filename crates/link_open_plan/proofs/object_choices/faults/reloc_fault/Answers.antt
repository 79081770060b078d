use Rattle.std.proofs.Common.{sym, ◌∙◌}
use Rattle.link_open_plan.proofs.ObjectChoices.Refused.{needs_static, passes}
use Rattle.link_open_plan.proofs.object_choices.faults.reloc_fault.Goals as goal

pub returns-then-lacks_offset : goal.returns-then-lacks_offset
returns-then-lacks_offset c = λ s are.
    needs_static s c.args.owner.now c.args.reloc.now c.args.choice.now c.args.places.now c.lacks_offset.result c.in_ok-object.object (sym c.is_missing.ensures ∙ c.if-is_missing.false) c.if-lacks_offset.true
    (c.in_ok-object.ensures ∙ c.as_bytes.ensures) are c.lacks_offset.ensures

pub returns : goal.returns
returns c = λ s are.
    passes s c.args.owner.now c.args.reloc.now c.args.choice.now c.args.places.now c.lacks_offset.result (sym c.is_missing.ensures ∙ c.if-is_missing.false) c.if-lacks_offset.false are c.lacks_offset.ensures
