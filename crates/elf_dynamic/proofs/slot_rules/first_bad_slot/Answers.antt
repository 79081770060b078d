use Rattle.std.proofs.Common.{◌∙◌, sym, below_more}
use Rattle.elf_dynamic.proofs.Ranges.{nothing, position_here, position_past}
use Rattle.elf_dynamic.proofs.slot_rules.first_bad_slot.Goals as goal

pub returns-then-is_bad_slot : goal.returns-then-is_bad_slot
returns-then-is_bad_slot c others marks =
    position_here _ c.args.slots.relocs.now c.loop-index.index nothing (c.loop-index.invariant others marks) c.loop-index-test.true
    (sym (c.is_bad_slot.ensures others marks) ∙ c.if-is_bad_slot.true)

pub loop-index-preserved : goal.loop-index-preserved
loop-index-preserved c others marks = below_more _ c.loop-index.index (c.loop-index.invariant others marks)
    (sym (c.is_bad_slot.ensures others marks) ∙ c.if-is_bad_slot.false)

pub returns : goal.returns
returns c others marks = position_past _ c.args.slots.relocs.now c.loop-index.index nothing (c.loop-index.invariant others marks) c.loop-index-test.false
