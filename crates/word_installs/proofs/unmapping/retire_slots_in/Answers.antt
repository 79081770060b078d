use Rattle.word_installs.proofs.Retiring.{each_no_slot, may_on, no_slot_more, nth_covered, retires_then}
use Rattle.word_installs.proofs.unmapping.retire_slots_in.Goals as goal

pub retire_slot-requires-clause-may : goal.retire_slot-requires-clause-may
retire_slot-requires-clause-may g c = may_on c.args.ranges.now c.args.keeper.now c.loop-index.keeper c.loop-index.invariant.0 c.requires.may

pub retire_slot-requires-clause-covered : goal.retire_slot-requires-clause-covered
retire_slot-requires-clause-covered g c = nth_covered c.args.ranges.now c.args.keeper.now c.args.range c.loop-index.index c.requires.may c.requires.there c.loop-index-test.true

pub returns-clause-gone : goal.returns-clause-gone
returns-clause-gone g c =
    each_no_slot c.args.ranges.now c.args.keeper.now c.loop-index.keeper c.args.range c.loop-index.index c.requires.may c.requires.there c.loop-index-test.false c.loop-index.invariant.1

pub loop-index-preserved : goal.loop-index-preserved
loop-index-preserved g c = (
  retires_then c.args.ranges.now c.args.keeper.now c.loop-index.keeper c.retire_slot.new.keeper c.loop-index.invariant.0 c.retire_slot.ensures.retires,
  no_slot_more c.args.ranges.now c.loop-index.keeper c.retire_slot.new.keeper c.args.range.address c.loop-index.index c.retire_slot.ensures.retires c.loop-index.invariant.1 c.retire_slot.ensures.gone,
)
