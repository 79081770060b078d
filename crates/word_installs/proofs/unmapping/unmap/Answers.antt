use Rattle.word_installs.proofs.Retiring.{is_unmapped, may_later, may_on}
use Rattle.word_installs.proofs.unmapping.unmap.Goals as goal

pub retire_slots-requires : goal.retire_slots-requires
retire_slots-requires g c = record {
  may = may_later c.args.ranges.now c.args.keeper.now c.raise_generation.new.keeper c.args.generation c.raise_generation.ensures.raised c.requires.may;
}

pub retire_others-requires-clause-may : goal.retire_others-requires-clause-may
retire_others-requires-clause-may g c =
    may_on c.args.ranges.now c.raise_generation.new.keeper c.retire_slots.new.keeper c.retire_slots.ensures.retires
    (may_later c.args.ranges.now c.args.keeper.now c.raise_generation.new.keeper c.args.generation c.raise_generation.ensures.raised c.requires.may)

pub returns-clause-unmapped : goal.returns-clause-unmapped
returns-clause-unmapped g c =
    is_unmapped c.args.ranges.now c.args.keeper.now c.raise_generation.new.keeper c.retire_slots.new.keeper c.retire_others.new.keeper c.args.generation
    c.raise_generation.ensures.raised c.raise_generation.ensures.decided c.retire_slots.ensures.retires c.retire_others.ensures.retires c.retire_others.ensures.gone
