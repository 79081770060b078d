use Rattle.std.proofs.Common.{[], ◌∷◌, Some, ap, sym, ◌∙◌}
use Rattle.std.proofs.lemmas.Option.{slice_get-get_or}
use Rattle.history_event.specs.declared.event.Range.{Range}
use Rattle.history_state.specs.Lemmas.Lists.{at_in}
use Rattle.word_installs.specs.Unmapped.{HasNoSlot}
use Rattle.word_installs.proofs.Retiring.{all_no_slot, may_on, no_slot_on, ranges_more, retires_then}
use Rattle.word_installs.proofs.unmapping.retire_slots.Goals as goal

pub retire_slots_in-requires-clause-may : goal.retire_slots_in-requires-clause-may
retire_slots_in-requires-clause-may g c = may_on c.args.ranges.now c.args.keeper.now c.loop-range.keeper c.loop-range.invariant.0 c.requires.may

pub retire_slots_in-requires-clause-there : goal.retire_slots_in-requires-clause-there
retire_slots_in-requires-clause-there g c =
    at_in c.args.ranges.now c.loop-range.range-index c.range-item.result
    (slice_get-get_or c.args.ranges.now c.loop-range.range-index c.range-item.result c.loop-range-test.true ∙ ap (λ (x : Range). Some x) (sym c.range-item.is))

pub loop-range-preserved : goal.loop-range-preserved
loop-range-preserved g c = (
  retires_then c.args.ranges.now c.args.keeper.now c.loop-range.keeper c.retire_slots_in.new.keeper c.loop-range.invariant.0 c.retire_slots_in.ensures.retires,
  ranges_more (λ q v. HasNoSlot (q ∷ []) v) c.args.ranges.now c.loop-range.range-index c.range-item.result c.loop-range.keeper c.retire_slots_in.new.keeper
      (slice_get-get_or c.args.ranges.now c.loop-range.range-index c.range-item.result c.loop-range-test.true ∙ ap (λ (x : Range). Some x) (sym c.range-item.is))
      (λ q. no_slot_on c.args.ranges.now c.loop-range.keeper c.retire_slots_in.new.keeper c.retire_slots_in.ensures.retires q) c.loop-range.invariant.1 c.retire_slots_in.ensures.gone,
)

pub returns-clause-gone : goal.returns-clause-gone
returns-clause-gone g c = all_no_slot c.args.ranges.now c.loop-range.range-index c.loop-range.keeper c.loop-range-test.false c.loop-range.invariant.1
