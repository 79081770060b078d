use Rattle.std.proofs.Common.{◌∙◌}
use Rattle.link_keeper.proofs.Rest.{enters}
use Rattle.link_keeper.proofs.passing.entry_at.Goals as goal

pub returns : goal.returns
returns c = enters c.args.state.now.events c.as_slice-events.result.now c.args.index c.index-events-index.result _ c.module_of-slot.result c.answer_of-value.result c.generation-generation.result
    c.as_slice-modules.result.now c.ranges-ranges.result.now (c.as_slice-events.ensures ∙ c.journal.ensures.events) c.index-events-index.is c.module_of-slot.ensures c.answer_of-value.ensures
    (c.as_slice-modules.ensures ∙ c.modules.ensures.modules) c.ranges-ranges.ensures (c.generation-generation.ensures ∙ c.modules-2.ensures.generation)
