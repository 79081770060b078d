use Rattle.std.proofs.Common.{◌-◌, List, sym, subst, subst₂}
use Rattle.address_space.specs.Pages.{AllFree}
use Rattle.history_event.specs.declared.event.Range.{Range}
use Rattle.history_state.specs.Areas.{free_pages}
use Rattle.trace_replay.proofs.steps.storing.reserve.Goals as goal

pub push-requires-clause-free : goal.push-requires-clause-free
push-requires-clause-free c =
    subst (λ (rs : List Range). AllFree (free_pages rs) (c.args.address - c.block_residue.result) c.block_pages.result) (sym c.make_room.ensures.ranges)
    (subst₂ (λ residue pages. AllFree (free_pages c.args.reserved.now.ranges) (c.args.address - residue) pages) (sym c.block_residue.ensures.value) (sym c.block_pages.ensures.value) c.requires.free)
