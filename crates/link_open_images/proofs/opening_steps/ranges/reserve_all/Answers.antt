use Rattle.std.proofs.Common.{◌<◌, ◌++◌, List, take, length, sym, subst, arith}
use Rattle.address_space.specs.Pages.{AllFree}
use Rattle.history_event.specs.declared.event.Range.{Range}
use Rattle.history_state.specs.Areas.{free_pages}
use Rattle.link_open_images.proofs.OpeningSteps.Laid.{laid_at}
use Rattle.link_open_images.proofs.opening_steps.ranges.reserve_all.Goals as goal

pub push-requires-clause-free : goal.push-requires-clause-free
push-requires-clause-free c =
    let lt : c.loop-range.range-index < length c.args.ranges.now = omega arith in
    subst (λ (rs : List Range). AllFree (free_pages rs) c.range-item.result.address c.range-item.result.pages) (sym c.loop-range.invariant.ranges)
    (subst (λ (r : Range). AllFree (free_pages (c.args.reserved.now.ranges ++ take c.loop-range.range-index c.args.ranges.now)) r.address r.pages) (sym c.range-item.is)
    (laid_at c.args.reserved.now.ranges c.args.ranges.now c.loop-range.range-index c.range-item.result lt c.requires.free))
