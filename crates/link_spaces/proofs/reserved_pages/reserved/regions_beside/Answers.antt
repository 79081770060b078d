use Rattle.std.proofs.Common.{◌<◌, ℕ, List, [], ◌∷◌, ◌++◌, take, get_or, length, sym, ap, subst, ◌∙◌, arith}
use Rattle.std.proofs.lemmas.List.{take_more}
use Rattle.address_space.specs.Pages.{AllFree}
use Rattle.history_event.specs.declared.event.Range.{Range}
use Rattle.history_state.specs.Areas.{free_pages}
use Rattle.link_spaces.proofs.ReservedPagesPart.Laid.{all_free, laid_at, one_more}
use Rattle.link_spaces.proofs.reserved_pages.reserved.regions_beside.Goals as goal

pub loop-range-init : goal.loop-range-init
loop-range-init c = c.new-regions.ensures ∙ all_free

pub reserve_at-requires : goal.reserve_at-requires
reserve_at-requires c =
    let lt : c.loop-range.range-index < length c.args.ranges.now = omega arith in
    let free : AllFree (free_pages (take c.loop-range.range-index c.args.ranges.now)) (get_or c.args.ranges.now c.loop-range.range-index c.range-item.result).address
    (get_or c.args.ranges.now c.loop-range.range-index c.range-item.result).pages =
    laid_at [] c.args.ranges.now c.loop-range.range-index c.range-item.result lt c.requires in
    subst (λ (pages : List ℕ). AllFree pages c.range-item.result.address c.range-item.result.pages) (sym c.loop-range.invariant)
    (subst (λ (r : Range). AllFree (free_pages (take c.loop-range.range-index c.args.ranges.now)) r.address r.pages) (sym c.range-item.is) free)

pub loop-range-preserved : goal.loop-range-preserved
loop-range-preserved c =
    let lt : c.loop-range.range-index < length c.args.ranges.now = omega arith in
    one_more c.loop-range.regions c.reserve_at.new.regions (take c.loop-range.range-index c.args.ranges.now) c.range-item.result c.loop-range.invariant c.reserve_at.ensures
    ∙ ap (λ (r : Range). free_pages (take c.loop-range.range-index c.args.ranges.now ++ r ∷ [])) c.range-item.is
    ∙ ap free_pages (sym (take_more c.args.ranges.now c.loop-range.range-index c.range-item.result lt))
