use Rattle.std.proofs.Common.{◌≡◌, ℕ, List, [], ◌∷◌, ◌++◌, sym, ap, subst, ◌∙◌}
use Rattle.address_space.specs.Pages.{AllFree}
use Rattle.history_event.specs.declared.event.Range.{Range}
use Rattle.history_state.specs.Areas.{free_pages}
use Rattle.link_spaces.specs.ReservedPagesPart.Laid.{AreLaid, RangeList}
use Rattle.link_spaces.proofs.ReservedPagesPart.Laid.{laid_push, one_more}
use Rattle.link_spaces.proofs.reserved_pages.reserved.ReservedPages.push.Goals as goal

pub reserve_at-requires : goal.reserve_at-requires
reserve_at-requires c =
    subst (λ (pages : List ℕ). AllFree pages c.args.address c.args.pages) (sym c.self.invariant.0)
    (subst (λ (v : RangeList). AllFree (free_pages v.ranges) c.args.address c.args.pages) (sym c.self.view_is) c.requires.free)

pub invariant_of-self : goal.invariant_of-self
invariant_of-self c =
    let range : Range = record { address = c.args.address; pages = c.args.pages; purpose = c.args.purpose } in
    let items : c.self.inside.ranges.items ++ range ∷ [] ≡ c.push_reserved.new.self.items = sym c.push_reserved.ensures.items in
    let free : AllFree (free_pages c.self.inside.ranges.items) c.args.address c.args.pages =
    subst (λ (v : RangeList). AllFree (free_pages v.ranges) c.args.address c.args.pages) (sym c.self.view_is) c.requires.free in (
      one_more c.self.inside.regions c.reserve_at.new.regions c.self.inside.ranges.items range c.self.invariant.0 c.reserve_at.ensures ∙ ap free_pages items,
      subst (AreLaid []) items (laid_push [] c.self.inside.ranges.items range c.self.invariant.1 free),
    )
