use Rattle.std.proofs.Common.{◌≡◌, ℕ, List, [], ◌∷◌, ◌++◌, sym, ap, subst, ◌∙◌}
use Rattle.address_space.specs.Pages.{AllFree}
use Rattle.history_event.specs.declared.event.Range.{Range}
use Rattle.history_state.specs.Areas.{free_pages}
use Rattle.link_spaces.specs.ReservedPagesPart.Laid.{AreLaid}
use Rattle.link_spaces.proofs.ReservedPagesPart.Laid.{laid_push, one_more}
use Rattle.link_spaces.proofs.reserved_pages.reserved.ReservedPages.reserve.Goals as goal

pub invariant_of-self-2 : goal.invariant_of-self-2
invariant_of-self-2 c =
    let range : Range = record { address = c.in_ok-address.address; pages = c.args.pages; purpose = c.args.purpose } in
    let items : c.self.inside.ranges.items ++ range ∷ [] ≡ c.push_reserved.new.self.items = sym c.push_reserved.ensures.items in
    let free : AllFree (free_pages c.self.inside.ranges.items) c.in_ok-address.address c.args.pages =
    subst (λ (pages : List ℕ). AllFree pages c.in_ok-address.address c.args.pages) c.self.invariant.0 c.in_ok-address.ensures.fit.fits.room in (
      one_more c.self.inside.regions c.reserve.new.self c.self.inside.ranges.items range c.self.invariant.0 c.in_ok-address.ensures.taken ∙ ap free_pages items,
      subst (AreLaid []) items (laid_push [] c.self.inside.ranges.items range c.self.invariant.1 free),
    )
