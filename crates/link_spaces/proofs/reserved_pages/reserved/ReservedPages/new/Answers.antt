use Rattle.std.proofs.Common.{◌≡◌, [], sym, ap, subst, ◌∙◌}
use Rattle.history_state.specs.Areas.{free_pages}
use Rattle.link_spaces.specs.ReservedPagesPart.Laid.{AreLaid}
use Rattle.link_spaces.proofs.ReservedPagesPart.Laid.{all_free}
use Rattle.link_spaces.proofs.reserved_pages.reserved.ReservedPages.new.Goals as goal

pub invariant_of-result : goal.invariant_of-result
invariant_of-result c =
    let none : [] ≡ c.new.result.items = sym c.new.ensures.items in
    (c.new-2.ensures ∙ all_free ∙ ap free_pages none, subst (AreLaid []) none tt)
