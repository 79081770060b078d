use Rattle.std.proofs.Common.{◌≡◌, Bool, not, [], rules, sym, ap, subst, ◌∙◌}
use Rattle.std.specs.List.{filter}
use Rattle.std.proofs.lemmas.Fn.{filter_same}
use Rattle.history_event.specs.declared.event.Range.{Range}
use Rattle.history_state.specs.Areas.{free_pages}
use Rattle.history_state.specs.Step.{goes_with}
use Rattle.link_spaces.specs.ReservedPagesPart.Laid.{AreLaid, RangeList}
use Rattle.link_spaces.proofs.ReservedPagesPart.Laid.{laid_filter}
use Rattle.link_spaces.proofs.reserved_pages.reserved.ReservedPages.remove.Goals as goal

pub regions_beside-self-inside-requires : goal.regions_beside-self-inside-requires
regions_beside-self-inside-requires c =
    let stays : Range → Bool = λ r. not (goes_with c.args.set.now r) in
    let others : c.retain.new.self.items ≡ filter stays c.self.inside.ranges.items =
    filter_same _ stays _ (λ x b f' k. search rules) _ _ c.retain.ensures.filtered in
    subst (AreLaid []) (sym (c.as_slice-2.ensures.value ∙ others)) (laid_filter stays [] [] c.self.inside.ranges.items (λ r inside. inside) c.self.invariant.1)

pub invariant_of-self : goal.invariant_of-self
invariant_of-self c =
    let stays : Range → Bool = λ r. not (goes_with c.args.set.now r) in
    let others : c.retain.new.self.items ≡ filter stays c.self.inside.ranges.items =
    filter_same _ stays _ (λ x b f' k. search rules) _ _ c.retain.ensures.filtered in
    (c.regions_beside-self-inside.ensures ∙ ap free_pages c.as_slice-2.ensures.value, subst (AreLaid []) (sym others) (laid_filter stays [] [] c.self.inside.ranges.items (λ r inside. inside) c.self.invariant.1))

pub returns-clause-ranges : goal.returns-clause-ranges
returns-clause-ranges c =
    let stays : Range → Bool = λ r. not (goes_with c.args.set.now r) in
    let others : c.retain.new.self.items ≡ filter stays c.self.inside.ranges.items =
    filter_same _ stays _ (λ x b f' k. search rules) _ _ c.retain.ensures.filtered in
    others ∙ ap (λ (v : RangeList). filter stays v.ranges) c.self.view_is
