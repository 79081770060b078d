use Rattle.std.proofs.Common.{◌≡◌, Bool, not, rules, sym, ap, subst, ◌∙◌}
use Rattle.std.specs.List.{filter}
use Rattle.std.specs.List.Sorted.{IsNonDecreasingBy}
use Rattle.std.proofs.lemmas.Fn.{filter_same}
use Rattle.std.proofs.lemmas.List.Kept.{IsNonDecreasingBy-filter}
use Rattle.history_state.specs.Objects.{has}
use Rattle.link_images.specs.Parts.{PartsWithRoom, serial_of}
use Rattle.link_images.specs.declared.parts.Part.{Part}
use Rattle.link_images.proofs.parts.ImageParts.remove.Goals as goal

pub returns-clause-parts : goal.returns-clause-parts
returns-clause-parts c =
    let other : Part → Bool = λ p. not (has c.args.set.now p.serial) in
    let kept : c.retain.new.self.items ≡ filter other c.self.inside.parts.items =
    filter_same _ other _ (λ x b f' k. search rules) _ _ c.retain.ensures.filtered in
    kept ∙ ap (λ (v : PartsWithRoom). filter other v.parts) c.self.view_is

pub invariant_of-self : goal.invariant_of-self
invariant_of-self c =
    let other : Part → Bool = λ p. not (has c.args.set.now p.serial) in
    let kept : c.retain.new.self.items ≡ filter other c.self.inside.parts.items =
    filter_same _ other _ (λ x b f' k. search rules) _ _ c.retain.ensures.filtered in
    (search rules, λ ascends. subst (IsNonDecreasingBy serial_of) (sym kept) (IsNonDecreasingBy-filter serial_of other c.self.inside.parts.items (c.self.invariant.1 ascends)))
