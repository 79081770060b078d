use Rattle.std.proofs.Common.{◌≡◌, Bool, not, eqb, rules, ap, ◌∙◌}
use Rattle.std.specs.List.{filter}
use Rattle.std.proofs.lemmas.Fn.{filter_same}
use Rattle.scope_rule.specs.declared.namespace.OpenRec.{OpenRec}
use Rattle.link_spaces.proofs.lowering.counted.Goals as goal

pub returns : goal.returns
returns c =
    let counts : OpenRec → Bool = λ r. not (eqb r.count 0) in
    let kept : c.retain.new.self.items ≡ filter counts c.into_vec-opens.result.items =
    filter_same _ counts _ (λ x b f' k. search rules) _ _ c.retain.ensures.filtered in
    c.from.ensures ∙ kept ∙ ap (filter counts) c.into_vec-opens.ensures
