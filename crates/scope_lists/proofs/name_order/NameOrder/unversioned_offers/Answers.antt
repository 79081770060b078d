use Rattle.std.proofs.Common.{List, ℕ, [], ◌∷◌, ap, ◌∙◌}
use Rattle.std.specs.Prelude.{filter}
use Rattle.scope_lists.specs.NameOrder.{Orders, by_name, has_key}
use Rattle.scope_lists.proofs.ByName.{unversioned}
use Rattle.scope_lists.proofs.name_order.NameOrder.unversioned_offers.Goals as goal

pub returns : goal.returns
returns c =
    let o = c.args.object.now in
    let name : List ℕ = c.args.name.now in
    c.run.ensures ∙ ap (filter (has_key (by_name o) (name ∷ []))) (c.as_slice.ensures.value ∙ ap (λ (x : Orders). x.unversioned) c.self.view_is)
    ∙ (c.requires.order.unversioned c.requires.versions).runs (name ∷ []) ∙ unversioned o name
