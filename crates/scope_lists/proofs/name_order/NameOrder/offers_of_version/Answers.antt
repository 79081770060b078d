use Rattle.std.proofs.Common.{List, ℕ, [], ◌∷◌, ap, ◌∙◌}
use Rattle.std.specs.Prelude.{filter}
use Rattle.scope_lists.specs.NameOrder.{Orders, by_version, has_key}
use Rattle.scope_lists.proofs.ByName.{versioned}
use Rattle.scope_lists.proofs.name_order.NameOrder.offers_of_version.Goals as goal

pub returns : goal.returns
returns c =
    let o = c.args.object.now in
    let name : List ℕ = c.args.name.now in
    let version : List ℕ = c.args.version.now in
    c.run.ensures ∙ ap (filter (has_key (by_version o) (name ∷ version ∷ []))) (c.as_slice.ensures.value ∙ ap (λ (x : Orders). x.versions) c.self.view_is)
    ∙ (c.requires.order.versions c.requires.versions).runs (name ∷ version ∷ []) ∙ versioned o name version
