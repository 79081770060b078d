use Rattle.std.proofs.Common.{ap, List, ℕ, ◌∙◌}
use Rattle.std.specs.Prelude.{slice_get}
use Rattle.sym_lookup.proofs.SymFind.Offers.{just_first}
use Rattle.sym_lookup.proofs.sym_find.offers.first_of_just.Goals as goal

pub returns : goal.returns
returns c =
    just_first c.args.object.now c.args.name.now c.args.version.now c.copied.result
    (c.copied.ensures ∙ c.first.ensures.value ∙ ap (λ (l : List ℕ). slice_get l 0) c.offers_of_version-offers.ensures)
