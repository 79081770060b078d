use Rattle.std.proofs.Common.{ap, sym, List, ℕ, None, Some, ◌∙◌}
use Rattle.std.specs.Prelude.{slice_get}
use Rattle.std.specs.Option.{option_copied}
use Rattle.sym_lookup.proofs.SymFind.Offers.{version_first}
use Rattle.sym_lookup.proofs.sym_find.offers.first_of_version.Goals as goal

pub returns-in-Some : goal.returns-in-Some
returns-in-Some c =
    c.least.ensures
    ∙ version_first c.args.object.now c.args.name.now c.args.version.now c.first_of_just-just.result (Some c.in-Some.unversioned.now) c.first_of_just-just.ensures
    (ap option_copied (sym c.in-Some.is) ∙ c.first.ensures.value ∙ ap (λ (l : List ℕ). slice_get l 0) c.unversioned_offers.ensures)

pub returns-in-None : goal.returns-in-None
returns-in-None c =
    version_first c.args.object.now c.args.name.now c.args.version.now c.first_of_just-just.result None c.first_of_just-just.ensures
    (ap option_copied (sym c.in-None.is) ∙ c.first.ensures.value ∙ ap (λ (l : List ℕ). slice_get l 0) c.unversioned_offers.ensures)
