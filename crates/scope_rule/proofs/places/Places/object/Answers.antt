use Rattle.std.proofs.Common.{◌≡◌, ℕ, None, List, ap, rules, sym, ◌∙◌}
use Rattle.std.specs.Option.{option_copied}
use Rattle.scope_rule.specs.Places.{place_in}
use Rattle.scope_rule.specs.Seen.{seen}
use Rattle.scope_rule.specs.Lemmas.Placed.{object_found, none_found}
use Rattle.scope_rule.proofs.places.Places.object.Goals as goal

pub returns : goal.returns
returns c =
    object_found (seen c.args.view.now) c.args.serial c.in_ok-place.place (option_copied c.object_at.result)
    (sym (ap (λ (l : List ℕ). place_in l c.args.serial) c.requires) ∙ sym c.in_ok-place.ensures) c.object_at.ensures

pub returns-in_err-place : goal.returns-in_err-place
returns-in_err-place c =
    let none : option_copied c.from_residual.result ≡ None = search rules in
    none ∙ none_found (seen c.args.view.now) c.args.serial (sym (ap (λ (l : List ℕ). place_in l c.args.serial) c.requires) ∙ sym c.in_err-place.ensures)
