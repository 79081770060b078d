use Rattle.std.proofs.Common.{◌≡◌, ◌+◌, rules, ◌∙◌}
use Rattle.std.specs.Prelude.{fold, max}
use Rattle.ld_base.specs.declared.object.Verneed.{Verneed}
use Rattle.scope_lists.proofs.VersionPlaces.Noted.{folded}
use Rattle.scope_lists.proofs.version_places.noting.past_needed.Goals as goal

pub returns : goal.returns
returns c =
    let is : c.fold.result ≡ fold (λ n (x : Verneed). max n (x.index + 1)) 0 c.args.verneeds.now = search rules in
    is ∙ folded (λ (x : Verneed). x.index) c.args.verneeds.now
