use Rattle.std.proofs.Common.{◌≡◌, ◌+◌, rules, ◌∙◌}
use Rattle.std.specs.Prelude.{fold, max}
use Rattle.ld_base.specs.declared.object.Verdef.{Verdef}
use Rattle.scope_lists.proofs.VersionPlaces.Noted.{folded}
use Rattle.scope_lists.proofs.version_places.noting.past_defined.Goals as goal

pub returns : goal.returns
returns c =
    let is : c.fold.result ≡ fold (λ n (x : Verdef). max n (x.index + 1)) 0 c.args.verdefs.now = search rules in
    is ∙ folded (λ (x : Verdef). x.index) c.args.verdefs.now
