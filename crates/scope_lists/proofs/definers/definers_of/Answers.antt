use Rattle.std.proofs.Common.{◌≡◌, subst, arith}
use Rattle.scope_rule.specs.Seen.{seen}
use Rattle.scope_lists.specs.Definers.{AreDefinersBelow}
use Rattle.scope_lists.proofs.definers.definers_of.Goals as goal

pub returns : goal.returns
returns c =
    let all : c.loop-place.place ≡ c.args.count = omega arith in
    subst (λ n. AreDefinersBelow n (seen c.args.view.now).objects c.args.list.now c.loop-place.definers.items) all c.loop-place.invariant
