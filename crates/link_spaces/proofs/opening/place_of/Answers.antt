use Rattle.std.proofs.Common.{◌≡◌, true, eqb, rules}
use Rattle.link_spaces.proofs.Numbered.{found_at}
use Rattle.link_spaces.proofs.opening.place_of.Goals as goal

pub returns-then-eq-clause-there : goal.returns-then-eq-clause-there
returns-then-eq-clause-there c =
    let is : eqb c.index-namespaces-place.result.id c.args.id ≡ true = search rules in
    found_at c.args.id c.args.namespaces.now c.loop-place.place c.index-namespaces-place.result c.loop-place-test.true c.index-namespaces-place.is is c.loop-place.invariant
