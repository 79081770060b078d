use Rattle.std.proofs.Common.{◌≡◌, true, eqb, rules}
use Rattle.link_open_images.proofs.ObjectBindings.Lists.{found_at}
use Rattle.link_open_images.proofs.object_bindings.copying.place_of.Goals as goal

pub returns-then-eq-clause-there : goal.returns-then-eq-clause-there
returns-then-eq-clause-there c =
    let is : eqb c.index-objects-place.result.serial c.args.serial ≡ true = search rules in
    found_at c.args.serial c.args.objects.now c.loop-place.place c.index-objects-place.result c.loop-place-test.true c.index-objects-place.is is c.loop-place.invariant
