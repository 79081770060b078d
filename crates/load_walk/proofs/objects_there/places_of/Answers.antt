use Rattle.ld_base.specs.declared.linking.Loaded.{Loaded}
use Rattle.load_walk.proofs.Lookups.{place_further}
use Rattle.load_walk.proofs.objects_there.places_of.Goals as goal

pub loop-place-preserved : goal.loop-place-preserved
loop-place-preserved c =
    place_further (λ (o : Loaded). o.path) (λ (o : Loaded). o.object) c.args.objects.now c.loop-place.place c.index-objects-place.result c.loop-place.places c.add.new.self c.loop-place-test.true c.index-objects-place.is c.loop-place.invariant
    (rw c.as_bytes.ensures at c.in_ok-add.ensures)
