use Rattle.std.proofs.Common.{◌∙◌, sym}
use Rattle.std.specs.Str.{bytes_eq}
use Rattle.load_walk.proofs.Lookups.{one_further}
use Rattle.load_walk.proofs.lookup.NamePlaces.of.Goals as goal

pub loop-place-preserved : goal.loop-place-preserved
loop-place-preserved c = λ bytes.
    c.in_ok-add.ensures bytes
    ∙ rw (c.as_bytes.ensures, c.loop-place.invariant bytes) (sym (one_further (λ name. bytes_eq name bytes) c.args.names.now c.loop-place.place c.index-names-place.result c.loop-place-test.true c.index-names-place.is))
