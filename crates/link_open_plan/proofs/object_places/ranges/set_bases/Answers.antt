use Rattle.std.proofs.Common.{◌≡◌, ◌<◌, length, ap, subst, sym, ◌∙◌, arith}
use Rattle.ld_base.specs.declared.linking.Loaded.{Loaded}
use Rattle.history_event.specs.declared.event.Range.{Range}
use Rattle.seg_image.specs.Accepted.{Accepted}
use Rattle.seg_image.specs.Pages.{low_of, own_address}
use Rattle.link_open_plan.specs.ObjectPlaces.Placing.{unbased}
use Rattle.link_open_plan.proofs.ObjectPlaces.Given.{based_more}
use Rattle.link_open_plan.proofs.ObjectPlaces.Same.{same_in, set_alike}
use Rattle.link_open_plan.proofs.object_places.ranges.set_bases.Goals as goal

pub set_base-requires : goal.set_base-requires
set_base-requires c =
    let lt : c.loop-index.index < length c.loop-index.added = omega (arith, c.loop-index-test.true, c.loop-index.auto.added) in
    let among = same_in unbased c.loop-index.added c.args.added.now c.loop-index.index c.index-added-index.result c.index-added-index.result c.loop-index.invariant.same lt c.index-added-index.is in
    let same : c.index-added-index.result.object ≡ among.0.object = ap (λ (o : Loaded). o.object) among.2 in
    subst (λ (o : Loaded). Accepted o.object) c.index-added-index.is (subst Accepted (sym same) (c.requires.accepted among.0 among.1))

pub loop-index-preserved : goal.loop-index-preserved
loop-index-preserved c =
    let lt : c.loop-index.index < length c.loop-index.added = omega (arith, c.loop-index-test.true, c.loop-index.auto.added) in
    record {
      same = set_alike unbased c.loop-index.added c.args.added.now c.loop-index.index c.set_base.new.object c.index-added-index.result c.set_base.ensures.same c.loop-index.invariant.same;
      based = based_more c.loop-index.added c.args.ranges.now c.loop-index.index c.set_base.new.object c.index-ranges-index.result lt
          (omega (arith, c.requires.enough, c.loop-index.auto.added)) c.loop-index.invariant.based
          (c.set_base.ensures.base ∙ ap (λ (r : Range). own_address (low_of c.set_base.new.object.object) r.address) c.index-ranges-index.is);
    }
