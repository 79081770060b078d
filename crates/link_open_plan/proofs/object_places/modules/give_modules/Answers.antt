use Rattle.std.proofs.Common.{◌<◌, length, subst, arith}
use Rattle.history_state.specs.Opening.{unplaced}
use Rattle.link_open_plan.specs.ObjectPlaces.Placing.{HasFewBytes, statics_of}
use Rattle.link_open_plan.proofs.ObjectPlaces.Moduled.{few_alike, have_more, modules_more, statics_more_of}
use Rattle.link_open_plan.proofs.ObjectPlaces.Same.{same_in, set_alike}
use Rattle.link_open_plan.proofs.object_places.modules.give_modules.Goals as goal

pub give_module-requires : goal.give_module-requires
give_module-requires c =
    let lt : c.loop-object.object-index < length c.loop-object.added = omega (arith, c.loop-object-test.true, c.loop-object.auto.added) in
    let among = same_in unplaced c.loop-object.added c.args.added.now c.loop-object.object-index c.object-item.result c.object-item.result c.loop-object.invariant.same lt c.object-item.is in
    subst HasFewBytes c.object-item.is (few_alike c.object-item.result among.0 among.2 (c.requires among.0 among.1))

pub returns-in_err-give_module-clause-same : goal.returns-in_err-give_module-clause-same
returns-in_err-give_module-clause-same c =
    set_alike unplaced c.loop-object.added c.args.added.now c.loop-object.object-index c.give_module.new.object c.object-item.result c.give_module.ensures.same c.loop-object.invariant.same

pub loop-object-preserved : goal.loop-object-preserved
loop-object-preserved c =
    let lt : c.loop-object.object-index < length c.loop-object.added = omega (arith, c.loop-object-test.true, c.loop-object.auto.added) in
    record {
      same = set_alike unplaced c.loop-object.added c.args.added.now c.loop-object.object-index c.give_module.new.object c.object-item.result c.give_module.ensures.same c.loop-object.invariant.same;
      have = have_more c.args.late c.loop-object.added c.loop-object.object-index c.give_module.new.object c.args.modules.now.modules c.loop-object.modules.modules (statics_of c.args.modules.now)
          (statics_of c.loop-object.modules) lt c.loop-object.invariant.have c.loop-object.invariant.modules c.loop-object.invariant.statics c.in_ok-give_module.ensures.place;
      modules = modules_more c.loop-object.added c.loop-object.object-index c.give_module.new.object c.args.modules.now.modules c.loop-object.modules.modules c.give_module.new.modules.modules lt
          c.loop-object.invariant.modules c.in_ok-give_module.ensures.modules;
      statics = λ early. statics_more_of c.loop-object.added c.loop-object.object-index c.give_module.new.object (statics_of c.args.modules.now) (statics_of c.loop-object.modules)
          (statics_of c.give_module.new.modules) lt (c.loop-object.invariant.statics early) (c.in_ok-give_module.ensures.statics early);
    }
