use Rattle.std.proofs.Common.{◌≡◌, not, false, map, take}
use Rattle.history_state.specs.Opening.{unplaced}
use Rattle.history_state.specs.Storage.{HaveModules, statics_with, with_modules}
use Rattle.link_open_plan.specs.ObjectPlaces.Placing.{statics_of}
use Rattle.link_open_plan.proofs.object_places.modules.give_modules.Given as goal

-- those in front have their modules
abbrev pub invariant-loop-object : goal.invariant-loop-object
invariant-loop-object l = record {
  same : map unplaced l.added ≡ map unplaced l.fn.added;
  have : HaveModules (not l.late) l.fn.modules.modules (statics_of l.fn.modules) (take l.object-index l.added);
  modules : l.modules.modules ≡ with_modules (take l.object-index l.added) l.fn.modules.modules;
  statics : l.late ≡ false → statics_of l.modules ≡ statics_with (take l.object-index l.added) (statics_of l.fn.modules);
}
