use Rattle.std.proofs.Common.{◌≡◌, ◌+◌, drop, length}
use Rattle.std.specs.List.{filter}
use Rattle.history_state.specs.Step.{has_module}
use Rattle.history_state.specs.Storage.{HaveModules, with_modules}
use Rattle.link_open_images.specs.OpeningSteps.Steps.{statics_after, statics_of}
use Rattle.link_open_images.proofs.opening_steps.modules.modules_with.Given as goal

-- with the modules of the objects that are left, all are there
abbrev pub invariant-loop-object : goal.invariant-loop-object
invariant-loop-object l = record {
  have : HaveModules l.startup l.all.modules (statics_of l.all) (drop l.object-index l.added);
  modules : with_modules (drop l.object-index l.added) l.all.modules ≡ with_modules l.added l.initial.all.modules;
  statics : statics_after l.startup (drop l.object-index l.added) (statics_of l.all) ≡ statics_after l.startup l.added (statics_of l.initial.all);
  generation : l.all.generation + length (filter has_module (drop l.object-index l.added)) ≡ l.initial.all.generation + length (filter has_module l.added);
}
