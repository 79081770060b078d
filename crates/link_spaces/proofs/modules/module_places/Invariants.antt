use Rattle.std.proofs.Common.{◌≡◌, map, take}
use Rattle.history_state.specs.Bound.{place_of}
use Rattle.link_spaces.proofs.modules.module_places.Given as goal

-- those of the modules in front
abbrev pub invariant-loop-module : goal.invariant-loop-module
invariant-loop-module l = l.places ≡ map place_of (take l.module-index l.modules)
