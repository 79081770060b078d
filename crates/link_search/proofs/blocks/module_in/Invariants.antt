use Rattle.std.proofs.Common.{◌≡◌, drop, eqb}
use Rattle.std.specs.List.{find}
use Rattle.history_event.specs.declared.state.Module.{Module}
use Rattle.link_search.proofs.blocks.module_in.Given as goal

-- the search of the rest is the search of the whole
abbrev pub invariant-loop-module : goal.invariant-loop-module
invariant-loop-module l = find (λ (m : Module). eqb m.serial l.serial) (drop l.module-index l.modules) ≡ find (λ (m : Module). eqb m.serial l.serial) l.modules
