use Rattle.std.proofs.Common.{◌≡◌, drop}
use Rattle.std.specs.List.{find}
use Rattle.close_mark.specs.UnmapSteps.Touched.{is_of_set}
use Rattle.close_mark.proofs.unmap_steps.gone.number_of.Given as goal

-- the search of the rest is the search of the whole
abbrev pub invariant-loop-module : goal.invariant-loop-module
invariant-loop-module l = find (is_of_set l.set) (drop l.module-index l.modules) ≡ find (is_of_set l.set) l.modules
