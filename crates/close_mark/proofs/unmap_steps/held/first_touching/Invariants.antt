use Rattle.std.proofs.Common.{◌≡◌, drop}
use Rattle.std.specs.List.{find}
use Rattle.close_mark.specs.UnmapSteps.Touched.{is_touching}
use Rattle.close_mark.proofs.unmap_steps.held.first_touching.Given as goal

-- the search of the rest is the search of the whole
abbrev pub invariant-loop-grant : goal.invariant-loop-grant
invariant-loop-grant l = find (is_touching l.set) (drop l.grant-index l.grants) ≡ find (is_touching l.set) l.grants
