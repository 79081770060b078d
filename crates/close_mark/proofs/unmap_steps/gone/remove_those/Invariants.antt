use Rattle.std.proofs.Common.{◌≡◌, ◌+◌, length, not}
use Rattle.std.specs.List.{filter}
use Rattle.tls_blocks.specs.Numbers.{AreNumbered}
use Rattle.close_mark.specs.UnmapSteps.Touched.{is_of_set}
use Rattle.close_mark.proofs.unmap_steps.gone.remove_those.Given as goal

-- those that stay are the same, and each that is gone was counted
abbrev pub invariant-loop-number : goal.invariant-loop-number
invariant-loop-number l =
    record {
      numbered : AreNumbered l.modules.modules;
      stay : filter (λ m. not (is_of_set l.set m)) l.modules.modules ≡ filter (λ m. not (is_of_set l.set m)) l.initial.modules.modules;
      counted : l.modules.generation + length (filter (is_of_set l.set) l.modules.modules) ≡ l.initial.modules.generation + length (filter (is_of_set l.set) l.initial.modules.modules);
      size : l.modules.size ≡ l.initial.modules.size;
      tp : l.modules.tp ≡ l.initial.modules.tp;
    }

abbrev pub decreases-loop-number : goal.decreases-loop-number
decreases-loop-number l = length (filter (is_of_set l.set) l.modules.modules)
