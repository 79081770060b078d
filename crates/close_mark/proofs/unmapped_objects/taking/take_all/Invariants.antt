use Rattle.std.proofs.Common.{◌≡◌, ◌+◌, ◌≤◌, ◌++◌, drop, map, take}
use Rattle.std.specs.List.{count_by, filter, flat_map}
use Rattle.std.specs.Vec.{vec_capacity, vec_len}
use Rattle.history_state.specs.Step.{gone_in}
use Rattle.close_mark.specs.UnmappedObjects.Taken.{goes}
use Rattle.close_mark.proofs.unmapped_objects.taking.take_all.Given as goal

-- those of the namespaces so far are out, and there is room for the others
abbrev pub invariant-loop-namespace : goal.invariant-loop-namespace
invariant-loop-namespace l =
    record {
      out : l.namespaces ≡ map (gone_in l.set) (take l.namespace-index l.initial.namespaces) ++ drop l.namespace-index l.initial.namespaces;
      gone : l.gone.items ≡ l.initial.gone.items ++ filter (goes l.set) (flat_map (λ ns. ns.objects) (take l.namespace-index l.initial.namespaces));
      total : vec_len l.gone + count_by (goes l.set) (flat_map (λ ns. ns.objects) (drop l.namespace-index l.initial.namespaces)) ≤ vec_capacity l.gone;
    }
