use Rattle.std.proofs.Common.{◌≡◌, take}
use Rattle.std.specs.List.{count_by, flat_map}
use Rattle.close_mark.specs.UnmappedObjects.Taken.{goes}
use Rattle.close_mark.proofs.unmapped_objects.taking.count_in.Given as goal

-- those of the namespaces so far are counted
abbrev pub invariant-loop-namespace : goal.invariant-loop-namespace
invariant-loop-namespace l = l.count ≡ count_by (goes l.set) (flat_map (λ ns. ns.objects) (take l.namespace-index l.namespaces))
