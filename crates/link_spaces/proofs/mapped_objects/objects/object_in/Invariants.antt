use Rattle.std.proofs.Common.{◌≡◌, drop}
use Rattle.link_spaces.proofs.MappedObjects.Finding.{in_all}
use Rattle.link_spaces.proofs.mapped_objects.objects.object_in.Given as goal

-- the search of the rest is the search of the whole
abbrev pub invariant-loop-namespace : goal.invariant-loop-namespace
invariant-loop-namespace l = in_all (drop l.namespace-index l.namespaces) l.serial ≡ in_all l.namespaces l.serial
