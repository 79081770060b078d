use Rattle.std.proofs.Common.{◌≡◌, drop}
use Rattle.std.specs.List.{find}
use Rattle.history_state.specs.Objects.{has_id}
use Rattle.link_spaces.proofs.mapped_objects.objects.namespace_in.Given as goal

-- the search of the rest is the search of the whole
abbrev pub invariant-loop-namespace : goal.invariant-loop-namespace
invariant-loop-namespace l = find (has_id l.id) (drop l.namespace-index l.namespaces) ≡ find (has_id l.id) l.namespaces
