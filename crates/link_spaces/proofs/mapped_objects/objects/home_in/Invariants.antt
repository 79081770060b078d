use Rattle.std.proofs.Common.{◌≡◌, drop}
use Rattle.std.specs.List.{find}
use Rattle.history_state.specs.Objects.{has_object}
use Rattle.link_spaces.proofs.mapped_objects.objects.home_in.Given as goal

-- the search of the rest is the search of the whole
abbrev pub invariant-loop-namespace : goal.invariant-loop-namespace
invariant-loop-namespace l = find (has_object l.serial) (drop l.namespace-index l.namespaces) ≡ find (has_object l.serial) l.namespaces
