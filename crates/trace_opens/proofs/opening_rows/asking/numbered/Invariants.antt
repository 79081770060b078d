use Rattle.std.proofs.Common.{◌≡◌, false, take}
use Rattle.std.specs.List.{list_any}
use Rattle.history_state.specs.Objects.{has_id}
use Rattle.trace_opens.proofs.opening_rows.asking.numbered.Given as goal

-- none so far has the number
abbrev pub invariant-loop-namespace : goal.invariant-loop-namespace
invariant-loop-namespace l = list_any (has_id l.number) (take l.namespace-index l.namespaces) ≡ false
