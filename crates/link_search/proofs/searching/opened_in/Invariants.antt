use Rattle.std.proofs.Common.{◌≡◌, drop}
use Rattle.std.specs.List.{find}
use Rattle.history_state.specs.Lookup.{is_opened}
use Rattle.link_search.proofs.searching.opened_in.Given as goal

-- the search of the rest is the search of the whole
abbrev pub invariant-loop-namespace : goal.invariant-loop-namespace
invariant-loop-namespace l = find (is_opened l.handle) (drop l.namespace-index l.namespaces) ≡ find (is_opened l.handle) l.namespaces
