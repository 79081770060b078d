use Rattle.std.proofs.Common.{◌≡◌, drop}
use Rattle.std.specs.List.{find}
use Rattle.history_state.specs.Objects.{has_id}
use Rattle.link_spaces.proofs.opening.place_of.Given as goal

-- the search of the rest is the search of the whole
abbrev pub invariant-loop-place : goal.invariant-loop-place
invariant-loop-place l = find (has_id l.id) (drop l.place l.namespaces) ≡ find (has_id l.id) l.namespaces
