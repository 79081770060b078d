use Rattle.std.proofs.Common.{◌≡◌, ◌≤◌, map, take}
use Rattle.std.specs.List.{All}
use Rattle.ldso_view.specs.Spelled.{IsFoundFrom, unknown}
use Rattle.ldso_view.proofs.spelled.all_found.Given as goal

-- the members so far
abbrev pub invariant-loop-member : goal.invariant-loop-member
invariant-loop-member g l = record {
  same : map unknown l.all ≡ map unknown (take l.member-index l.members);
  found : All (IsFoundFrom (g.L.Library.files l.initial.library) (g.L.Library.faults l.initial.library) (g.L.Library.faults l.library) l.folder) l.all;
  faults : g.L.Library.faults l.initial.library ≤ g.L.Library.faults l.library;
  files : g.L.Library.files l.library ≡ g.L.Library.files l.initial.library;
}
