use Rattle.std.proofs.Common.{◌≡◌, drop}
use Rattle.scope_rule.specs.Loads.{at_first}
use Rattle.load_walk.proofs.loaded.at_first.Given as goal

-- the search of the rest is the search of the whole
abbrev pub invariant-loop-path : goal.invariant-loop-path
invariant-loop-path l = at_first l.objects (drop l.path-index l.paths) ≡ at_first l.objects l.paths
