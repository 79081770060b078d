use Rattle.std.proofs.Common.{◌≡◌, ℕ, List, drop}
use Rattle.scope_rule.specs.Finding.{Reading}
use Rattle.scope_rule.specs.Load.{find_paths}
use Rattle.load_walk.specs.Files.{load_of}
use Rattle.load_walk.specs.Walking.{Agrees}
use Rattle.load_walk.proofs.walker.Walker.find_paths.Given as goal

-- the paths so far lead nowhere
abbrev pub invariant-loop-path : goal.invariant-loop-path
invariant-loop-path l = (reading : List ℕ → Reading) → Agrees reading l.self →
    find_paths (load_of l.ask l.there reading) l.self.arrivals (drop l.path-index l.paths) ≡ find_paths (load_of l.ask l.there reading) l.self.arrivals l.paths
