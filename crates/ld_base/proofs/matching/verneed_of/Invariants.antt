use Rattle.std.proofs.Common.{◌≡◌, drop}
use Rattle.ld_base.specs.Version.{verneed_of}
use Rattle.ld_base.proofs.matching.verneed_of.Given as goal

-- the search of the rest is the search of the whole
abbrev pub invariant-loop-verneed : goal.invariant-loop-verneed
invariant-loop-verneed l = verneed_of (drop l.verneed-index l.verneeds) l.index ≡ verneed_of l.verneeds l.index
