use Rattle.std.proofs.Common.{◌≡◌, drop}
use Rattle.ld_base.specs.Version.{verdef_of}
use Rattle.ld_base.proofs.matching.verdef_of.Given as goal

-- the search of the rest is the search of the whole
abbrev pub invariant-loop-verdef : goal.invariant-loop-verdef
invariant-loop-verdef l = verdef_of (drop l.verdef-index l.verdefs) l.index ≡ verdef_of l.verdefs l.index
