use Rattle.std.proofs.Common.{◌≡◌, ℕ, List, take}
use Rattle.std.specs.List.{list_any}
use Rattle.scope_rule.specs.Needed.{defines}
use Rattle.load_walk.specs.Lookup.{named}
use Rattle.load_walk.proofs.lookup.Defined.of.Given as goal

-- the names are those that the entries so far define
abbrev pub invariant-loop-verdef : goal.invariant-loop-verdef
invariant-loop-verdef l = (version : List ℕ) → named l.names.keys version ≡ list_any (defines version) (take l.verdef-index l.verdef-items)
