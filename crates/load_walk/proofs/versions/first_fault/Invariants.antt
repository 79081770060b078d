use Rattle.std.proofs.Common.{◌≡◌, drop}
use Rattle.scope_rule.specs.Needed.{missing_version}
use Rattle.load_walk.proofs.versions.first_fault.Given as goal

-- the search of the rest is the search of the whole
abbrev pub invariant-loop-object : goal.invariant-loop-object
invariant-loop-object l = record {
  same : l.defined ≡ l.fn.defined;
  rest : missing_version l.fn.defined (drop l.object-index l.added) ≡ missing_version l.fn.defined l.added;
}
