use Rattle.std.proofs.Common.{◌≡◌, drop}
use Rattle.std.specs.List.{find}
use Rattle.scope_rule.specs.Needed.{lacks_version, first_lack}
use Rattle.load_walk.proofs.versions.lack_among.Given as goal

-- the search of the rest is the search of the whole
abbrev pub invariant-loop-need : goal.invariant-loop-need
invariant-loop-need l = record {
  same : l.defined ≡ l.fn.defined;
  rest : find (lacks_version l.fn.defined l.object) (drop l.need-index l.need-items) ≡ first_lack l.fn.defined l.object;
}
