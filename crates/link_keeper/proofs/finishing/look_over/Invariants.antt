use Rattle.std.proofs.Common.{◌≡◌, ◌<◌}
use Rattle.word_rule.specs.KeeperSteps.{AreDecided, AreJoinedOnce}
use Rattle.link_keeper.specs.Joining.{HaveTakenAll}
use Rattle.link_keeper.proofs.finishing.look_over.Given as goal

abbrev pub invariant-loop-number : goal.invariant-loop-number
invariant-loop-number g l = record {
  same : l.keeper ≡ l.fn.keeper;
  taken : HaveTakenAll l.number l.fn.keeper;
  once : 0 < l.number → AreJoinedOnce l.fn.keeper;
  decided : 0 < l.number → AreDecided l.fn.keeper;
}
