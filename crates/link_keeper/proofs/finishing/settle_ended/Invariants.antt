use Rattle.link_keeper.specs.Joining.{SettlesEnded}
use Rattle.link_keeper.specs.Keeping.{KeepsState}
use Rattle.link_keeper.proofs.finishing.settle_ended.Given as goal

abbrev pub invariant-loop-number : goal.invariant-loop-number
invariant-loop-number g l = record {
  keeps : KeepsState g.J.RunNaming.setting g.J.RunNaming.journal l.state l.keeper;
  settled : SettlesEnded l.number l.fn.keeper l.keeper;
}
