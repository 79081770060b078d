use Rattle.std.proofs.Common.{◌≡◌}
use Rattle.link_keeper.specs.Keeping.{KeepsState}
use Rattle.link_keeper.specs.Settling.{HasSettled}
use Rattle.link_keeper.proofs.settling.settle_all.Given as goal

abbrev pub invariant-loop-number : goal.invariant-loop-number
invariant-loop-number g l = record {
  keeps : KeepsState g.J.RunNaming.setting g.J.RunNaming.journal l.state l.keeper;
  settled : HasSettled l.number l.fn.keeper l.keeper;
  harts : l.state.harts ≡ l.fn.state.harts;
}
