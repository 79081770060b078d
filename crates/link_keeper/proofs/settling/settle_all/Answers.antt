use Rattle.std.proofs.Common.{ℕ, refl, subst, ◌∙◌}
use Rattle.link_keeper.specs.Settling.{SettlesOne}
use Rattle.link_keeper.proofs.Settled.{settles_more, settles_nothing}
use Rattle.link_keeper.proofs.settling.settle_all.Goals as goal

pub loop-number-init : goal.loop-number-init
loop-number-init g c = record { keeps = c.requires; settled = settles_nothing c.args.keeper.now; harts = refl }

pub loop-number-preserved : goal.loop-number-preserved
loop-number-preserved g c = record {
  keeps = c.settle_hart.ensures.keeps;
  settled = settles_more c.loop-number.number c.args.keeper.now c.loop-number.keeper c.settle_hart.new.keeper c.loop-number.invariant.settled
      (subst (λ (n : ℕ). SettlesOne n c.loop-number.keeper c.settle_hart.new.keeper) c.new.ensures c.settle_hart.ensures.settled);
  harts = c.settle_hart.ensures.harts ∙ c.loop-number.invariant.harts;
}
