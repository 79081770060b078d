use Rattle.std.proofs.Common.{ℕ, ◌≡◌, None, sym, subst, arith}
use Rattle.word_rule.specs.Views.{row_of}
use Rattle.link_keeper.specs.Joining.{HasEndedThere}
use Rattle.link_keeper.specs.Settling.{SettlesOne}
use Rattle.link_keeper.proofs.Finished.{ended_still, ends_more, ends_nothing}
use Rattle.link_keeper.proofs.finishing.settle_ended.Goals as goal

pub loop-number-init : goal.loop-number-init
loop-number-init g c = record { keeps = c.requires.keeps; settled = ends_nothing c.args.keeper.now }

pub settle_last-requires-clause-ended : goal.settle_last-requires-clause-ended
settle_last-requires-clause-ended g c = subst (HasEndedThere c.loop-number.keeper) (sym c.new.ensures)
    (ended_still c.loop-number.number c.args.keeper.now c.loop-number.keeper c.loop-number.invariant.settled (c.requires.ended c.loop-number.number (omega arith)))

pub loop-number-preserved : goal.loop-number-preserved
loop-number-preserved g c = record {
  keeps = c.settle_last.ensures.keeps;
  settled = ends_more c.loop-number.number c.args.keeper.now c.loop-number.keeper c.settle_last.new.keeper c.loop-number.invariant.settled
      (subst (λ (n : ℕ). SettlesOne n c.loop-number.keeper c.settle_last.new.keeper) c.new.ensures c.settle_last.ensures.settled)
      (subst (λ (n : ℕ). (row_of c.settle_last.new.keeper n).pending ≡ None) c.new.ensures c.settle_last.ensures.none);
}
