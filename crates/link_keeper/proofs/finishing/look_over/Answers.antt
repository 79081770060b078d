use Rattle.std.proofs.Common.{◌≡◌, ◌≢◌, ℕ, sym, subst, ◌∙◌, arith}
use mathlib.Core.Logic.{dite}
use native.Mathlib.Decide.{ℕ_discrete}
use Rattle.word_rule.specs.declared.view.HartView.{HartView}
use Rattle.word_rule.specs.declared.view.KeeperView.{KeeperView}
use Rattle.word_rule.specs.KeeperSteps.{AreDecided, AreJoinedOnce, HasEnded, HasTakenAll}
use Rattle.link_keeper.proofs.finishing.look_over.Goals as goal

pub look_at-requires-clause-ended : goal.look_at-requires-clause-ended
look_at-requires-clause-ended g c =
    subst (λ (n : ℕ). (j : HartView) × HasEnded c.loop-number.keeper n j) (sym c.new.ensures)
    (subst (λ (k : KeeperView). (j : HartView) × HasEnded k c.loop-number.number j) (sym c.loop-number.invariant.same) (c.requires.ended c.loop-number.number (omega arith)))

pub loop-number-preserved : goal.loop-number-preserved
loop-number-preserved g c = record {
  same = c.look_at.ensures.same ∙ c.loop-number.invariant.same;
  taken = λ m j low ended. dite (ℕ_discrete m c.loop-number.number)
      (λ (here : m ≡ c.loop-number.number).
      subst (λ (n : ℕ). HasEnded c.args.keeper.now n j → (state : ℕ) × HasTakenAll c.args.keeper.now n state j) (sym here)
      (subst (λ (k : KeeperView). HasEnded k c.loop-number.number j → (state : ℕ) × HasTakenAll k c.loop-number.number state j) c.loop-number.invariant.same
      (subst (λ (n : ℕ). HasEnded c.loop-number.keeper n j → (state : ℕ) × HasTakenAll c.loop-number.keeper n state j) c.new.ensures (c.look_at.ensures.taken j))) ended)
      (λ (apart : m ≢ c.loop-number.number). c.loop-number.invariant.taken m j (omega (arith, low, apart)) ended);
  once = λ _. subst AreJoinedOnce c.loop-number.invariant.same c.look_at.ensures.once;
  decided = λ _. subst AreDecided c.loop-number.invariant.same c.look_at.ensures.decided;
}
