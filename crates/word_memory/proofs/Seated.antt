-- A hart's seat between its steps.
use Rattle.std.proofs.Common.{◌≡◌, ℕ, ◌<◌, sym, subst, ◌∙◌}
use Rattle.word_rule.specs.declared.entry.Grant.{Grant}
use Rattle.word_rule.specs.declared.kind.HartKind.{HartKind}
use Rattle.word_rule.specs.declared.kind.HartKind.TheVariants as kinds
use Rattle.word_rule.specs.Layout.{IsDoubleword}
use Rattle.word_rule.specs.declared.view.HartView.{HartView}
use Rattle.word_rule.specs.HartSteps.{HartLearns, HartLeaves, HartReady, hart_after}
use Rattle.word_rule.specs.Views.{IsLane}
use Rattle.word_rule.specs.Lemmas.Lanes.{hart_leaves, lane_stays}
use Rattle.word_rule.specs.Lemmas.Steps.{same_hart}
use Rattle.word_steps.specs.Views.{IsIdle}

abbrev pub IsSeated : ℕ → HartView → Type 0
IsSeated number h = (number ≡ h.number) × (number < 16) × IsIdle h × IsLane h.lane

-- what a step leaves that locks nothing
pub stays_seated : (kind : HartKind) (number : ℕ) (h h' : HartView) (n : ℕ) → IsSeated number h → HartLeaves kind → HartReady kind h → HartLearns kind h n → h' ≡ hart_after kind h n → IsSeated number h'
stays_seated kind number h h' n seated leaves ready learns is =
    let same = same_hart kind h n in subst (IsSeated number) (sym is) (
      seated.0 ∙ sym same.number,
      seated.1,
      record { access = hart_leaves kind h n leaves ∙ seated.2.access; note = same.note },
      lane_stays kind h n ready learns seated.3,
    )

-- the slot of a grant that was read is a doubleword of guest memory
pub grant_slot : (h : HartView) (g : Grant) → IsLane h.lane → HartReady (kinds.Exchange g) h → IsDoubleword g.entry.slot
grant_slot h g lane ready = lane.slot ready.2.0 g.entry.slot ready.2.1 (ready.2.2.0.mark_is ∙ ready.1) ready.2.2.0.slot_is
