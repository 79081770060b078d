-- The view of a hart's seat over one step.
use Rattle.std.proofs.Common.{◌≡◌, [], sym, ap, subst}
use Rattle.atomic_table.specs.Table.{Me}
use Rattle.word_rule.specs.declared.kind.HartKind.{HartKind}
use Rattle.word_rule.specs.declared.kind.Kind.TheVariants.{Hart as OfHart}
use Rattle.word_rule.specs.declared.view.Slip.TheVariants.{OfHart}
use Rattle.word_rule.specs.declared.view.View.{View}
use Rattle.word_rule.specs.declared.view.View.TheVariants.{Hart}
use Rattle.word_rule.specs.Joining.{HasNote, MayTake}
use Rattle.word_rule.specs.HartSteps.{HartReady}
use Rattle.word_rule.specs.Table.{Ready}
use Rattle.word_steps.specs.Views.{hart_of}

-- the seat is a hart's, and holds no slot
abbrev pub IsHart : Me Unit View → Type 0
IsHart me = me ≡ (Hart (hart_of me.0), [])

view_is : (me : Me Unit View) → IsHart me → me.0 ≡ Hart (hart_of me.0)
view_is me is = ap (λ (p : Me Unit View). p.0) is

pub ready_as : (kind : HartKind) (me : Me Unit View) → IsHart me → HartReady kind (hart_of me.0) → (me.1 ≡ []) × Ready (OfHart kind) me.0
ready_as kind me is ready = (ap (λ (p : Me Unit View). p.1) is, subst (Ready (OfHart kind)) (sym (view_is me is)) ready)

-- ---- seats that are made or joined

pub hand_noted : (me : Me Unit View) → IsHart me → (me.1 ≡ []) × HasNote me.0
hand_noted me is = (ap (λ (p : Me Unit View). p.1) is, subst HasNote (sym (view_is me is)) tt)

pub hand_may : (me : Me Unit View) (w : View) → IsHart me → MayTake (Hart (hart_of me.0)) w → MayTake me.0 w
hand_may me w is may = subst (λ v. MayTake v w) (sym (view_is me is)) may
