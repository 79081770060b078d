-- The view of the keeper's seat over one step.
use Rattle.std.proofs.Common.{◌≡◌, ℕ, ◌<◌, [], sym, ap, subst, ◌∙◌}
use Rattle.atomic_table.specs.Table.{Me}
use Rattle.word_rule.specs.declared.kind.KeeperKind.{KeeperKind}
use Rattle.word_rule.specs.declared.kind.Kind.TheVariants.{Keeper as OfKeeper}
use Rattle.word_rule.specs.declared.view.Slip.TheVariants.{OfKeeper}
use Rattle.word_rule.specs.declared.view.View.{View}
use Rattle.word_rule.specs.declared.view.View.TheVariants.{Keeper}
use Rattle.word_rule.specs.KeeperSteps.{KeeperReady, keeper_after}
use Rattle.word_rule.specs.Table.{Ready, after_step}
use Rattle.word_rule.specs.Joining.{HasNote, HasRoom, MayTake}
use Rattle.word_rule.specs.Layout.{harts_at_most}
use Rattle.word_rule.specs.Views.{IsLong}
use Rattle.word_rule.specs.Lemmas.Seating.{stays_long}
use Rattle.word_steps.specs.Views.{keeper_of}

-- the seat is the keeper's, and holds no slot
abbrev pub IsKeeper : Me Unit View → Type 0
IsKeeper me = me ≡ (Keeper (keeper_of me.0), [])

desk_is : (me : Me Unit View) → IsKeeper me → me.0 ≡ Keeper (keeper_of me.0)
desk_is me is = ap (λ (p : Me Unit View). p.0) is

pub desk_ready : (kind : KeeperKind) (me : Me Unit View) → IsKeeper me → KeeperReady kind (keeper_of me.0) → (me.1 ≡ []) × Ready (OfKeeper kind) me.0
desk_ready kind me is ready = (ap (λ (p : Me Unit View). p.1) is, subst (Ready (OfKeeper kind)) (sym (desk_is me is)) ready)

desk_now : (kind : KeeperKind) (me me' : Me Unit View) (n : ℕ) → IsKeeper me → me' ≡ (after_step (OfKeeper kind) me.0 n, []) → me' ≡ (Keeper (keeper_after kind (keeper_of me.0) n), [])
desk_now kind me me' n is now = now ∙ ap (λ (v : View). (after_step (OfKeeper kind) v n, [])) (desk_is me is)

pub desk_still : (kind : KeeperKind) (me me' : Me Unit View) (n : ℕ) → IsKeeper me → me' ≡ (after_step (OfKeeper kind) me.0 n, []) → IsKeeper me'
desk_still kind me me' n is now = let e = desk_now kind me me' n is now in e ∙ sym (ap (λ (p : Me Unit View). (Keeper (keeper_of p.0), [])) e)

pub desk_after : (kind : KeeperKind) (me me' : Me Unit View) (n : ℕ) → IsKeeper me → me' ≡ (after_step (OfKeeper kind) me.0 n, []) → keeper_of me'.0 ≡ keeper_after kind (keeper_of me.0) n
desk_after kind me me' n is now = ap (λ (p : Me Unit View). keeper_of p.0) (desk_now kind me me' n is now)

pub desk_long : (kind : KeeperKind) (me me' : Me Unit View) (n : ℕ) → IsKeeper me → IsLong (keeper_of me.0) → KeeperReady kind (keeper_of me.0) → me' ≡ (after_step (OfKeeper kind) me.0 n, []) → IsLong (keeper_of me'.0)
desk_long kind me me' n is long ready now = subst IsLong (sym (desk_after kind me me' n is now)) (stays_long kind (keeper_of me.0) n ready long)

-- ---- seats that are made or joined

pub desk_room : (me : Me Unit View) → IsKeeper me → (keeper_of me.0).harts < harts_at_most → (me.1 ≡ []) × HasRoom me.0
desk_room me is room = (ap (λ (p : Me Unit View). p.1) is, subst HasRoom (sym (desk_is me is)) room)

pub desk_noted : (me : Me Unit View) → IsKeeper me → (me.1 ≡ []) × HasNote me.0
desk_noted me is = (ap (λ (p : Me Unit View). p.1) is, subst HasNote (sym (desk_is me is)) tt)

pub desk_may : (me : Me Unit View) (w : View) → IsKeeper me → MayTake (Keeper (keeper_of me.0)) w → MayTake me.0 w
desk_may me w is may = subst (λ v. MayTake v w) (sym (desk_is me is)) may
