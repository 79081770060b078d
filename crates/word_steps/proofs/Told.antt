-- Notes that are taken in.
use Rattle.std.proofs.Common.{◌≡◌, [], sym, ap, subst, ◌∙◌}
use Rattle.atomic_table.specs.Table.{Me}
use Rattle.word_rule.specs.declared.view.HartView.{HartView}
use Rattle.word_rule.specs.declared.view.KeeperView.{KeeperView}
use Rattle.word_rule.specs.declared.view.View.{View}
use Rattle.word_rule.specs.declared.view.View.TheVariants.{Keeper, Hart}
use Rattle.word_rule.specs.Joining.{IsSettled, MayTake, note_of, takes_in}
use Rattle.word_steps.specs.Knowing.{told_by, told_of}
use Rattle.word_steps.specs.Views.{hart_of, keeper_of}

pub may_hear_hart : (h : HartView) (k : KeeperView) (me : Me Unit View) → me ≡ (note_of (Hart h), []) → MayTake (Keeper k) me.0
may_hear_hart h k me is = subst (λ (p : Me Unit View). MayTake (Keeper k) p.0) (sym is) tt

pub may_hear_keeper : (h : HartView) (k : KeeperView) (me : Me Unit View) → me ≡ (note_of (Keeper k), []) → IsSettled h.lane → MayTake (Hart h) me.0
may_hear_keeper h k me is settled = subst (λ (p : Me Unit View). MayTake (Hart h) p.0) (sym is) settled

pub hears_hart : (h : HartView) (k k' : KeeperView) (me : Me Unit View) → me ≡ (note_of (Hart h), []) → k' ≡ keeper_of (takes_in (Keeper k) me.0) → k' ≡ told_of h k
hears_hart h k k' me is taken = taken ∙ ap (λ (p : Me Unit View). keeper_of (takes_in (Keeper k) p.0)) is

pub hears_keeper : (h h' : HartView) (k : KeeperView) (me : Me Unit View) → me ≡ (note_of (Keeper k), []) → h' ≡ hart_of (takes_in (Hart h) me.0) → h' ≡ told_by k h
hears_keeper h h' k me is taken = taken ∙ ap (λ (p : Me Unit View). hart_of (takes_in (Hart h) p.0)) is
