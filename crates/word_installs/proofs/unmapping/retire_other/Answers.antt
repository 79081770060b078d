use Rattle.std.proofs.Common.{◌≢◌, ap, inr, sym, subst, ◌∙◌}
use Rattle.ld_base.specs.declared.linking.Role.TheVariants.{None as NoRole}
use Rattle.word_rule.specs.declared.view.KeeperView.{KeeperView}
use Rattle.word_rule.specs.Layout.{place_of}
use Rattle.word_rule.specs.Views.{kept_at}
use Rattle.kept_words.specs.Gone.{IsOfOther}
use Rattle.word_installs.specs.Unmapped.{HasNoSlot, MayUnmap, Retires}
use Rattle.word_installs.proofs.Places.{word_address}
use Rattle.word_installs.proofs.Retiring.{may_on, no_role, other_by, retires_none, slotless_on}
use Rattle.word_installs.proofs.unmapping.retire_other.Goals as goal

pub has_role-requires : goal.has_role-requires
has_role-requires g c = word_address c.args.address c.requires.covered.word

pub loop-init : goal.loop-init
loop-init g c = (tt, tt, retires_none IsOfOther c.args.ranges.now c.args.keeper.now)

pub loop-preserved : goal.loop-preserved
loop-preserved g c = (
  tt,
  tt,
  other_by c.args.ranges.now c.args.keeper.now c.loop.keeper c.has_role.new.keeper c.retire_in.new.keeper c.args.address c.retire_in.result c.loop.invariant.2 c.requires.slotless
      c.has_role.ensures.keeper c.requires.covered (c.has_role.ensures.role.0 c.if-not-has_role.false) c.retire_in.ensures.gone c.retire_in.ensures.locked,
)

pub retire_in-requires-clause-may : goal.retire_in-requires-clause-may
retire_in-requires-clause-may g c =
    subst (λ (k : KeeperView). MayUnmap k c.args.ranges.now) (sym c.has_role.ensures.keeper) (may_on c.args.ranges.now c.args.keeper.now c.loop.keeper c.loop.invariant.2 c.requires.may)

pub retire_in-requires-clause-some_role : goal.retire_in-requires-clause-some_role
retire_in-requires-clause-some_role g c =
    subst (λ (k : KeeperView). (kept_at k (place_of c.args.address)).role ≢ NoRole) (sym c.has_role.ensures.keeper) (c.has_role.ensures.role.0 c.if-not-has_role.false)

pub retire_in-requires-clause-order : goal.retire_in-requires-clause-order
retire_in-requires-clause-order g c =
    inr (subst (HasNoSlot c.args.ranges.now) (sym c.has_role.ensures.keeper) (slotless_on c.args.ranges.now c.args.keeper.now c.loop.keeper c.loop.invariant.2 c.requires.slotless))

pub returns-then-not-has_role-clause-gone : goal.returns-then-not-has_role-clause-gone
returns-then-not-has_role-clause-gone g c =
    ap (λ (k : KeeperView). (kept_at k (place_of c.args.address)).role) c.has_role.ensures.keeper
    ∙ no_role (kept_at c.loop.keeper (place_of c.args.address)).role c.has_role.result c.has_role.ensures.role.1 c.if-not-has_role.true

pub returns-then-not-has_role-clause-retires : goal.returns-then-not-has_role-clause-retires
returns-then-not-has_role-clause-retires g c = subst (Retires IsOfOther c.args.ranges.now c.args.keeper.now) (sym c.has_role.ensures.keeper) c.loop.invariant.2

pub returns-then-is_ok-clause-retires : goal.returns-then-is_ok-clause-retires
returns-then-is_ok-clause-retires g c =
    other_by c.args.ranges.now c.args.keeper.now c.loop.keeper c.has_role.new.keeper c.retire_in.new.keeper c.args.address c.retire_in.result c.loop.invariant.2 c.requires.slotless
    c.has_role.ensures.keeper c.requires.covered (c.has_role.ensures.role.0 c.if-not-has_role.false) c.retire_in.ensures.gone c.retire_in.ensures.locked
