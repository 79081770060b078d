use Rattle.std.proofs.Common.{◌≡◌, ap, subst, sym, ◌∙◌}
use Rattle.ld_base.specs.declared.linking.Role.TheVariants.{None as NoRole, Slot}
use Rattle.word_rule.specs.declared.view.KeeperView.{KeeperView}
use Rattle.word_rule.specs.Layout.{place_of}
use Rattle.word_rule.specs.Views.{kept_at}
use Rattle.kept_words.specs.Gone.{IsOfSlot}
use Rattle.word_installs.specs.Unmapped.{Retires}
use Rattle.word_installs.proofs.Places.{word_address}
use Rattle.word_installs.proofs.Retiring.{retires_by}
use Rattle.word_installs.proofs.unmapping.retire_slot.Goals as goal

pub is_slot-requires : goal.is_slot-requires
is_slot-requires g c = word_address c.args.address c.requires.covered.word

pub retire_in-requires-clause-some_role : goal.retire_in-requires-clause-some_role
retire_in-requires-clause-some_role g c = λ none.
    let both : Slot ≡ NoRole = sym (ap (λ (k : KeeperView). (kept_at k (place_of c.args.address)).role) c.is_slot.ensures.keeper ∙ c.is_slot.ensures.slot.0 c.if-is_slot.true) ∙ none in cc

pub returns-then-is_slot-clause-retires : goal.returns-then-is_slot-clause-retires
returns-then-is_slot-clause-retires g c =
    let slot : (kept_at c.is_slot.new.keeper (place_of c.args.address)).role ≡ Slot =
    ap (λ (k : KeeperView). (kept_at k (place_of c.args.address)).role) c.is_slot.ensures.keeper ∙ c.is_slot.ensures.slot.0 c.if-is_slot.true in
    subst (λ (k : KeeperView). Retires IsOfSlot c.args.ranges.now k c.retire_in.new.keeper) c.is_slot.ensures.keeper
    (retires_by IsOfSlot c.args.ranges.now c.is_slot.new.keeper c.retire_in.new.keeper c.args.address c.retire_in.result c.requires.covered
    (λ none. (let both : Slot ≡ NoRole = sym slot ∙ none in cc)) slot c.retire_in.ensures.gone c.retire_in.ensures.locked)
