use Rattle.std.proofs.Common.{◌≡◌, false, true, sym, ap, ◌∙◌}
use Rattle.ld_base.specs.declared.linking.Role.TheVariants.{Slot}
use Rattle.seg_image.specs.declared.image.Word.{Word}
use Rattle.word_installs.proofs.Putting.{may_set_slot, no_slot, slot_put}
use Rattle.word_installs.proofs.installing.put_slot.Goals as goal

pub set_word-requires : goal.set_word-requires
set_word-requires g c = may_set_slot c.args.keeper.now c.args.images.now c.args.slot c.in-Some.word c.requires c.in-Some.ensures.found (c.is_slot_role.ensures.0 c.if-is_slot_role.true)

pub returns-then-is_slot_role : goal.returns-then-is_slot_role
returns-then-is_slot_role g c =
    let role : c.in-Some.word.role ≡ Slot = c.is_slot_role.ensures.0 c.if-is_slot_role.true in
    slot_put c.args.images.now c.args.slot c.in-Some.word c.args.keeper.now c.set_word.new.keeper c.set_word.ensures.long c.requires c.in-Some.ensures.found role c.set_word.ensures.set

pub returns-else-is_slot_role : goal.returns-else-is_slot_role
returns-else-is_slot_role g c =
    no_slot c.args.images.now c.args.slot c.args.keeper.now (λ x has role.
    let same : x ≡ c.in-Some.word = c.requires.one x c.in-Some.word has c.in-Some.ensures.found in
    let is : c.is_slot_role.result ≡ true = c.is_slot_role.ensures.1 (sym (ap (λ (w : Word). w.role) same) ∙ role) in
    let both : true ≡ false = sym is ∙ c.if-is_slot_role.false in cc)

pub returns-in_default : goal.returns-in_default
returns-in_default g c = no_slot c.args.images.now c.args.slot c.args.keeper.now (λ x has role. c.in_default.ensures.none x has)
