use Rattle.std.proofs.Common.{◌&&◌, not, eqb, ap, sym, ◌∙◌}
use Rattle.history_state.specs.Addresses.{leads_to_code}
use Rattle.link_spaces.proofs.MappedObjects.Choices.{leads_by, leads_missing, leads_weak}
use Rattle.link_spaces.proofs.mapped_objects.addresses.leads_to_code.Goals as goal

pub returns-then-is_code_of : goal.returns-then-is_code_of
returns-then-is_code_of c = λ s are.
    ap (λ b. b && not (eqb c.address_at-address.result c.args.lazy)) (sym c.if-is_code_of.true)
    ∙ leads_by s c.args.lazy c.in-Def.serial c.in-Def.index c.address_at-address.result c.is_code_of.result (c.address_at-address.ensures s are) (c.is_code_of.ensures s are)
    ∙ sym (ap (leads_to_code s c.args.lazy) c.in-Def.is)

pub returns-else-is_code_of : goal.returns-else-is_code_of
returns-else-is_code_of c = λ s are.
    c.if-is_code_of.false
    ∙ sym (ap (λ b. b && not (eqb c.address_at-address.result c.args.lazy)) c.if-is_code_of.false)
    ∙ leads_by s c.args.lazy c.in-Def.serial c.in-Def.index c.address_at-address.result c.is_code_of.result (c.address_at-address.ensures s are) (c.is_code_of.ensures s are)
    ∙ sym (ap (leads_to_code s c.args.lazy) c.in-Def.is)

pub returns-in-WeakZero : goal.returns-in-WeakZero
returns-in-WeakZero c = λ s are. leads_weak s c.args.lazy ∙ sym (ap (leads_to_code s c.args.lazy) c.in-WeakZero.is)

pub returns-in-Missing : goal.returns-in-Missing
returns-in-Missing c = λ s are. leads_missing s c.args.lazy ∙ sym (ap (leads_to_code s c.args.lazy) c.in-Missing.is)
