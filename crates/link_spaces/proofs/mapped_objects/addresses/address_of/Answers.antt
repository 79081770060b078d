use Rattle.std.proofs.Common.{◌≡◌, ⊎_elim, sym, ap, ◌∙◌}
use Rattle.ld_base.specs.declared.linking.Choice.TheVariants.{WeakZero, Missing}
use Rattle.history_state.specs.Addresses.{address}
use Rattle.link_spaces.proofs.MappedObjects.Choices.{of_missing, of_weak}
use Rattle.link_spaces.proofs.mapped_objects.addresses.address_of.Goals as goal

pub returns-in-WeakZero : goal.returns-in-WeakZero
returns-in-WeakZero c = λ s are. ⊎_elim
    (λ (weak : c.args.choice ≡ WeakZero). of_weak s ∙ sym (ap (address s) weak))
    (λ (missing : c.args.choice ≡ Missing). of_missing s ∙ sym (ap (address s) missing))
    c.in-WeakZero.is
