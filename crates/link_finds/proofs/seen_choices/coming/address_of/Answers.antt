use Rattle.std.proofs.Common.{◌≡◌, ⊎_elim, sym, ap, ◌∙◌}
use Rattle.ld_base.specs.declared.linking.Choice.TheVariants.{WeakZero, Missing}
use Rattle.history_state.specs.Addresses.{address}
use Rattle.link_finds.proofs.SeenChoices.Leading.{missing_address, weak_address}
use Rattle.link_finds.proofs.seen_choices.coming.address_of.Goals as goal

pub returns-in-WeakZero : goal.returns-in-WeakZero
returns-in-WeakZero c = λ s shows. ⊎_elim
    (λ (weak : c.args.choice.now ≡ WeakZero). weak_address s ∙ sym (ap (address s) weak))
    (λ (missing : c.args.choice.now ≡ Missing). missing_address s ∙ sym (ap (address s) missing))
    c.in-WeakZero.is
