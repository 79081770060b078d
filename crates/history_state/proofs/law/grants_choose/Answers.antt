use Rattle.std.proofs.Common.{◌≡◌, ℕ, false, refl, sym, ap, ◌∙◌}
use Rattle.std.proofs.lemmas.Bool.{true≢false}
use Rattle.ld_base.specs.declared.linking.Choice.TheVariants.{Missing, WeakZero}
use Rattle.history_state.specs.Addresses.{address, leads_to_code}
use Rattle.history_state.specs.After.{after}
use Rattle.history_state.specs.State.{State}
use Rattle.history_state.specs.Lemmas.Standing.{weak_leads}
use Rattle.history_state.proofs.law.grants_choose.Goals as goal

none_missing : (s : State) (lazy : ℕ) → leads_to_code s lazy Missing ≡ false
unfolding leads_to_code
none_missing s lazy = refl

weak_zero : (s : State) → address s WeakZero ≡ 0
unfolding address
weak_zero s = refl

pub returns-clause-some : goal.returns-clause-some
returns-clause-some c w past number hart owner slot choice value may is =
    true≢false (sym may.may.code ∙ ap (leads_to_code (after past) _) is ∙ none_missing (after past) _)

pub returns-clause-weak : goal.returns-clause-weak
returns-clause-weak c w past number hart owner slot choice value may is = may.is ∙ ap (address (after past)) is ∙ weak_zero (after past)

pub returns-clause-unresolved : goal.returns-clause-unresolved
returns-clause-unresolved c w past hart owner slot choice may is =
    true≢false (sym (weak_leads (after past) _) ∙ sym (ap (leads_to_code (after past) _) is) ∙ may.may_not.code)
