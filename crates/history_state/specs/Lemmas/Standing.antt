-- How a grant stands, and what a weak reference without a definition leads to.
use Rattle.std.proofs.Common.{◌≡◌, ℕ, true, refl, sym, subst}
use Rattle.std.proofs.lemmas.Bool.{true≢false}
use Rattle.ld_base.specs.declared.linking.Choice.TheVariants.{WeakZero}
use Rattle.history_event.specs.declared.state.Standing.{Standing}
use Rattle.history_event.specs.declared.state.Standing.TheVariants.{Open, Bound, Lost}
use Rattle.history_state.specs.Addresses.{leads_to_code}
use Rattle.history_state.specs.Grants.{is_open_standing}
use Rattle.history_state.specs.State.{State}

pub open_is : (standing : Standing) → is_open_standing standing ≡ true → standing ≡ Open
open_is Open t = refl
open_is Bound t = absurd (true≢false (sym t))
open_is (Lost saw) t = absurd (true≢false (sym t))

pub is_open_of : (standing : Standing) → standing ≡ Open → is_open_standing standing ≡ true
is_open_of standing e = subst (λ (x : Standing). is_open_standing x ≡ true) (sym e) refl

pub weak_leads : (s : State) (lazy : ℕ) → leads_to_code s lazy WeakZero ≡ true
unfolding leads_to_code
weak_leads s lazy = refl
