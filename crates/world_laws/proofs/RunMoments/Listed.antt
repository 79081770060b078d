-- What holds of each element of a list of the state, where each event of its journal keeps it so.
use Rattle.std.proofs.Common.{◌≡◌, ⊎_elim, ℕ, zero, suc, List, [], length, take, Some, sym, subst, arith}
use Rattle.std.specs.List.{Contains, slice_get}
use Rattle.std.proofs.lemmas.List.{take_all}
use Rattle.history_event.specs.declared.event.Event.{Event}
use Rattle.history_state.specs.After.{after}
use Rattle.history_state.specs.State.{State}
use Rattle.history_state.specs.Step.{step}
use Rattle.history_state.specs.Lemmas.History.{after_take, take_next}

module _ {X : Type 0} (list : State → List X) (Was : X → Type 0) (journal : List Event) (none : (x : X) → Contains (list (after [])) x → ⊥)
    (next : (k : ℕ) (e : Event) (x : X) → slice_get journal k ≡ Some e → ((y : X) → Contains (list (after (take k journal))) y → Was y)
    → Contains (list (step (after (take k journal)) e)) x → Was x) where
  front_were : (k : ℕ) (x : X) → Contains (list (after (take k journal))) x → Was x
  front_were zero x there = absurd (none x there)
  front_were (suc k) x there = ⊎_elim
      (λ (at : (e : Event) × (slice_get journal k ≡ Some e)).
      next k at.0 x at.1 (front_were k) (subst (λ (s : State). Contains (list s) x) (after_take journal k at.0 at.1) there))
      (λ (same : take (suc k) journal ≡ take k journal). front_were k x (subst (λ (es : List Event). Contains (list (after es)) x) same there))
      (take_next journal k)

  pub all_were : (x : X) → Contains (list (after journal)) x → Was x
  all_were x there =
      front_were (length journal) x (subst (λ (es : List Event). Contains (list (after es)) x) (sym (take_all (length journal) journal (omega arith))) there)
