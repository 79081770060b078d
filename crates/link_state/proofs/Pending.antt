-- A hart's grant among those that are open.
use Rattle.std.proofs.Common.{◌≡◌, ℕ, true, List, Option, Some, None, refl, sym, subst, ◌∙◌}
use Rattle.std.specs.Prelude.{IfNone, IfSome}
use Rattle.std.specs.List.{Contains, filter, find}
use Rattle.std.specs.Option.{option_map}
use Rattle.std.proofs.lemmas.Bool.{eqb-true, eq-eqb, true≢false}
use Rattle.history_event.specs.declared.state.Granting.{Granting}
use Rattle.history_state.specs.Grants.{is_open}
use Rattle.history_state.specs.Lemmas.Lists.{found_in, from_filter, in_filter, not_found}
use Rattle.history_state.specs.Lemmas.Standing.{is_open_of, open_is}
use Rattle.history_state.specs.Slots.{HasNoGrant}
use Rattle.history_state.specs.State.{State}
use Rattle.link_state.specs.Granting.{HasOpenGrant, is_by}

pub found_is : (s : State) (hart : ℕ) (pending : List Granting) (found : Option Granting) → pending ≡ filter is_open s.grants → find (is_by hart) pending ≡ found
    → IfSome (option_map (λ g. g.number) found) (HasOpenGrant s hart)
found_is s hart pending (Some g) are e =
    let at : Contains pending g × (is_by hart g ≡ true) = found_in (is_by hart) pending g e in
    let from : Contains s.grants g × (is_open g ≡ true) = from_filter is_open s.grants g (subst (λ (xs : List Granting). Contains xs g) are at.0) in
    record { grant = g; there = from.0; pending = open_is g.standing from.1; of = eqb-true g.hart hart at.1; numbered = refl }
found_is s hart pending None are e = tt

pub none_is : (s : State) (hart : ℕ) (pending : List Granting) (found : Option Granting) → pending ≡ filter is_open s.grants → find (is_by hart) pending ≡ found
    → IfNone (option_map (λ g. g.number) found) (HasNoGrant s hart)
none_is s hart pending (Some g) are e = tt
none_is s hart pending None are e = λ g there yet same.
    let in_pending : Contains pending g = subst (λ (xs : List Granting). Contains xs g) (sym are) (in_filter is_open s.grants g there (is_open_of g.standing yet)) in
    true≢false (sym (eq-eqb g.hart hart same) ∙ not_found (is_by hart) pending g e in_pending)
