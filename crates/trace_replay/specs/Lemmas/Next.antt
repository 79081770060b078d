-- The object that is initialised next of a loading.
use Rattle.std.proofs.Common.{◌≡◌, ⊎_elim, ℕ, ◌<◌, ◌≤◌, List, [], ◌∷◌, Some, refl, sym, ap, subst, ◌∙◌, arith}
use Rattle.std.specs.List.{Contains, flat_map, slice_get}
use Rattle.std.proofs.lemmas.Bool.{cases_lt}
use Rattle.std.proofs.lemmas.List.{append-nil}
use Rattle.history_calls.specs.Functions.{AreLeft}
use Rattle.history_event.specs.declared.state.Loading.{Loading}
use Rattle.history_graph.specs.declared.graph.Edge.{Edge}
use Rattle.history_graph.specs.Initialised.{InitNext, program_last}
use Rattle.history_state.specs.Lemmas.Lists.{at_in, none_in}
use Rattle.history_state.specs.Links.{IsInitNext, found_edges}
use Rattle.history_state.specs.Objects.{mapped}
use Rattle.history_state.specs.State.{State}

same_next : (edges : List Edge) (new done : List ℕ) (o p : ℕ) → InitNext edges new done o → InitNext edges new done p → o ≡ p
same_next edges new done o p x y = ⊎_elim
    (λ (lt : x.place < y.place). absurd (y.first x.place o lt x.stands x.may))
    (λ (ge : y.place ≤ x.place). ⊎_elim
    (λ (lt : y.place < x.place). absurd (x.first y.place p lt y.stands y.may))
    (λ (le : x.place ≤ y.place).
    let same : x.place ≡ y.place = omega (arith, ge, le) in
    let both : Some o ≡ Some p = sym (subst (λ (n : ℕ). slice_get new n ≡ Some o) same x.stands) ∙ y.stands in
    cc)
    (cases_lt y.place x.place))
    (cases_lt x.place y.place)

pub first_is : (s : State) (loading : Loading) (rest : List ℕ) (object : ℕ) → AreLeft s loading rest → IsInitNext s loading object → slice_get rest 0 ≡ Some object
first_is s loading [] object left next = absurd (⊎_elim
    (λ (done : Contains s.inits object). next.may.undone done)
    (λ (none : Contains [] object). none_in object none)
    (left.all object (at_in _ next.place object next.stands)))
first_is s loading (d ∷ rest) object left next =
    ap (λ (n : ℕ). Some n) (same_next (flat_map found_edges (mapped s)) (program_last (Some 1) loading.serials) s.inits d object (subst (λ (done : List ℕ). InitNext (flat_map found_edges (mapped s)) (program_last (Some 1) loading.serials) done d) (append-nil s.inits) (left.each 0 d refl)) next)
