-- An opening keeps what leads where: what new objects found and chose stays.
use Rattle.std.proofs.Common.{◌≡◌, ◌⊎◌, inl, inr, ⊎_elim, ℕ, Bool, true, false, List, [], ◌∷◌, ◌++◌, map, Option, Some, None, refl, sym, ap, subst, ◌∙◌}
use Rattle.std.specs.Prelude.{if◌then◌else◌}
use Rattle.std.specs.List.{Contains, find, list_any}
use Rattle.std.proofs.lemmas.Bool.{eqb-true, eq-eqb, true≢false}
use Rattle.std.proofs.lemmas.List.Elements.{Contains-push_cases}
use Rattle.scope_rule.specs.declared.namespace.Namespace.{Namespace}
use Rattle.history_state.specs.State.{State, empty_namespace}
use Rattle.history_state.specs.Objects.{has_id}
use Rattle.history_state.specs.Step.{changed_at, namespace_before, with_namespace}
use Rattle.history_state.specs.Lemmas.Lists.{found_in, from_map, in_any_not, not_found}
use Rattle.history_state.specs.Lemmas.Good.{Good, core}

-- ---- the namespace before, and the namespaces after

-- the namespace of a number: the one of the list, or an empty one where none has it
pub record Before (all : List Namespace) (id : ℕ) (b : Namespace) : Type 0 where
  pub numbered : b.id ≡ id
  pub was : Contains all b ⊎ (b ≡ empty_namespace id)
  pub only : (ns : Namespace) → Contains all ns → ns.id ≡ id → ns ≡ b

before_found : (all : List Namespace) (id : ℕ) → ((ns ms : Namespace) → Contains all ns → Contains all ms → ns.id ≡ ms.id → ns ≡ ms)
    → (found : Option Namespace) → find (has_id id) all ≡ found → Before all id (elim found [ Some ns ↦ ns | None ↦ empty_namespace id ])
before_found all id one (Some ns) e =
    let at = found_in (has_id id) all ns e in
    let numbered : ns.id ≡ id = eqb-true ns.id id at.1 in
    record { numbered = numbered; was = inl at.0; only = λ ms there same. one ms ns there at.0 (same ∙ sym numbered) }
before_found all id one None e = record {
  numbered = refl;
  was = inr refl;
  only = λ ms there same. absurd (true≢false (sym (eq-eqb ms.id id same) ∙ not_found (has_id id) all ms e there));
}

pub before_of : (s : State) (id : ℕ) → Good (core s) → Before s.namespaces id (namespace_before s id)
before_of s id good = before_found s.namespaces id good.one_id (find (has_id id) s.namespaces) refl

-- a namespace after is the changed one, or another that was there
pub members : (all : List Namespace) (id : ℕ) (b : Namespace) → Before all id b → (change : Namespace → Namespace) → (ns : Namespace)
    → Contains (with_namespace id change all) ns → (ns ≡ change b) ⊎ (Contains all ns × (ns.id ≡ id → ⊥))
members all id b before change ns h = by (list_any (has_id id) all) refl h
  where
    changed : (ms : Namespace) → Contains all ms → (t : Bool) → has_id id ms ≡ t → (if t then change ms else ms) ≡ ns → (ns ≡ change b) ⊎ (Contains all ns × (ns.id ≡ id → ⊥))
    changed ms there true e is = inl (sym is ∙ ap change (before.only ms there (eqb-true ms.id id e)))
    changed ms there false e is = inr (subst (λ (n : Namespace). Contains all n × (n.id ≡ id → ⊥)) is (there, λ (same : ms.id ≡ id). true≢false (sym (eq-eqb ms.id id same) ∙ e)))

    by : (t : Bool) → list_any (has_id id) all ≡ t → Contains (if t then map (changed_at id change) all else all ++ change (empty_namespace id) ∷ []) ns
        → (ns ≡ change b) ⊎ (Contains all ns × (ns.id ≡ id → ⊥))
    by true e i = let at = from_map (changed_at id change) all ns i in changed at.0 at.1 (has_id id at.0) refl at.2
    by false e i = ⊎_elim
        (λ (j : Contains all ns). inr (j, λ (same : ns.id ≡ id). true≢false (sym (eq-eqb ns.id id same) ∙ in_any_not (has_id id) all ns e j)))
        (λ (is : change (empty_namespace id) ≡ ns). inl (sym is ∙ ap change (sym (empty_is e before.was))))
        (Contains-push_cases all (change (empty_namespace id)) ns i)
      where
        empty_is : list_any (has_id id) all ≡ false → Contains all b ⊎ (b ≡ empty_namespace id) → b ≡ empty_namespace id
        empty_is none was = ⊎_elim
            (λ (j : Contains all b). absurd (true≢false (sym (eq-eqb b.id id before.numbered) ∙ in_any_not (has_id id) all b none j)))
            (λ (is : b ≡ empty_namespace id). is)
            was

pub changed_keeps : (id : ℕ) (change : Namespace → Namespace) → ((ns : Namespace) → (change ns).id ≡ ns.id) → (ns : Namespace) → (changed_at id change ns).id ≡ ns.id
changed_keeps id change same ns = at (has_id id ns)
  where
    at : (b : Bool) → (if b then change ns else ns).id ≡ ns.id
    at true = same ns
    at false = refl
