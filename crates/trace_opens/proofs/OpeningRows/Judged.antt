-- What is asked of an opening: which namespace it is refused for.
use Rattle.std.proofs.Common.{◌≡◌, ◌<◌, ◌≢◌, ℕ, false, List, Option, Some, None, refl, sym, ap, subst, ◌∙◌}
use Rattle.std.specs.Prelude.{IsTrue}
use Rattle.std.specs.List.{list_any}
use Rattle.history_state.specs.Asking.{AreNamespacesFull, IsBadNamespace}
use Rattle.history_state.specs.Objects.{has_id, has_namespace}
use Rattle.history_state.specs.State.{State}
use Rattle.scope_rule.specs.declared.namespace.Namespace.{Namespace}

module _ (s : State) (ns : Option ℕ) (name : Option (List ℕ)) where
  pub bad_number : (all : List Namespace) (number : ℕ) (text : List ℕ) → s.namespaces ≡ all → ns ≡ Some number → name ≡ Some text → list_any (has_id number) all ≡ false
      → IsBadNamespace s ns name number
  bad_number all number text are numbered named none =
      subst (λ (x : Option ℕ). IsBadNamespace s x name number) (sym numbered)
      (subst (λ (y : Option (List ℕ)). IsBadNamespace s (Some number) y number) (sym named) (refl, ap (list_any (has_id number)) are ∙ none))

  pub bad_elsewhere : (number : ℕ) → ns ≡ Some number → name ≡ None → number ≢ 0 → IsBadNamespace s ns name number
  bad_elsewhere number numbered unnamed elsewhere =
      subst (λ (x : Option ℕ). IsBadNamespace s x name number) (sym numbered)
      (subst (λ (y : Option (List ℕ)). IsBadNamespace s (Some number) y number) (sym unnamed) (refl, elsewhere))

  pub bad_new : ns ≡ None → name ≡ None → IsBadNamespace s ns name 18446744073709551615
  bad_new unnumbered unnamed =
      subst (λ (x : Option ℕ). IsBadNamespace s x name 18446744073709551615) (sym unnumbered)
      (subst (λ (y : Option (List ℕ)). IsBadNamespace s None y 18446744073709551615) (sym unnamed) refl)

  pub are_full : (text : List ℕ) → ns ≡ None → name ≡ Some text → ((id : ℕ) → id < 16 → IsTrue (has_namespace s id)) → AreNamespacesFull s ns name
  are_full text unnumbered named all =
      subst (λ (x : Option ℕ). AreNamespacesFull s x name) (sym unnumbered) (subst (λ (y : Option (List ℕ)). AreNamespacesFull s None y) (sym named) all)
