-- An object that no namespace has.
use Rattle.std.proofs.Common.{◌≡◌, ℕ, true, eqb, List, None, sym, subst, ◌∙◌}
use Rattle.std.specs.List.{Contains, find}
use Rattle.std.proofs.lemmas.Bool.{eq-eqb, true≢false}
use Rattle.ld_base.specs.declared.linking.Loaded.{Loaded}
use Rattle.history_state.specs.Objects.{has_object}
use Rattle.history_state.specs.State.{State}
use Rattle.history_state.specs.Lemmas.Lists.{in_any, not_found}
use Rattle.history_calls.specs.Ends.{IsUnloaded}
use Rattle.scope_rule.specs.declared.namespace.Namespace.{Namespace}

pub unloaded : (s : State) (nss : List Namespace) (owner : ℕ) → s.namespaces ≡ nss → find (has_object owner) nss ≡ None → IsUnloaded s owner
unloaded s nss owner are none m =
    let there : Contains nss m.namespace = subst (λ (all : List Namespace). Contains all m.namespace) are m.there in
    let has : has_object owner m.namespace ≡ true = in_any (λ (o : Loaded). eqb o.serial owner) m.namespace.objects m.object m.inside (eq-eqb m.object.serial owner m.is) in
    absurd (true≢false (sym has ∙ not_found (has_object owner) nss m.namespace none there))
