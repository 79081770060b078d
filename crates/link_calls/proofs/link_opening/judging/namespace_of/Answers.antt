use Rattle.std.proofs.Common.{◌≡◌, ℕ, List, Option, Some, None, false, refl, sym, subst}
use Rattle.std.specs.Prelude.{◌<◌, ◌≢◌, IsTrue}
use Rattle.ld_base.specs.declared.fault.DlFault.TheVariants.{BadNamespace, NamespacesFull}
use Rattle.history_state.specs.After.{after}
use Rattle.history_state.specs.Objects.{has_namespace}
use Rattle.history_state.specs.State.{State}
use Rattle.link_calls.specs.LinkOpening.Asked.{RefusesNamespace, bad, full}
use Rattle.link_calls.proofs.link_opening.judging.namespace_of.Goals as goal

bad_number : (s : State) (ns : Option ℕ) (name : Option (List ℕ)) (number : ℕ) (text : List ℕ) → ns ≡ Some number → name ≡ Some text → has_namespace s number ≡ false
    → RefusesNamespace s ns name (BadNamespace number)
bad_number s ns name number text numbered named none =
    subst (λ (x : Option ℕ). RefusesNamespace s x name (BadNamespace number)) (sym numbered)
    (subst (λ (y : Option (List ℕ)). RefusesNamespace s (Some number) y (BadNamespace number)) (sym named) (bad number (refl, none)))

bad_elsewhere : (s : State) (ns : Option ℕ) (name : Option (List ℕ)) (number : ℕ) → ns ≡ Some number → name ≡ None → number ≢ 0 → RefusesNamespace s ns name (BadNamespace number)
bad_elsewhere s ns name number numbered unnamed elsewhere =
    subst (λ (x : Option ℕ). RefusesNamespace s x name (BadNamespace number)) (sym numbered)
    (subst (λ (y : Option (List ℕ)). RefusesNamespace s (Some number) y (BadNamespace number)) (sym unnamed) (bad number (refl, elsewhere)))

bad_new : (s : State) (ns : Option ℕ) (name : Option (List ℕ)) → ns ≡ None → name ≡ None → RefusesNamespace s ns name (BadNamespace 18446744073709551615)
bad_new s ns name unnumbered unnamed =
    subst (λ (x : Option ℕ). RefusesNamespace s x name (BadNamespace 18446744073709551615)) (sym unnumbered)
    (subst (λ (y : Option (List ℕ)). RefusesNamespace s None y (BadNamespace 18446744073709551615)) (sym unnamed) (bad 18446744073709551615 refl))

are_full : (s : State) (ns : Option ℕ) (name : Option (List ℕ)) (text : List ℕ) → ns ≡ None → name ≡ Some text → ((id : ℕ) → id < 16 → IsTrue (has_namespace s id))
    → RefusesNamespace s ns name NamespacesFull
are_full s ns name text unnumbered named all =
    subst (λ (x : Option ℕ). RefusesNamespace s x name NamespacesFull) (sym unnumbered)
    (subst (λ (y : Option (List ℕ)). RefusesNamespace s None y NamespacesFull) (sym named) (full all))

pub returns-in-None-clause-refused : goal.returns-in-None-clause-refused
returns-in-None-clause-refused c =
    bad_number (after c.args.state.now.events) c.args.ask.now.ns c.args.ask.now.name c.in-Some-Some.number _ c.in-Some-Some.is-0 c.in-Some-Some.is-1 c.in-None.ensures.none

pub returns-in-Some-None-clause-refused : goal.returns-in-Some-None-clause-refused
returns-in-Some-None-clause-refused c =
    bad_elsewhere (after c.args.state.now.events) c.args.ask.now.ns c.args.ask.now.name c.in-Some-None.number c.in-Some-None.is-0 c.in-Some-None.is-1 c.in-Some-None.number-test.1

pub returns-in-None-free_number-clause-refused : goal.returns-in-None-free_number-clause-refused
returns-in-None-free_number-clause-refused c =
    are_full (after c.args.state.now.events) c.args.ask.now.ns c.args.ask.now.name _ c.in-None-Some.is-0 c.in-None-Some.is-1 c.in-None-free_number.ensures.none

pub returns-in-None-None-clause-refused : goal.returns-in-None-None-clause-refused
returns-in-None-None-clause-refused c = bad_new (after c.args.state.now.events) c.args.ask.now.ns c.args.ask.now.name c.in-None-None.is-0 c.in-None-None.is-1
