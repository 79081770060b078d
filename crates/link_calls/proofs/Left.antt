-- Objects that are left to be finalised.
use Rattle.std.proofs.Common.{◌≡◌, ℕ, true, List, [], ◌∷◌, cond, map, reverse, Result, Ok, Err, IfOk, refl, sym, ap, subst, ◌∙◌}
use Rattle.std.specs.Prelude.{IsSome, Option, Bool}
use Rattle.std.specs.List.{Contains, filter}
use Rattle.ld_base.specs.declared.linking.Loaded.{Loaded}
use Rattle.history_event.specs.declared.handed.Function.{Function}
use Rattle.history_graph.specs.Initialised.{is_one_of}
use Rattle.history_state.specs.Laws.{FindsImage}
use Rattle.history_state.specs.Links.{unfinished}
use Rattle.history_state.specs.Memory.{image_of}
use Rattle.history_state.specs.Objects.{IsMapped, mapped, serial_of}
use Rattle.history_state.specs.State.{Linked, State}
use Rattle.history_state.specs.Lemmas.Finalised.{from_reverse}
use Rattle.history_state.specs.Lemmas.Lists.{here, in_flat, in_has, in_map, later}
use Rattle.history_calls.specs.Functions.{AreFinalDestructors, AreOf, destructors, object_of}
use Rattle.scope_rule.specs.declared.namespace.Namespace.{Namespace}

is_there : (s : State) (d : ℕ) → (is : IsMapped s d) → Contains (mapped s) is.object
is_there s d is = in_flat (λ (ns : Namespace). ns.objects) s.namespaces is.namespace is.object is.there is.inside

pub has_image : (s : State) → ((o : Loaded) → Contains (mapped s) o → FindsImage s o) → (d : ℕ) → IsMapped s d → IsSome (image_of s d)
has_image s finds d is =
    let found = finds is.object (is_there s d is) in
    subst (λ (n : ℕ). IsSome (image_of s n)) is.is (subst (λ (i : Option Linked). IsSome i) (sym found.found) refl)

whole : (p : ℕ → Bool) (xs : List ℕ) → ((x : ℕ) → Contains xs x → p x ≡ true) → filter p xs ≡ xs
whole p [] each = refl
whole p (x ∷ xs) each =
    ap (λ (b : Bool). cond b (x ∷ filter p xs) (filter p xs)) (each x (here x xs)) ∙ ap (λ (ys : List ℕ). x ∷ ys) (whole p xs (λ y inside. each y (later x xs y inside)))

-- where they are mapped, their destructors are those of all mapped objects
pub are_final : (s : State) (all : List Function) → ((d : ℕ) → Contains (unfinished s) d → IsMapped s d) → map object_of all ≡ reverse (unfinished s) → AreOf s destructors all → AreFinalDestructors s all
are_final s all stay order addresses = record {
  order = order ∙ sym (whole (is_one_of (map serial_of (mapped s))) (reverse (unfinished s)) (λ d inside.
      let is = stay d (from_reverse (unfinished s) d inside) in
      in_has (map serial_of (mapped s)) d (subst (Contains (map serial_of (mapped s))) is.is (in_map serial_of (mapped s) is.object (is_there s d is)))));
  addresses = addresses;
}

pub if_both : {X E : Type 0} (r : Result X E) (P Q R : X → Type 0) → ((x : X) → P x → Q x → R x) → IfOk r P → IfOk r Q → IfOk r R
if_both (Ok x) P Q R both p q = both x p q
if_both (Err e) P Q R both p q = p

pub if_so : {X E : Type 0} (r : Result X E) (P Q : X → Type 0) → ((x : X) → P x → Q x) → IfOk r P → IfOk r Q
if_so (Ok x) P Q so p = so x p
if_so (Err e) P Q so p = p
