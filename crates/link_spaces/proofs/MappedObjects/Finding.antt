-- Objects that are found namespace by namespace.
use Rattle.std.proofs.Common.{◌≡◌, ℕ, suc, ◌+◌, ◌<◌, Bool, true, false, cond, List, [], ◌∷◌, ◌++◌, Option, Some, None, drop, get_or, length, add-one, refl, sym, ap, ◌∙◌}
use Rattle.std.specs.List.{Contains, find, flat_map}
use Rattle.std.proofs.Math.Seq.{drop-cons}
use Rattle.ld_base.specs.declared.linking.Loaded.{Loaded}
use Rattle.history_state.specs.Lemmas.Lists.{found_in, from_flat}
use Rattle.link_spaces.specs.ObjectHolders.Holders.{AllAccepted}
use Rattle.scope_rule.specs.Loading.{with_serial}
use Rattle.scope_rule.specs.declared.namespace.Namespace.{Namespace}
use Rattle.seg_image.specs.Accepted.{Accepted}

-- the first of all objects with a serial
abbrev pub in_all : List Namespace → ℕ → Option Loaded
in_all namespaces serial = with_serial (flat_map (λ (ns : Namespace). ns.objects) namespaces) serial

find_front : (p : Loaded → Bool) (xs ys : List Loaded) (x : Loaded) → find p xs ≡ Some x → find p (xs ++ ys) ≡ Some x
find_front p [] ys x e = absurd (let d : None ≡ Some x = e in cc)
find_front p (y ∷ xs) ys x e = by (p y) (λ f. find_front p xs ys x f) e
  where
    by : (b : Bool) → (find p xs ≡ Some x → find p (xs ++ ys) ≡ Some x) → cond b (Some y) (find p xs) ≡ Some x → cond b (Some y) (find p (xs ++ ys)) ≡ Some x
    by true again f = f
    by false again f = again f

find_behind : (p : Loaded → Bool) (xs ys : List Loaded) → find p xs ≡ None → find p (xs ++ ys) ≡ find p ys
find_behind p [] ys e = refl
find_behind p (y ∷ xs) ys e = by (p y) (λ f. find_behind p xs ys f) e
  where
    by : (b : Bool) → (find p xs ≡ None → find p (xs ++ ys) ≡ find p ys) → cond b (Some y) (find p xs) ≡ None → cond b (Some y) (find p (xs ++ ys)) ≡ find p ys
    by true again f = absurd (let d : Some y ≡ None = f in cc)
    by false again f = again f

parts : (nss : List Namespace) (i : ℕ) (ns : Namespace) → i < length nss → ns ≡ get_or nss i ns
    → flat_map (λ (m : Namespace). m.objects) (drop i nss) ≡ ns.objects ++ flat_map (λ (m : Namespace). m.objects) (drop (i + 1) nss)
parts nss i ns lt at =
    ap (flat_map (λ (m : Namespace). m.objects)) (drop-cons nss i ns lt)
    ∙ ap (λ (m : Namespace). m.objects ++ flat_map (λ (n : Namespace). n.objects) (drop (suc i) nss)) (sym at)
    ∙ ap (λ k. ns.objects ++ flat_map (λ (n : Namespace). n.objects) (drop k nss)) (sym (add-one i))

pub first_has : (nss : List Namespace) (i : ℕ) (ns : Namespace) (serial : ℕ) (o : Loaded) → i < length nss → ns ≡ get_or nss i ns → with_serial ns.objects serial ≡ Some o
    → in_all (drop i nss) serial ≡ Some o
first_has nss i ns serial o lt at found =
    ap (λ (os : List Loaded). with_serial os serial) (parts nss i ns lt at) ∙ find_front _ ns.objects (flat_map (λ (m : Namespace). m.objects) (drop (i + 1) nss)) o found

pub first_lacks : (nss : List Namespace) (i : ℕ) (ns : Namespace) (serial : ℕ) → i < length nss → ns ≡ get_or nss i ns → with_serial ns.objects serial ≡ None
    → in_all (drop i nss) serial ≡ in_all (drop (i + 1) nss) serial
first_lacks nss i ns serial lt at none =
    ap (λ (os : List Loaded). with_serial os serial) (parts nss i ns lt at) ∙ find_behind _ ns.objects (flat_map (λ (m : Namespace). m.objects) (drop (i + 1) nss)) none

-- an object that is found is accepted
pub found_accepted : (nss : List Namespace) (serial : ℕ) (o : Loaded) → AllAccepted nss → in_all nss serial ≡ Some o → Accepted o.object
found_accepted nss serial o all found =
    let inside : Contains (flat_map (λ (m : Namespace). m.objects) nss) o = (found_in _ (flat_map (λ (m : Namespace). m.objects) nss) o found).0 in
    let at = from_flat (λ (m : Namespace). m.objects) nss o inside in
    all at.0 o at.1 at.2
