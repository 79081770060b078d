-- How many of some objects there are, as new ones come.
use Rattle.std.proofs.Common.{◌≡◌, ⊎_elim, ℕ, zero, suc, ◌+◌, ◌≤◌, Bool, true, false, cond, List, [], ◌∷◌, ◌++◌, map, length, Some, refl, sym, ap, subst, ◌∙◌, arith}
use Rattle.std.specs.Prelude.{if◌then◌else◌}
use Rattle.std.specs.List.{Contains, count_by, flat_map, list_any, range_with_len, slice_get}
use Rattle.std.proofs.lemmas.List.{map-append}
use Rattle.std.proofs.lemmas.List.Concat.{flat_map-append}
use Rattle.std.proofs.lemmas.List.Sums.{sum_by-append, sum_by-cons}
use Rattle.ld_base.specs.declared.linking.Loaded.{Loaded}
use Rattle.history_event.specs.declared.state.Closing.{Closing}
use Rattle.history_state.specs.Laws.{EachDiesOnce, IsDyingBy, SerialsAreInOrder}
use Rattle.history_state.specs.Objects.{has, has_id, serial_of}
use Rattle.history_state.specs.State.{State, empty_namespace}
use Rattle.history_state.specs.Step.{changed_at, with_namespace}
use Rattle.history_state.specs.Lemmas.Lists.{at_in, first_or_later, from_map, has_in, here, in_map, later, none_in}
use Rattle.scope_rule.specs.Opening.{opened}
use Rattle.scope_rule.specs.declared.namespace.Namespace.{Namespace}

-- ---- counting

abbrev weight : {X : Type 0} → (X → Bool) → X → ℕ
weight p x = cond (p x) 1 0

pub count_append : {X : Type 0} (p : X → Bool) (xs ys : List X) → count_by p (xs ++ ys) ≡ count_by p xs + count_by p ys
count_append p xs ys = sum_by-append (weight p) xs ys

pub count_none : {X : Type 0} (p : X → Bool) (xs : List X) → ((x : X) → Contains xs x → p x ≡ false) → count_by p xs ≡ 0
count_none p [] none = refl
count_none {X} p (x ∷ xs) none =
    let first : weight p x ≡ 0 = ap (λ (b : Bool). cond {A = ℕ} b 1 0) (none x (here x xs)) in
    let rest : count_by p xs ≡ 0 = count_none p xs (λ y inside. none y (later x xs y inside)) in
    let both : count_by p (x ∷ xs) ≡ weight p x + count_by p xs = sum_by-cons (weight p) x xs in
    omega (arith, first, rest, both)

pub count_with : {X : Type 0} (p : X → Bool) (xs ys : List X) → ((x : X) → Contains ys x → p x ≡ false) → count_by p (xs ++ ys) ≡ count_by p xs
count_with p xs ys none = count_append p xs ys ∙ plain (count_by p xs) (count_by p ys) (count_none p ys none)
  where
    plain : (m n : ℕ) → n ≡ 0 → m + n ≡ m
    plain m n e = omega (arith, e)

-- ---- serials in a row

row_from : (a n d : ℕ) → Contains (range_with_len a n) d → a ≤ d
row_from a zero d inside = absurd (none_in d inside)
row_from a (suc n) d inside = ⊎_elim
    (λ (e : a ≡ d). omega (arith, e))
    (λ (h : Contains (range_with_len (a + 1) n) d). omega (arith, row_from (a + 1) n d h))
    (first_or_later a (range_with_len (a + 1) n) d inside)

pub new_from : (added : List Loaded) (next : ℕ) (o : Loaded) → map serial_of added ≡ range_with_len next (length added) → Contains added o → next ≤ o.serial
new_from added next o are inside = row_from next (length added) o.serial (subst (λ (ds : List ℕ). Contains ds o.serial) are (in_map serial_of added o inside))

pub new_at : (added : List Loaded) (next : ℕ) → map serial_of added ≡ range_with_len next (length added) → (k : ℕ) (o : Loaded) → slice_get added k ≡ Some o → o.serial ≡ next + k
new_at [] next are k o at = absurd (none_in o (at_in [] k o at))
new_at (x ∷ added) next are zero o at =
    let same : x ≡ o = cc in
    let first : x.serial ≡ next = cc in
    omega (arith, ap serial_of same, first)
new_at (x ∷ added) next are (suc k) o at =
    let rest : map serial_of added ≡ range_with_len (next + 1) (length added) = cc in
    omega (arith, new_at added (next + 1) rest k o at)

-- ---- of closings that wait

pub is_not_of : (s : State) → SerialsAreInOrder s → EachDiesOnce s → (c : Closing) → Contains s.closings c → (d : ℕ) → s.next ≤ d → has c.set d ≡ false
is_not_of s order dies c there d late = by (has c.set d) refl
  where
    by : (b : Bool) → has c.set d ≡ b → b ≡ false
    by false e = refl
    by true e =
        let dying : IsDyingBy s d c.hart = dies.dying c d there (has_in c.set d e) in
        absurd (omega (arith, order.below dying.namespace dying.object dying.inside, dying.is, late))

-- ---- namespaces

abbrev objects_of : Namespace → List Loaded
objects_of ns = ns.objects

abbrev serials_in : List Namespace → List ℕ
serials_in all = map serial_of (flat_map objects_of all)

module _ (p : ℕ → Bool) (id root : ℕ) (global : Bool) (added : List Loaded) (none : (o : Loaded) → Contains added o → p o.serial ≡ false) where
  abbrev change : Namespace → Namespace
  change ns = opened ns added root global

  not_new : (d : ℕ) → Contains (map serial_of added) d → p d ≡ false
  not_new d inside = let at = from_map serial_of added d inside in ap p (sym at.2) ∙ none at.0 at.1

  one : (ns : Namespace) → count_by p (map serial_of (change ns).objects) ≡ count_by p (map serial_of ns.objects)
  one ns = ap (count_by p) (map-append serial_of ns.objects added) ∙ count_with p (map serial_of ns.objects) (map serial_of added) not_new

  split : (ns : Namespace) (all : List Namespace) → count_by p (serials_in (ns ∷ all)) ≡ count_by p (map serial_of ns.objects) + count_by p (serials_in all)
  split ns all = ap (count_by p) (map-append serial_of ns.objects (flat_map objects_of all)) ∙ count_append p (map serial_of ns.objects) (serials_in all)

  changed : (all : List Namespace) → count_by p (serials_in (map (changed_at id change) all)) ≡ count_by p (serials_in all)
  changed [] = refl
  changed (ns ∷ all) =
      split (changed_at id change ns) (map (changed_at id change) all)
      ∙ ap (λ (n : ℕ). count_by p (map serial_of (changed_at id change ns).objects) + n) (changed all)
      ∙ ap (λ (n : ℕ). n + count_by p (serials_in all)) (by (has_id id ns)) ∙ sym (split ns all)
    where
      by : (b : Bool) → count_by p (map serial_of (if b then change ns else ns).objects) ≡ count_by p (map serial_of ns.objects)
      by true = one ns
      by false = refl

  another : (all : List Namespace) → count_by p (serials_in (all ++ change (empty_namespace id) ∷ [])) ≡ count_by p (serials_in all)
  another all =
      ap (λ (os : List Loaded). count_by p (map serial_of os)) (flat_map-append objects_of all (change (empty_namespace id) ∷ []))
      ∙ ap (count_by p) (map-append serial_of (flat_map objects_of all) (flat_map objects_of (change (empty_namespace id) ∷ [])))
      ∙ count_append p (serials_in all) (serials_in (change (empty_namespace id) ∷ []))
      ∙ plain (count_by p (serials_in all)) (count_by p (serials_in (change (empty_namespace id) ∷ []))) (split (change (empty_namespace id)) [] ∙ zero (one (empty_namespace id)))
    where
      plain : (m n : ℕ) → n ≡ 0 → m + n ≡ m
      plain m n e = omega (arith, e)

      zero : count_by p (map serial_of (change (empty_namespace id)).objects) ≡ 0 → count_by p (map serial_of (change (empty_namespace id)).objects) + 0 ≡ 0
      zero e = omega (arith, e)

  pub counted_with : (all : List Namespace) → count_by p (serials_in (with_namespace id change all)) ≡ count_by p (serials_in all)
  counted_with all = by (list_any (has_id id) all)
    where
      by : (b : Bool) → count_by p (serials_in (if b then map (changed_at id change) all else all ++ change (empty_namespace id) ∷ [])) ≡ count_by p (serials_in all)
      by true = changed all
      by false = another all
