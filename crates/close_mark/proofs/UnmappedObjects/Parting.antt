-- How objects are parted, one after another.
use Rattle.std.proofs.Common.{◌≡◌, ℕ, zero, suc, ◌+◌, ◌<◌, ◌≤◌, Bool, true, false, not, cond, List, [], ◌∷◌, ◌++◌, append_assoc, take, drop, get_or, length, map, refl, sym, ap, ◌∙◌, arith}
use Rattle.std.specs.List.{count_by, filter, flat_map}
use Rattle.std.proofs.Math.Seq.{drop-cons, take-suc}
use Rattle.std.proofs.lemmas.Grind.{flat_map-append}
use Rattle.std.proofs.lemmas.List.{append-nil, drop_all, take_all, take_more}
use Rattle.std.proofs.lemmas.List.Elements.{filter-append}
use Rattle.std.proofs.lemmas.List.Sums.{sum_by-append, sum_by-cons}
use Rattle.ld_base.specs.declared.linking.Loaded.{Loaded}
use Rattle.history_state.specs.Objects.{has}
use Rattle.scope_rule.specs.declared.namespace.Namespace.{Namespace}
use Rattle.close_mark.specs.UnmappedObjects.Taken.{IsParted, goes, stays}

one_more : (p : Loaded → Bool) (xs : List Loaded) (x : Loaded) (b : Bool) → p x ≡ b → filter p (xs ++ x ∷ []) ≡ filter p xs ++ cond b (x ∷ []) []
one_more p xs x b is = filter-append p xs (x ∷ []) ∙ ap (λ (t : Bool). filter p xs ++ cond t (x ∷ []) []) is

-- the queue begins with the object of the place
pub record IsFront (set : List ℕ) (all rest : List Loaded) (place : ℕ) (o : Loaded) : Type 0 where
  pub at : o ≡ get_or all place o
  pub rest_is : rest ≡ drop (suc place) all ++ filter (stays set) (take place all)

pub front : (set : List ℕ) (all queue rest before gone : List Loaded) (place : ℕ) (o : Loaded) → IsParted set all queue before gone place → place < length all → o ≡ get_or queue 0 o → rest ≡ drop 1 queue
    → IsFront set all rest place o
front set all queue rest before gone place o parted lt is after =
    let begins : queue ≡ get_or all place o ∷ (drop (suc place) all ++ filter (stays set) (take place all)) =
    parted.queue_is ∙ ap (λ (ys : List Loaded). ys ++ filter (stays set) (take place all)) (drop-cons all place o lt) in
    record { at = is ∙ ap (λ (ys : List Loaded). get_or ys 0 o) begins; rest_is = after ∙ ap (drop 1) begins }

taken : (all : List Loaded) (place : ℕ) (o : Loaded) → place < length all → o ≡ get_or all place o → take (suc place) all ≡ take place all ++ o ∷ []
taken all place o lt at = take-suc all place o lt ∙ ap (λ (x : Loaded). take place all ++ x ∷ []) (sym at)

passed : (p : Loaded → Bool) (all : List Loaded) (place : ℕ) (o : Loaded) (b : Bool) → place < length all → o ≡ get_or all place o → p o ≡ b
    → filter p (take (suc place) all) ≡ filter p (take place all) ++ cond b (o ∷ []) []
passed p all place o b lt at is = ap (filter p) (taken all place o lt at) ∙ one_more p (take place all) o b is

pub parted_goes : (set : List ℕ) (all queue rest before gone more : List Loaded) (place : ℕ) (o : Loaded) → IsParted set all queue before gone place → IsFront set all rest place o → place < length all
    → has set o.serial ≡ true → more ≡ gone ++ o ∷ [] → IsParted set all rest before more (suc place)
parted_goes set all queue rest before gone more place o parted begins lt is pushed = record {
  queue_is = begins.rest_is
      ∙ ap (λ (ys : List Loaded). drop (suc place) all ++ ys) (sym (passed (stays set) all place o false lt begins.at (ap not is) ∙ append-nil (filter (stays set) (take place all))));
  went = pushed ∙ ap (λ (ys : List Loaded). ys ++ o ∷ []) parted.went ∙ append_assoc before (filter (goes set) (take place all)) (o ∷ [])
      ∙ ap (λ (ys : List Loaded). before ++ ys) (sym (passed (goes set) all place o true lt begins.at is));
}

pub parted_stays : (set : List ℕ) (all queue rest new before gone : List Loaded) (place : ℕ) (o : Loaded) → IsParted set all queue before gone place → IsFront set all rest place o → place < length all
    → has set o.serial ≡ false → new ≡ rest ++ o ∷ [] → IsParted set all new before gone (suc place)
parted_stays set all queue rest new before gone place o parted begins lt is pushed = record {
  queue_is = pushed ∙ ap (λ (ys : List Loaded). ys ++ o ∷ []) begins.rest_is ∙ append_assoc (drop (suc place) all) (filter (stays set) (take place all)) (o ∷ [])
      ∙ ap (λ (ys : List Loaded). drop (suc place) all ++ ys) (sym (passed (stays set) all place o true lt begins.at (ap not is)));
  went = parted.went ∙ ap (λ (ys : List Loaded). before ++ ys) (sym (passed (goes set) all place o false lt begins.at is ∙ append-nil (filter (goes set) (take place all))));
}

pub all_stay : (set : List ℕ) (all queue before gone : List Loaded) (place : ℕ) → IsParted set all queue before gone place → length all ≤ place → queue ≡ filter (stays set) all
all_stay set all queue before gone place parted le =
    parted.queue_is ∙ ap (λ (ys : List Loaded). ys ++ filter (stays set) (take place all)) (drop_all place all le) ∙ ap (filter (stays set)) (take_all place all le)

pub all_gone : (set : List ℕ) (all queue before gone : List Loaded) (place : ℕ) → IsParted set all queue before gone place → length all ≤ place → gone ≡ before ++ filter (goes set) all
all_gone set all queue before gone place parted le = parted.went ∙ ap (λ (ys : List Loaded). before ++ filter (goes set) ys) (take_all place all le)

-- how many are still to go
pub counted : (set : List ℕ) (os : List Loaded) (place : ℕ) (o : Loaded) (b : Bool) → place < length os → o ≡ get_or os place o → has set o.serial ≡ b
    → count_by (goes set) (drop place os) ≡ cond b 1 0 + count_by (goes set) (drop (suc place) os)
counted set os place o b lt at is =
    ap (count_by (goes set)) (drop-cons os place o lt)
    ∙ sum_by-cons (λ (x : Loaded). cond (goes set x) 1 0) (get_or os place o) (drop (suc place) os)
    ∙ ap (λ (x : Loaded). cond (goes set x) 1 0 + count_by (goes set) (drop (suc place) os)) (sym at)
    ∙ ap (λ (t : Bool). cond t 1 0 + count_by (goes set) (drop (suc place) os)) is

-- ---- namespaces

pub here : (f : Namespace → Namespace) (xs : List Namespace) (i : ℕ) (d : Namespace) → i < length xs → get_or (map f (take i xs) ++ drop i xs) i d ≡ get_or xs i d
here f [] i d lt = absurd (omega (arith, lt))
here f (x ∷ xs) zero d lt = refl
here f (x ∷ xs) (suc i) d lt = here f xs i d (omega (arith, lt))

abbrev pub objects_of : List Namespace → List Loaded
objects_of nss = flat_map (λ (ns : Namespace). ns.objects) nss

count_append : (set : List ℕ) (xs ys : List Loaded) → count_by (goes set) (xs ++ ys) ≡ count_by (goes set) xs + count_by (goes set) ys
count_append set xs ys = sum_by-append (λ (x : Loaded). cond (goes set x) 1 0) xs ys

pub count_parts : (set : List ℕ) (nss : List Namespace) (i : ℕ) (ns : Namespace) → i < length nss → ns ≡ get_or nss i ns
    → count_by (goes set) (objects_of (drop i nss)) ≡ count_by (goes set) ns.objects + count_by (goes set) (objects_of (drop (suc i) nss))
count_parts set nss i ns lt at =
    ap (λ (all : List Namespace). count_by (goes set) (objects_of all)) (drop-cons nss i ns lt ∙ ap (λ (m : Namespace). m ∷ drop (suc i) nss) (sym at))
    ∙ count_append set ns.objects (objects_of (drop (suc i) nss))

flat_more : (nss : List Namespace) (i : ℕ) (ns : Namespace) → i < length nss → ns ≡ get_or nss i ns → objects_of (take (i + 1) nss) ≡ objects_of (take i nss) ++ ns.objects
flat_more nss i ns lt at =
    ap objects_of (take_more nss i ns lt ∙ ap (λ (m : Namespace). take i nss ++ m ∷ []) (sym at))
    ∙ flat_map-append (λ (m : Namespace). m.objects) (take i nss) (ns ∷ [])
    ∙ ap (λ (os : List Loaded). objects_of (take i nss) ++ os) (append-nil ns.objects)

pub gone_more : (set : List ℕ) (nss : List Namespace) (i : ℕ) (ns : Namespace) (before gone new : List Loaded) → i < length nss → ns ≡ get_or nss i ns
    → gone ≡ before ++ filter (goes set) (objects_of (take i nss)) → new ≡ gone ++ filter (goes set) ns.objects → new ≡ before ++ filter (goes set) (objects_of (take (i + 1) nss))
gone_more set nss i ns before gone new lt at was is =
    is ∙ ap (λ (os : List Loaded). os ++ filter (goes set) ns.objects) was ∙ append_assoc before (filter (goes set) (objects_of (take i nss))) (filter (goes set) ns.objects)
    ∙ ap (λ (os : List Loaded). before ++ os) (sym (filter-append (goes set) (objects_of (take i nss)) ns.objects) ∙ ap (filter (goes set)) (sym (flat_more nss i ns lt at)))
