-- The definitions of an object in the order of their names, and of their names and versions.
use Rattle.std.proofs.Common.{◌≡◌, ℕ, ◌+◌, ◌<◌, ◌≤◌, Bool, true, false, true≢false, cond, List, [], ◌∷◌, ◌++◌, length, get_or, take, drop, refl, sym, ap, subst, ◌∙◌, inl, inr, arith}
use Rattle.std.specs.Prelude.{◌⊎◌, ◌==◌, ◌&&◌, ◌||◌, not, nat_le, Option, Some, None, slice_get}
use Rattle.std.specs.Cmp.{IsTotalOrder, tied_then}
use Rattle.std.specs.Cmp.Lexicographic.{slice_cmp, texts_ties}
use Rattle.std.specs.List.{All, AllWithin, filter, range_with_len}
use Rattle.std.specs.List.Sorted.{IsNonDecreasingBy, IsPartitionPoint, IsPartitionedBy, IsPermutation, IsSortedBy, IsStableBy}
use Rattle.std.specs.Option.{option_map_or, option_to_list}
use Rattle.std.specs.Ordering.{is_eq, is_gt, is_lt, nat_cmp, ordering_index, ordering_reverse}
use Rattle.std.specs.Str.{bytes_eq}
use Rattle.std.specs.declared.cmp.Ordering.{Ordering}
use Rattle.std.specs.declared.cmp.Ordering.TheVariants.{Less, Equal, Greater}
use Rattle.std.proofs.Math.Bool.{and_assoc, and_comm, and-true}
use Rattle.std.proofs.lemmas.Bool.{cases_Bool}
use Rattle.std.proofs.lemmas.Cmp.{alike_right, lists_total, nat_list_cmp_total}
use Rattle.std.proofs.lemmas.List.{append-nil, get_or-take, get_or-drop, length-take-le, length-drop, take-append-drop}
use Rattle.std.proofs.lemmas.List.Elements.{All-cons, All-head, All-nil, All-tail, All-weaker, filter_agree, filter-append}
use Rattle.std.proofs.lemmas.List.Sorted.{All-permutation, IsNonDecreasingBy-drop, searchable_from_sorted}
use Rattle.ld_base.specs.Pick.{has_version, is_named, is_offer}
use Rattle.ld_base.specs.Symbol.{is_visible_definition, version_index}
use Rattle.ld_base.specs.Version.{version_name}
use Rattle.ld_base.specs.declared.object.Object.{Object}
use Rattle.ld_base.specs.declared.object.Symbol.{Symbol}
use Rattle.scope_lists.specs.NameOrder.{IsOrder, by_name, by_version, exported, exports, has_key, is_offered, is_unversioned_at, name_at, offers_of, unversioned_of, version_at, versions_of}

-- ---- what passes a test

abbrev Gives : (ℕ → Bool) → Bool → ℕ → Type 0
Gives p b x = p x ≡ b

filter_none : (p : ℕ → Bool) (xs : List ℕ) → All (Gives p false) xs → filter p xs ≡ []
filter_none p [] all = refl
filter_none p (x ∷ xs) all = rw (All-head (Gives p false) x xs all) (filter_none p xs (All-tail (Gives p false) x xs all))

filter_all : (p : ℕ → Bool) (xs : List ℕ) → All (Gives p true) xs → filter p xs ≡ xs
filter_all p [] all = refl
filter_all p (x ∷ xs) all = rw (All-head (Gives p true) x xs all) (ap (λ (ys : List ℕ). x ∷ ys) (filter_all p xs (All-tail (Gives p true) x xs all)))

filter_twice : (p q : ℕ → Bool) (xs : List ℕ) → filter p (filter q xs) ≡ filter (λ x. q x && p x) xs
filter_twice p q [] = refl
filter_twice p q (x ∷ xs) = by (q x) (p x) refl (filter_twice p q xs)
  where
    by : (b c : Bool) → p x ≡ c → filter p (filter q xs) ≡ filter (λ y. q y && p y) xs → filter p (cond b (x ∷ filter q xs) (filter q xs)) ≡ cond (b && c) (x ∷ filter (λ y. q y && p y) xs) (filter (λ y. q y && p y) xs)
    by true c is later = ap (λ d. cond d (x ∷ filter p (filter q xs)) (filter p (filter q xs))) is ∙ ap (λ (l : List ℕ). cond c (x ∷ l) l) later
    by false c is later = later

-- what holds of the places below n holds of the first n
all_taken : (P : ℕ → Type 0) (n : ℕ) (xs : List ℕ) → n ≤ length xs → AllWithin P xs 0 n → All P (take n xs)
all_taken P n xs le within k d lt =
    let small : k < n = omega (arith, length-take-le n xs le) in
    subst P (sym (get_or-take n xs k d small)) (within k d (omega arith) small)

-- what holds from place n on holds of the rest
all_dropped : (P : ℕ → Type 0) (n : ℕ) (xs : List ℕ) → n ≤ length xs → AllWithin P xs n (length xs) → All P (drop n xs)
all_dropped P n xs le within k d lt =
    let small : n + k < length xs = omega (arith, length-drop n xs) in
    subst P (sym (get_or-drop n xs k d)) (within (n + k) d (omega arith) small)

-- between two places before and behind which nothing passes, and all that passes
between_is_filter : (p low high : ℕ → Bool) → ((x : ℕ) → low x ≡ true → p x ≡ false) → ((x : ℕ) → high x ≡ false → p x ≡ false) → ((x : ℕ) → low x ≡ false → high x ≡ true → p x ≡ true)
    → (start end : ℕ) (xs : List ℕ) → start ≤ length xs → end ≤ length (drop start xs)
    → IsPartitionPoint (Gives low true) (Gives low false) xs start → IsPartitionPoint (Gives high true) (Gives high false) (drop start xs) end
    → take end (drop start xs) ≡ filter p xs
between_is_filter p low high below above equal start end xs le most first second =
    let rest : List ℕ = drop start xs in
    let front : List ℕ = take start xs in
    let before : All (Gives p false) front = All-weaker (Gives low true) (Gives p false) below front (all_taken (Gives low true) start xs le first.0) in
    let behind : All (Gives p false) (drop end rest) = All-weaker (Gives high false) (Gives p false) above (drop end rest) (all_dropped (Gives high false) end rest most second.1) in
    let upper = all_dropped (Gives low false) start xs le first.1 in
    let lower = second.0 in
    let inside : All (Gives p true) (take end rest) = all_taken (Gives p true) end rest most (λ k d from to. equal (get_or rest k d) (upper k d (omega arith)) (lower k d from to)) in
    sym (ap (filter p) (sym (take-append-drop start xs)) ∙ filter-append p front rest
    ∙ ap (λ (ys : List ℕ). ys ++ filter p rest) (filter_none p front before)
    ∙ ap (filter p) (sym (take-append-drop end rest)) ∙ filter-append p (take end rest) (drop end rest)
    ∙ ap (λ (ys : List ℕ). filter p (take end rest) ++ ys) (filter_none p (drop end rest) behind)
    ∙ append-nil (filter p (take end rest)) ∙ filter_all p (take end rest) inside)

-- ---- how keys compare

less_apart : (r : Ordering) → is_lt r ≡ true → is_eq r ≡ false
less_apart Less is = refl
less_apart Equal is = absurd (true≢false (sym is))
less_apart Greater is = refl

greater_apart : (r : Ordering) → not (is_gt r) ≡ false → is_eq r ≡ false
greater_apart Less is = refl
greater_apart Equal is = absurd (true≢false is)
greater_apart Greater is = refl

equal_between : (r : Ordering) → is_lt r ≡ false → not (is_gt r) ≡ true → is_eq r ≡ true
equal_between Less is other = absurd (true≢false is)
equal_between Equal is other = refl
equal_between Greater is other = absurd (true≢false (sym other))

less_before : (a b : Ordering) → ordering_index a ≤ ordering_index b → is_lt b ≡ true → is_lt a ≡ true
less_before Less b le is = refl
less_before Equal Less le is = absurd (omega arith)
less_before Equal Equal le is = is
less_before Equal Greater le is = is
less_before Greater Less le is = absurd (omega arith)
less_before Greater Equal le is = is
less_before Greater Greater le is = is

no_greater_before : (a b : Ordering) → ordering_index a ≤ ordering_index b → not (is_gt b) ≡ true → not (is_gt a) ≡ true
no_greater_before Less b le is = refl
no_greater_before Equal b le is = refl
no_greater_before Greater Less le is = absurd (omega arith)
no_greater_before Greater Equal le is = absurd (omega arith)
no_greater_before Greater Greater le is = is

tie : (r : Ordering) → (not (is_lt (ordering_reverse r)) && not (is_lt r)) ≡ is_eq r
tie Less = refl
tie Equal = refl
tie Greater = refl

equal : (r : Ordering) → is_eq r ≡ true → r ≡ Equal
equal Less is = absurd (true≢false (sym is))
equal Equal is = refl
equal Greater is = absurd (true≢false (sym is))

-- keys are one or two names
abbrev Key : Type 0
Key = List (List ℕ)

abbrev compared : Key → Key → Ordering
compared = slice_cmp (slice_cmp nat_cmp)

pub keys_total : IsTotalOrder compared
keys_total = lists_total nat_list_cmp_total

module _ (key : ℕ → Key) where
  abbrev pub precedes : ℕ → ℕ → Bool
  precedes x y = is_lt (compared (key x) (key y))

  abbrev pub before : Key → ℕ → Bool
  before sought k = is_lt (compared (key k) sought)

  abbrev pub not_behind : Key → ℕ → Bool
  not_behind sought k = not (is_gt (compared (key k) sought))

  -- where a key stands
  module _ (sought : Key) where
    abbrev at : ℕ → Ordering
    at k = compared (key k) sought

    abbrev rank : ℕ → ℕ
    rank k = ordering_index (at k)

    rises : (xs : List ℕ) → IsSortedBy precedes xs → IsNonDecreasingBy rank xs
    rises xs sorted = searchable_from_sorted keys_total key xs sought sorted

    pub parted_before : (xs : List ℕ) → IsSortedBy precedes xs → IsPartitionedBy (before sought) xs
    parted_before xs sorted i j d le lt is = less_before (at (get_or xs i d)) (at (get_or xs j d)) (rises xs sorted i j d le lt) is

    pub parted_behind : (start : ℕ) (xs : List ℕ) → IsSortedBy precedes xs → IsPartitionedBy (not_behind sought) (drop start xs)
    parted_behind start xs sorted i j d le lt is =
        no_greater_before (at (get_or (drop start xs) i d)) (at (get_or (drop start xs) j d)) (IsNonDecreasingBy-drop rank start xs (rises xs sorted) i j d le lt) is

    pub found_between : (start end : ℕ) (xs : List ℕ) → start ≤ length xs → end ≤ length (drop start xs)
        → IsPartitionPoint (λ k. before sought k ≡ true) (λ k. before sought k ≡ false) xs start
        → IsPartitionPoint (λ k. not_behind sought k ≡ true) (λ k. not_behind sought k ≡ false) (drop start xs) end
        → take end (drop start xs) ≡ filter (has_key key sought) xs
    found_between start end xs low most first second =
        between_is_filter (has_key key sought) (before sought) (not_behind sought) (λ k is. less_apart (at k) is) (λ k is. greater_apart (at k) is) (λ k is other. equal_between (at k) is other)
        start end xs low most first second

  -- ---- what a sort by keys leaves

  -- none has the key, or one has
  any_keyed : (sought : Key) (xs : List ℕ) → All (Gives (has_key key sought) false) xs ⊎ ((x : ℕ) × (has_key key sought x ≡ true))
  any_keyed sought [] = inl (All-nil (Gives (has_key key sought) false))
  any_keyed sought (x ∷ xs) =
      elim (cases_Bool (has_key key sought x)) [
        | inl is ↦ inr (x, is)
        | inr apart ↦ elim (any_keyed sought xs) [
          | inl none ↦ inl (All-cons (Gives (has_key key sought) false) x xs apart none)
          | inr some ↦ inr some
        ]
      ]

  -- those that tie with one of a key have the key
  ties_keyed : (sought : Key) (x : ℕ) → has_key key sought x ≡ true → (k : ℕ) → (not (precedes x k) && not (precedes k x)) ≡ has_key key sought k
  ties_keyed sought x is k =
      let r : Ordering = compared (key k) (key x) in
      ap (λ q. not (is_lt q) && not (is_lt r)) (keys_total.antisymm (key x) (key k)) ∙ tie r ∙ ap is_eq (alike_right keys_total (key x) sought (key k) (equal (compared (key x) sought) is))

  stays : (sought : Key) (xs ys : List ℕ) → IsPermutation xs ys → IsStableBy precedes xs ys → filter (has_key key sought) ys ≡ filter (has_key key sought) xs
  stays sought xs ys moved stable =
      elim (any_keyed sought xs) [
        | inl none ↦ filter_none (has_key key sought) ys (All-permutation (Gives (has_key key sought) false) xs ys moved none) ∙ sym (filter_none (has_key key sought) xs none)
        | inr some ↦
            let x : ℕ = some.0 in
            let same : (k : ℕ) → (not (precedes x k) && not (precedes k x)) ≡ has_key key sought k = ties_keyed sought x some.1 in
            sym (filter_agree (λ k. not (precedes x k) && not (precedes k x)) (has_key key sought) same ys) ∙ stable x ∙ filter_agree (λ k. not (precedes x k) && not (precedes k x)) (has_key key sought) same xs
      ]

  pub ordered : (xs ys : List ℕ) → IsPermutation xs ys → IsSortedBy precedes ys → IsStableBy precedes xs ys → IsOrder key xs ys
  ordered xs ys moved sorted stable = record { sorted = sorted; runs = λ sought. stays sought xs ys moved stable }

-- ---- what has a name, and a name and a version

is_name : (one name : List ℕ) → is_eq (compared (one ∷ []) (name ∷ [])) ≡ bytes_eq one name
is_name one name = sym (tied_then (slice_cmp nat_cmp one name) Equal) ∙ and-true (is_eq (slice_cmp nat_cmp one name)) ∙ sym (texts_ties one name)

is_both : (one name version : List ℕ) (other : Option (List ℕ)) → is_eq (compared (one ∷ option_to_list other) (name ∷ version ∷ [])) ≡ (bytes_eq one name && is_named version other)
is_both one name version None = sym (tied_then (slice_cmp nat_cmp one name) Less) ∙ ap (λ b. b && false) (sym (texts_ties one name))
is_both one name version (Some other) =
    sym (tied_then (slice_cmp nat_cmp one name) (compared (other ∷ []) (version ∷ []))) ∙ ap (λ b. b && is_eq (compared (other ∷ []) (version ∷ []))) (sym (texts_ties one name))
    ∙ ap (λ b. bytes_eq one name && b) (is_name other version)

module _ (o : Object) (name : List ℕ) where
  abbrev Everything : List ℕ
  Everything = range_with_len 0 (length o.symbols)

  -- those of the definitions that have a key are those that pass a test
  of_key : (key : ℕ → Key) (sought : Key) (test : Symbol → Bool) → ((k : ℕ) → (exports o (is_offered o) k && has_key key sought k) ≡ exports o test k)
      → filter (has_key key sought) (exported o (is_offered o)) ≡ exported o test
  of_key key sought test same =
      filter_twice (has_key key sought) (exports o (is_offered o)) Everything ∙ filter_agree (λ k. exports o (is_offered o) k && has_key key sought k) (exports o test) same Everything

  nothing : (l e : Bool) → ((l && false) && e) ≡ (l && false)
  nothing true e = refl
  nothing false e = refl

  moved : (l v e n : Bool) → ((l && (v && n)) && e) ≡ (l && ((v && e) && n))
  moved false v e n = refl
  moved true false e n = refl
  moved true true false true = refl
  moved true true false false = refl
  moved true true true true = refl
  moved true true true false = refl

  pub named : filter (has_key (by_name o) (name ∷ [])) (exported o (is_offered o)) ≡ offers_of o name
  named = of_key (by_name o) (name ∷ []) (is_offer o name) (λ k. ap (λ b. exports o (is_offered o) k && b) (is_name (name_at o k) name) ∙ by k (slice_get o.symbols k))
    where
      by : (k : ℕ) (s : Option Symbol) → ((nat_le o.first_exported k && option_map_or (is_offered o) s false) && bytes_eq (option_map_or (λ (x : Symbol). x.name) s []) name) ≡ (nat_le o.first_exported k && option_map_or (is_offer o name) s false)
      by k None = nothing (nat_le o.first_exported k) (bytes_eq [] name)
      by k (Some s) = moved (nat_le o.first_exported k) (is_visible_definition s) (bytes_eq s.name name) (not o.has_versym || not (version_index s == 0))

  pub versioned : (version : List ℕ) → filter (has_key (by_version o) (name ∷ version ∷ [])) (exported o (is_offered o)) ≡ versions_of o name version
  versioned version =
      of_key (by_version o) (name ∷ version ∷ []) (λ s. is_offer o name s && has_version o version s)
      (λ k. ap (λ b. exports o (is_offered o) k && b) (is_both (name_at o k) name version (version_at o k)) ∙ by k (slice_get o.symbols k))
    where
      moved_both : (l v e n w : Bool) → ((l && (v && n)) && (e && w)) ≡ (l && (((v && e) && n) && w))
      moved_both false v e n w = refl
      moved_both true false e n w = refl
      moved_both true true false true w = refl
      moved_both true true false false w = refl
      moved_both true true true true w = refl
      moved_both true true true false w = refl

      by : (k : ℕ) (s : Option Symbol)
          → ((nat_le o.first_exported k && option_map_or (is_offered o) s false)
          && (bytes_eq (option_map_or (λ (x : Symbol). x.name) s []) name && is_named version (option_map_or (λ (x : Symbol). version_name o (version_index x)) s None)))
          ≡ (nat_le o.first_exported k && option_map_or (λ x. is_offer o name x && has_version o version x) s false)
      by k None = nothing (nat_le o.first_exported k) (bytes_eq [] name && false)
      by k (Some s) = moved_both (nat_le o.first_exported k) (is_visible_definition s) (bytes_eq s.name name) (not o.has_versym || not (version_index s == 0)) (has_version o version s)

  pub unversioned : filter (has_key (by_name o) (name ∷ [])) (filter (is_unversioned_at o) (exported o (is_offered o))) ≡ unversioned_of o name
  unversioned =
      let p : ℕ → Bool = has_key (by_name o) (name ∷ []) in
      let q : ℕ → Bool = is_unversioned_at o in
      let all : List ℕ = exported o (is_offered o) in
      filter_twice p q all ∙ filter_agree (λ k. q k && p k) (λ k. p k && q k) (λ k. and_comm (q k) (p k)) all ∙ sym (filter_twice q p all) ∙ ap (filter q) named
      ∙ filter_twice q (exports o (is_offer o name)) Everything ∙ filter_agree (λ k. exports o (is_offer o name) k && q k) (exports o (λ s. is_offer o name s && s.version == 1)) (λ k. by k (slice_get o.symbols k)) Everything
    where
      by : (k : ℕ) (s : Option Symbol) → ((nat_le o.first_exported k && option_map_or (is_offer o name) s false) && option_map_or (λ (x : Symbol). x.version == 1) s false) ≡ (nat_le o.first_exported k && option_map_or (λ x. is_offer o name x && x.version == 1) s false)
      by k None = nothing (nat_le o.first_exported k) false
      by k (Some s) = and_assoc (nat_le o.first_exported k) (is_offer o name s) (s.version == 1)
