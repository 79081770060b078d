-- Which objects of a list have definitions under a hash.
use Rattle.std.proofs.Common.{◌≡◌, ℕ, ◌+◌, ◌<◌, ◌≤◌, ltb, Bool, true, false, true≢false, List, [], ◌∷◌, ◌++◌, length, get_or, sym, ap, subst, ◌∙◌, inl, inr, refl, arith}
use Rattle.std.specs.Prelude.{◌⊎◌, ◌==◌, ◌^◌, nat_le, option_map, Option, Some, None, slice_get}
use Rattle.std.specs.List.{All, Contains, list_any}
use Rattle.std.specs.List.Sorted.{IsNonDecreasingBy, IsPartitionPoint, IsPermutation}
use Rattle.std.specs.Option.{option_map_or}
use Rattle.std.proofs.lemmas.Bool.{and_parts, cases_Bool, cases_lt, ltb-false, ltb-true}
use Rattle.std.proofs.lemmas.List.Folds.{list_any_at}
use Rattle.std.proofs.lemmas.Option.{get_or_from_slice_get, slice_get-get_or, slice_get_past, slice_get_read, slice_get_within}
use Rattle.std.proofs.lemmas.List.Elements.{Contains-append_left, Contains-push, Contains-push_cases}
use Rattle.std.proofs.lemmas.List.Sorted.{Contains-permutation, IsPermutation-sym}
use Rattle.ld_base.specs.declared.linking.Loaded.{Loaded}
use Rattle.ld_base.specs.declared.object.Object.{Object}
use Rattle.ld_base.specs.declared.object.Symbol.{Symbol}
use Rattle.sym_hash.specs.Hash.{gnu_hash}
use Rattle.scope_lists.specs.Definers.{AreDefiners, AreDefinersBelow, Defines, DefinesAs, DefinesAt, DefinesMore, IsFirstFrom, IsNextDefiner, object_in, object_of_entry, rank}
use Rattle.scope_lists.specs.NameOrder.{exports, is_offered, name_at}
use Rattle.scope_lists.specs.Searched.{object_at}
use Rattle.scope_lists.specs.declared.definers.Definer.{Definer}
use Rattle.scope_lists.specs.declared.searched.Searched.{Searched}

abbrev definer_at : ℕ → ℕ → Definer
definer_at hash place = record { hash = hash; place = place }

-- ---- the definitions of an object

-- a symbol that may be exported is there
exported_within : (o : Object) (test : Symbol → Bool) (k : ℕ) → exports o test k ≡ true → k < length o.symbols
exported_within o test k is =
    elim (cases_lt k (length o.symbols)) [
      | inl lt ↦ lt
      | inr past ↦
          let passes = (and_parts (nat_le o.first_exported k) (option_map_or test (slice_get o.symbols k) false) is).1 in
          absurd (true≢false (sym passes ∙ ap (λ (s : Option Symbol). option_map_or test s false) (slice_get_past o.symbols k past)))
    ]

-- of the first so many symbols of an object one is a definition under a hash
abbrev pub DefinesBelow : ℕ → Object → ℕ → Type 0
DefinesBelow count o hash = (index : ℕ) × (index < count) × DefinesAs o hash index

module _ (o : Object) (hash : ℕ) where
  defines_any : (n : ℕ) → DefinesBelow n o hash → Defines o hash
  defines_any n (k, lt, one) = (k, one)

  defines_below : Defines o hash → DefinesBelow (length o.symbols) o hash
  defines_below (k, one) = (k, exported_within o (is_offered o) k one.exported, one)

  defines_later : (n : ℕ) → DefinesBelow n o hash → DefinesBelow (n + 1) o hash
  defines_later n (k, lt, one) = (k, omega (arith, lt), one)

  -- it is one of those so far, or the one more
  defines_cases : (n : ℕ) → DefinesBelow (n + 1) o hash → DefinesBelow n o hash ⊎ DefinesAs o hash n
  defines_cases n (k, within, one) =
      elim (cases_lt k n) [
        | inl lt ↦ inl (k, lt, one)
        | inr past ↦ (let same : k ≡ n = omega (arith, within) in inr (subst (DefinesAs o hash) same one))
      ]

module _ (o : Object) (n place : ℕ) (old new : List Definer) where
  pub more_skipped : DefinesMore (DefinesBelow n o) place old new → exports o (is_offered o) n ≡ false → DefinesMore (DefinesBelow (n + 1) o) place old new
  more_skipped more other d = (
    λ here. elim ((more d).0 here) [ inl was ↦ inl was | inr one ↦ inr (one.0, defines_later o d.hash n one.1) ],
    λ either. elim either [
      | inl was ↦ (more d).1 (inl was)
      | inr one ↦ elim (defines_cases o d.hash n one.1) [ inl before ↦ (more d).1 (inr (one.0, before)) | inr last ↦ absurd (true≢false (sym last.exported ∙ other)) ]
    ],
  )

  pub more_pushed : (hash : ℕ) → DefinesMore (DefinesBelow n o) place old new → exports o (is_offered o) n ≡ true → hash ≡ gnu_hash (name_at o n) → DefinesMore (DefinesBelow (n + 1) o) place old (new ++ definer_at hash place ∷ [])
  more_pushed hash more is hashed d = (
    λ here. elim (Contains-push_cases new (definer_at hash place) d here) [
      | inl before ↦ elim ((more d).0 before) [ inl was ↦ inl was | inr one ↦ inr (one.0, defines_later o d.hash n one.1) ]
      | inr last ↦ inr (ap (λ (x : Definer). x.place) (sym last), (n, omega arith, record { exported = is; hashed = sym hashed ∙ ap (λ (x : Definer). x.hash) last }))
    ],
    λ either. elim either [
      | inl was ↦ Contains-append_left new (definer_at hash place ∷ []) d ((more d).1 (inl was))
      | inr one ↦ elim (defines_cases o d.hash n one.1) [
        | inl before ↦ Contains-append_left new (definer_at hash place ∷ []) d ((more d).1 (inr (one.0, before)))
        | inr last ↦
            let same : definer_at hash place ≡ d = ap (λ k. definer_at k place) (hashed ∙ last.hashed) ∙ ap (definer_at d.hash) (sym one.0) in
            subst (Contains (new ++ definer_at hash place ∷ [])) same (Contains-push new (definer_at hash place))
      ]
    ],
  )

-- at first none is, and at last it is all of the object's
pub none_more : (o : Object) (place : ℕ) (old : List Definer) → DefinesMore (DefinesBelow 0 o) place old old
none_more o place old d = (λ here. inl here, λ either. elim either [ inl was ↦ was | inr one ↦ absurd (let lt = one.1.1 in omega (arith, lt)) ])

pub all_more : (o : Object) (n place : ℕ) (old new : List Definer) → n ≡ length o.symbols → DefinesMore (DefinesBelow n o) place old new → DefinesMore (Defines o) place old new
all_more o n place old new all more d = (
  λ here. elim ((more d).0 here) [ inl was ↦ inl was | inr one ↦ inr (one.0, defines_any o d.hash n one.1) ],
  λ either. (more d).1 (elim either [ inl was ↦ inl was | inr one ↦ inr (one.0, subst (λ (k : ℕ). DefinesBelow k o d.hash) (sym all) (defines_below o d.hash one.1)) ]),
)

-- ---- the objects of a list

-- that of the entry at a place
pub object_there : (objects : List Loaded) (list : List Searched) (place : ℕ) (entry : Searched) (found : Option Loaded) → place < length list → entry ≡ get_or list place entry → found ≡ object_at objects entry.place
    → object_in objects list place ≡ option_map (λ (o : Loaded). o.object) found
object_there objects list place entry found lt is here =
    ap (object_of_entry objects) (slice_get_read list (length list) place entry refl lt is) ∙ ap (option_map (λ (o : Loaded). o.object)) (sym here)

module _ (objects : List Loaded) (list : List Searched) (p : ℕ) (old new : List Definer) where
  -- the object at a place more is there, or isn't
  pub below_more : (o : Object) → object_in objects list p ≡ Some o → AreDefinersBelow p objects list old → DefinesMore (Defines o) p old new → AreDefinersBelow (p + 1) objects list new
  below_more o stands are more d = (
    λ here. elim ((more d).0 here) [
      | inl was ↦ (let one = (are d).0 was in (omega (arith, one.0), one.1))
      | inr one ↦ (omega (arith, one.0), record { object = o; stands = ap (object_in objects list) one.0 ∙ stands; defines = one.1 })
    ],
    λ one. elim (cases_lt d.place p) [
      | inl lt ↦ (more d).1 (inl ((are d).1 (lt, one.1)))
      | inr past ↦
          let same : d.place ≡ p = omega (arith, one.0) in
          let both : Some one.1.object ≡ Some o = sym one.1.stands ∙ ap (object_in objects list) same ∙ stands in
          let own : one.1.object ≡ o = cc both in
          (more d).1 (inr (same, subst (λ (x : Object). Defines x d.hash) own one.1.defines))
    ],
  )

  pub below_none : object_in objects list p ≡ None → AreDefinersBelow p objects list old → AreDefinersBelow (p + 1) objects list old
  below_none none are d = (
    λ here. (let one = (are d).0 here in (omega (arith, one.0), one.1)),
    λ one. elim (cases_lt d.place p) [
      | inl lt ↦ (are d).1 (lt, one.1)
      | inr past ↦
          let same : d.place ≡ p = omega (arith, one.0) in
          absurd (let no : Some one.1.object ≡ None = sym one.1.stands ∙ ap (object_in objects list) same ∙ none in cc no)
    ],
  )

defined_within : (objects : List Loaded) (list : List Searched) (hash place : ℕ) → DefinesAt objects list hash place → place < length list
defined_within objects list hash place defines =
    elim (cases_lt place (length list)) [
      | inl lt ↦ lt
      | inr past ↦ absurd (let no : Some defines.object ≡ None = sym defines.stands ∙ ap (object_of_entry objects) (slice_get_past list place past) in cc no)
    ]

-- ---- what a sort leaves

none_of : (p : Searched → Bool) (list : List Searched) → list_any p list ≡ false → All (λ x. p x ≡ false) list
none_of p list none k d lt =
    elim (cases_Bool (p (get_or list k d))) [
      | inl is ↦ absurd (true≢false (sym (list_any_at p list k d lt is) ∙ none))
      | inr other ↦ other
    ]

pub sorted_definers : (objects : List Loaded) (list : List Searched) (old new : List Definer) (count : ℕ) → count ≡ length list → count < 2 ^ 32 → list_any (λ x. x.serial == 0) list ≡ false
    → AreDefinersBelow count objects list old → IsPermutation old new → IsNonDecreasingBy rank new → AreDefiners objects list new
sorted_definers objects list old new count all few none are moved sorted = record {
  few = omega arith;
  others = none_of (λ x. x.serial == 0) list none;
  each = λ d. (
    λ here. ((are d).0 (Contains-permutation new old d (IsPermutation-sym old new moved) here)).1,
    λ one. Contains-permutation old new d moved ((are d).1 (let lt = defined_within objects list d.hash d.place one in omega (arith, lt, all), one)),
  );
  sorted = sorted;
}

-- where the same objects stand in a list the same is known of it
pub definers_stay : (before after : List Loaded) (list : List Searched) (definers : List Definer) → ((place : ℕ) → object_in after list place ≡ object_in before list place) → AreDefiners before list definers
    → AreDefiners after list definers
definers_stay before after list definers same are = record {
  few = are.few;
  others = are.others;
  each = λ d. (
    λ here. (let one = (are.each d).0 here in record { object = one.object; stands = same d.place ∙ one.stands; defines = one.defines }),
    λ one. (are.each d).1 (record { object = one.object; stands = sym (same d.place) ∙ one.stands; defines = one.defines }),
  );
  sorted = are.sorted;
}

-- ---- the first of a hash

-- where those that rank before it end
pub first_behind : (low start : ℕ) (definers : List Definer) (found : Option Definer) → IsNonDecreasingBy rank definers → IsPartitionPoint (λ d. ltb (rank d) low ≡ true) (λ d. ltb (rank d) low ≡ false) definers start
    → found ≡ slice_get definers start → IsFirstFrom low definers found
first_behind low start definers found sorted (before, behind) is = subst (IsFirstFrom low definers) (sym is) (by (slice_get definers start) refl)
  where
    by : (x : Option Definer) → slice_get definers start ≡ x → IsFirstFrom low definers x
    by None none = λ d (k, lt, at).
        elim (cases_lt k start) [
          | inl first ↦ ltb-true (rank d) low (rw at at (before k d (omega arith) first))
          | inr last ↦ absurd (let no : None ≡ Some (get_or definers start d) = sym none ∙ slice_get-get_or definers start d (omega arith) in cc no)
        ]
    by (Some first) here = (
      (start, within, get_or_from_slice_get definers start first first here),
      ltb-false (rank first) low (rw (get_or_from_slice_get definers start first first here) at (behind start first (omega arith) within)),
      later,
    )
      where
        within : start < length definers
        within = slice_get_within definers start first here

        later : (d : Definer) → Contains definers d → low ≤ rank d → rank first ≤ rank d
        later d (k, lt, at) le =
            elim (cases_lt k start) [
              | inl past ↦ absurd (let less = ltb-true (rank d) low (rw at at (before k d (omega arith) past)) in omega (arith, less, le))
              | inr last ↦ rw (get_or_from_slice_get definers start first d here, at) at (sorted start k d last lt)
            ]

module _ (objects : List Loaded) (list : List Searched) (definers : List Definer) (hash from : ℕ) (are : AreDefiners objects list definers) where
  -- what defines is kept
  kept : (place : ℕ) → DefinesAt objects list hash place → Contains definers (definer_at hash place)
  kept place defines = (are.each (definer_at hash place)).1 defines

  pub next_none : IsFirstFrom (rank (definer_at hash from)) definers None → IsNextDefiner objects list hash from None
  next_none none place le defines = (let lt = none (definer_at hash place) (kept place defines) in omega (arith, lt))

  module _ (found : Definer) (first : IsFirstFrom (rank (definer_at hash from)) definers (Some found)) where
    pub next_found : found.hash ≡ hash → IsNextDefiner objects list hash from (Some found.place)
    next_found same =
        let one : DefinesAt objects list hash found.place = subst (λ n. DefinesAt objects list n found.place) same ((are.each found).0 first.0) in
        record {
          behind = (let le = first.1 in omega (arith, le, same));
          within = defined_within objects list hash found.place one;
          defines = one;
          first = λ place le defines. (let behind = first.2 (definer_at hash place) (kept place defines) (omega arith) in omega (arith, behind, same));
        }

    pub next_other : (found.hash ≡ hash → ⊥) → IsNextDefiner objects list hash from None
    next_other other place le defines =
        let behind = first.2 (definer_at hash place) (kept place defines) (omega arith) in
        let lt = defined_within objects list hash place defines in
        let small = defined_within objects list found.hash found.place ((are.each found).0 first.0) in
        let same : found.hash ≡ hash = omega (arith, behind, first.1, lt, small, are.few) in
        other same
