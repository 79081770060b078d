-- Things that stand by the buckets of their hashes.
use Rattle.std.proofs.Common.{◌≡◌, ◌∙◌, ap, sym, refl, ℕ, zero, suc, ◌+◌, ◌%◌, ◌<◌, ◌≤◌, ◌==◌, ◌⊎◌, inl, inr, Bool, true, false, if◌then◌else◌, List, [], ◌∷◌, ◌++◌, length, map, filter, flat_map, arith, length-append, append-nil, append_assoc}
use Rattle.std.specs.List.{range_with_len}
use Rattle.std.proofs.Math.Nat.{eq-or-lt_of_le}
use Rattle.std.proofs.lemmas.Bool.{eq-eqb, eqb-true, ne_eqb}
use Rattle.std.proofs.lemmas.List.{map-append}
use Rattle.asm_write.specs.HashBuild.Hashed.{by_bucket}
use Rattle.asm_accepted.proofs.AsmHashed.Buckets.{AllIn, EndsInBucket, NoneIn}

module _ {A : Type 0} (hash : A → ℕ) (buckets : ℕ) (xs : List A) where
  abbrev in_bucket : ℕ → List A
  in_bucket bucket = filter (λ x. hash x % buckets == bucket) xs

all_in : {A : Type 0} (hash : A → ℕ) (buckets bucket : ℕ) (xs : List A) → AllIn buckets bucket (map hash (in_bucket hash buckets xs bucket))
all_in hash buckets bucket [] = tt
all_in hash buckets bucket (x ∷ xs) =
    let rest = filter (λ y. hash y % buckets == bucket) xs in
    let P : Bool → Type 0 = λ here. (hash x % buckets == bucket) ≡ here → AllIn buckets bucket (map hash (if here then x ∷ rest else rest)) in
    let cases : (here : Bool) → P here = λ here. elim here as P [
      | true ↦ λ is. (eqb-true (hash x % buckets) bucket is, all_in hash buckets bucket xs)
      | false ↦ λ is. all_in hash buckets bucket xs
    ] in
    cases (hash x % buckets == bucket) refl

none_of : (buckets bucket other : ℕ) (hashes : List ℕ) → (bucket == other) ≡ false → AllIn buckets bucket hashes → NoneIn buckets other hashes
none_of buckets bucket other [] differs all = tt
none_of buckets bucket other (hash ∷ hashes) differs (here, all) = (ap (λ n. n == other) here ∙ differs, none_of buckets bucket other hashes differs all)

both_none : (buckets bucket : ℕ) (one other : List ℕ) → NoneIn buckets bucket one → NoneIn buckets bucket other → NoneIn buckets bucket (one ++ other)
both_none buckets bucket [] other first second = second
both_none buckets bucket (hash ∷ one) other (differs, first) second = (differs, both_none buckets bucket one other first second)

-- the buckets of a range: no hash, or a last bucket with some
record Split (buckets start n : ℕ) (hashes : List ℕ) : Type 0 where
  ends : EndsInBucket buckets hashes
  from : start ≤ ends.bucket

split : {A : Type 0} (hash : A → ℕ) (buckets : ℕ) (xs : List A) (start n : ℕ) → start + n ≤ buckets
    → (map hash (flat_map (in_bucket hash buckets xs) (range_with_len start n)) ≡ []) ⊎ Split buckets start n (map hash (flat_map (in_bucket hash buckets xs) (range_with_len start n)))
split hash buckets xs start zero room = inl refl
split {A} hash buckets xs start (suc n) room =
    let here = in_bucket hash buckets xs start in
    let rest = flat_map (in_bucket hash buckets xs) (range_with_len (start + 1) n) in
    let whole : map hash (here ++ rest) ≡ map hash here ++ map hash rest = map-append hash here rest in
    let Q : Type 0 = (map hash (here ++ rest) ≡ []) ⊎ Split buckets start (suc n) (map hash (here ++ rest)) in
    let own = all_in hash buckets start xs in
    let last : map hash rest ≡ [] → Q = λ empty. group (map hash here) own (whole ∙ ap (λ (hs : List ℕ). map hash here ++ hs) empty ∙ append-nil (map hash here)) in
    elim (split hash buckets xs (start + 1) n (omega (arith, room))) as (λ _. Q) [
      | inl empty ↦ last empty
      | inr some ↦
          let ends = some.ends in
          let from = some.from in
          inr (record {
            ends = record {
              before = map hash here ++ ends.before;
              bucket = ends.bucket;
              first = ends.first;
              group = ends.group;
              parts = whole ∙ ap (λ (hs : List ℕ). map hash here ++ hs) ends.parts ∙ sym (append_assoc (map hash here) ends.before (ends.first ∷ ends.group));
              others = both_none buckets ends.bucket (map hash here) ends.before (none_of buckets start ends.bucket (map hash here) (ne_eqb start ends.bucket (λ is. absurd (omega (arith, is, from)))) own) ends.others;
              all = ends.all;
              inside = ends.inside;
            };
            from = omega (arith, from);
          })
    ]
  where
    group : (hs : List ℕ) → AllIn buckets start hs → {all : List ℕ} → all ≡ hs → (all ≡ []) ⊎ Split buckets start (suc n) all
    group [] own is = inl is
    group (h ∷ hs) own is = inr (record {
      ends = record { before = []; bucket = start; first = h; group = hs; parts = is; others = tt; all = own; inside = omega (arith, room) };
      from = omega arith;
    })

pub sorted : {A : Type 0} (hash : A → ℕ) (buckets : ℕ) (xs : List A) → (map hash (by_bucket hash buckets xs) ≡ []) ⊎ EndsInBucket buckets (map hash (by_bucket hash buckets xs))
unfolding by_bucket
sorted hash buckets xs =
    elim (split hash buckets xs 0 buckets (omega arith)) as (λ _. (map hash (flat_map (in_bucket hash buckets xs) (range_with_len 0 buckets)) ≡ [])
    ⊎ EndsInBucket buckets (map hash (flat_map (in_bucket hash buckets xs) (range_with_len 0 buckets)))) [ inl empty ↦ inl empty | inr some ↦ inr some.ends ]

-- as many as there are

abbrev hits : ℕ → List ℕ → ℕ
hits k [] = 0
hits k (bucket ∷ buckets) = (if k == bucket then 1 else 0) + hits k buckets

no_hit : (k start n : ℕ) → k < start → hits k (range_with_len start n) ≡ 0
no_hit k start zero before = refl
no_hit k start (suc n) before =
    let no : (k == start) ≡ false = ne_eqb k start (λ is. absurd (omega (arith, is, before))) in
    let rest = no_hit k (start + 1) n (omega (arith, before)) in
    rw no (omega (arith, rest))

one_hit : (k start n : ℕ) → start ≤ k → k < start + n → hits k (range_with_len start n) ≡ 1
one_hit k start zero from before = absurd (omega (arith, from, before))
one_hit k start (suc n) from before = elim (eq-or-lt_of_le from) as (λ _. hits k (range_with_len start (suc n)) ≡ 1) [
  | inl same ↦
      let yes : (k == start) ≡ true = eq-eqb k start (sym same) in
      let rest = no_hit k (start + 1) n (omega (arith, same)) in
      rw yes (omega (arith, rest))
  | inr above ↦
      let no : (k == start) ≡ false = ne_eqb k start (λ is. absurd (omega (arith, is, above))) in
      let rest = one_hit k (start + 1) n (omega (arith, above)) (omega (arith, before)) in
      rw no (omega (arith, rest))
]

no_things : {A : Type 0} (hash : A → ℕ) (buckets : ℕ) (all : List ℕ) → length (flat_map (in_bucket hash buckets []) all) ≡ 0
no_things hash buckets [] = refl
no_things hash buckets (bucket ∷ all) = no_things hash buckets all

more_things : {A : Type 0} (hash : A → ℕ) (buckets : ℕ) (x : A) (xs : List A) (all : List ℕ)
    → length (flat_map (in_bucket hash buckets (x ∷ xs)) all) ≡ hits (hash x % buckets) all + length (flat_map (in_bucket hash buckets xs) all)
more_things hash buckets x xs [] = refl
more_things hash buckets x xs (bucket ∷ all) =
    let old = in_bucket hash buckets xs bucket in
    let one = length-append (in_bucket hash buckets (x ∷ xs) bucket) (flat_map (in_bucket hash buckets (x ∷ xs)) all) in
    let two = length-append old (flat_map (in_bucket hash buckets xs) all) in
    let rest = more_things hash buckets x xs all in
    let P : Bool → Type 0 = λ here. length (if here then x ∷ old else old) ≡ (if here then 1 else 0) + length old in
    let yes : length (x ∷ old) ≡ 1 + length old = omega arith in
    let no : length old ≡ 0 + length old = omega arith in
    let cases : (here : Bool) → P here = λ here. elim here as P [ true ↦ yes | false ↦ no ] in
    let first = cases (hash x % buckets == bucket) in
    omega (arith, one, two, rest, first)

pub as_many : {A : Type 0} (hash : A → ℕ) (buckets : ℕ) (xs : List A) → 0 < buckets → length (by_bucket hash buckets xs) ≡ length xs
unfolding by_bucket
as_many {A} hash buckets xs some = each xs
  where
    each : (ys : List A) → length (flat_map (in_bucket hash buckets ys) (range_with_len 0 buckets)) ≡ length ys
    each [] = no_things hash buckets (range_with_len 0 buckets)
    each (y ∷ ys) =
        let more = more_things hash buckets y ys (range_with_len 0 buckets) in
        let hit = one_hit (hash y % buckets) 0 buckets (omega arith) (omega (arith, some)) in
        let rest = each ys in
        omega (arith, more, hit, rest)
