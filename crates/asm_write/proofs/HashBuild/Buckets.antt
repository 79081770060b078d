-- One symbol more before others.
use Rattle.std.proofs.Common.{◌≡◌, ◌∙◌, ap, sym, ℕ, zero, suc, ◌+◌, ◌<◌, ◌%◌, ◌==◌, if◌then◌else◌, List, [], ◌∷◌, length, map, get_or, set, drop, replicate, refl, arith, Bool, true, false, zero-add}
use Rattle.std.proofs.lemmas.List.{ext_get_or, get_or-set_same, get_or-set_other}
use Rattle.std.proofs.lemmas.List.FromFn.{length-map-range_with_len, get_or-map-range_with_len}
use Rattle.std.proofs.lemmas.Bool.Decides.{nat_tests}
use Rattle.std.proofs.Math.ListN.{length-set}
use Rattle.std.specs.List.{range_with_len}
use Rattle.asm_write.specs.HashBuild.Hashed.{word, bucket_of, buckets_of}

-- what stands at a place of a list with one element changed
changed : (xs : List ℕ) (at value k : ℕ) → at < length xs → get_or (set xs at value) k 0 ≡ (if at == k then value else get_or xs k 0)
changed xs at value k below = grind (arith, nat_tests, get_or-set_same, get_or-set_other)

word_of_choice : (b : Bool) (x y : ℕ) → (if b then word x else word y) ≡ word (if b then x else y)
word_of_choice b x y = elim b as (λ v. (if v then word x else word y) ≡ word (if v then x else y)) [ true ↦ refl | false ↦ refl ]

pub buckets_length : (first count : ℕ) (hashes : List ℕ) → length (buckets_of first count hashes) ≡ count
unfolding buckets_of
buckets_length first count hashes = length-map-range_with_len (λ bucket. word (bucket_of first count hashes bucket)) 0 count

pub bucket_at : (first count : ℕ) (hashes : List ℕ) (k : ℕ) → k < count → get_or (buckets_of first count hashes) k 0 ≡ word (bucket_of first count hashes k)
unfolding buckets_of
bucket_at first count hashes k below = get_or-map-range_with_len (λ bucket. word (bucket_of first count hashes bucket)) 0 count k k 0 below (zero-add k)

-- a symbol stands before those that were first in its bucket
pub one_more : (first count hash : ℕ) (rest : List ℕ) → 0 < count
    → set (buckets_of (first + 1) count rest) (hash % count) (word first) ≡ buckets_of first count (hash ∷ rest)
one_more first count hash rest some =
    let old = buckets_of (first + 1) count rest in
    let within : hash % count < count = omega arith in
    let old_length = buckets_length (first + 1) count rest in
    let new_length = buckets_length first count (hash ∷ rest) in
    let set_length = length-set old (hash % count) (word first) in
    ext_get_or 0 (set old (hash % count) (word first)) (buckets_of first count (hash ∷ rest)) (set_length ∙ old_length ∙ sym new_length)
    (λ k below.
    let fits : k < count = omega arith in
    let room : hash % count < length old = omega arith in
    changed old (hash % count) (word first) k room
    ∙ ap (λ other. if (hash % count) == k then word first else other) (bucket_at (first + 1) count rest k fits)
    ∙ word_of_choice ((hash % count) == k) first (bucket_of (first + 1) count rest k)
    ∙ sym (bucket_at first count (hash ∷ rest) k fits))

zeros_of : (a n : ℕ) → map {B = ℕ} (λ bucket. 0) (range_with_len a n) ≡ replicate n 0
zeros_of a zero = refl
zeros_of a (suc n) = ap (λ rest. 0 ∷ rest) (zeros_of (a + 1) n)

-- no symbol is in a bucket
pub none : (first count : ℕ) → buckets_of first count [] ≡ replicate count 0
unfolding buckets_of
none first count = zeros_of 0 count

-- behind the last one there is none
pub emptied : (hashes : List ℕ) → drop (length hashes) hashes ≡ []
emptied [] = refl
emptied (hash ∷ hashes) = emptied hashes
