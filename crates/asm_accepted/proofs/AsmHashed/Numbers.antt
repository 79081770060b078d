-- The numbers of hash tables.
use Rattle.std.proofs.Common.{◌≡◌, ap, refl, ℕ, zero, suc, ◌+◌, ◌-◌, ◌/◌, ◌%◌, ◌^◌, ◌<◌, ◌≤◌, Bool, true, false, List, [], ◌∷◌, ◌++◌, length, map, fold, replicate, bit_or, arith, length-append}
use Rattle.std.specs.Int.{from_bool}
use Rattle.std.specs.List.{range_with_len}
use Rattle.std.proofs.lemmas.Nat.{or_lt, pow_below}
use Rattle.std.proofs.lemmas.List.{length-replicate}
use Rattle.std.proofs.lemmas.List.FromFn.{length-map-range_with_len}
use Rattle.sym_hash.specs.Hash.{gnu_hash, gnu_step}
use Rattle.asm_write.specs.HashBuild.Hashed.{bloom_with, bucket_count, bucket_of, buckets_of, chain_of, ends_bucket, gnu_of, links_of, sysv_of, word}
use Rattle.asm_laws.specs.ElfSpelled.Said.{AllBelow}
use Rattle.asm_accepted.specs.ElfHashed.Hashes.{EndsWithGreatest, GnuFits, SysvFits}

-- hashes have 32 bits

folded : (step : ℕ → ℕ → ℕ) → ((h c : ℕ) → step h c < 2 ^ 32) → (h : ℕ) (name : List ℕ) → h < 2 ^ 32 → fold step h name < 2 ^ 32
folded step each h [] low = low
folded step each h (c ∷ name) low = folded step each (step h c) name (each h c)

pub low_gnu : (name : List ℕ) → gnu_hash name < 2 ^ 32
unfolding gnu_hash
low_gnu name = folded gnu_step (λ h c. omega arith) 5381 name (omega arith)

pub low_hashes : {A : Type 0} (hash : List ℕ → ℕ) (name : A → List ℕ) → ((n : List ℕ) → hash n < 2 ^ 32) → (xs : List A) → AllBelow (2 ^ 32) (map (λ x. hash (name x)) xs)
low_hashes hash name low [] = tt
low_hashes hash name low (x ∷ xs) = (low (name x), low_hashes hash name low xs)

-- words of tables

low_words : (f : ℕ → ℕ) (numbers : List ℕ) → AllBelow (2 ^ 32) (map (λ n. word (f n)) numbers)
low_words f [] = tt
low_words f (n ∷ numbers) = (omega arith, low_words f numbers)

low_buckets : (first buckets : ℕ) (hashes : List ℕ) → AllBelow (2 ^ 32) (buckets_of first buckets hashes)
unfolding buckets_of
low_buckets first buckets hashes = low_words (bucket_of first buckets hashes) (range_with_len 0 buckets)

pub bucket_number : (first buckets : ℕ) (hashes : List ℕ) → length (buckets_of first buckets hashes) ≡ buckets
unfolding buckets_of
bucket_number first buckets hashes = length-map-range_with_len (λ bucket. word (bucket_of first buckets hashes bucket)) 0 buckets

pub chain_long : (buckets : ℕ) (hashes : List ℕ) → length (chain_of buckets hashes) ≡ length hashes
chain_long buckets [] = refl
chain_long buckets (hash ∷ hashes) = ap suc (chain_long buckets hashes)

at_most_one : (b : Bool) → from_bool b ≤ 1
at_most_one true = omega arith
at_most_one false = omega arith

low_chain : (buckets : ℕ) (hashes : List ℕ) → AllBelow (2 ^ 32) hashes → AllBelow (2 ^ 32) (chain_of buckets hashes)
low_chain buckets [] low = tt
low_chain buckets (hash ∷ hashes) (first, low) =
    let bit = at_most_one (ends_bucket buckets hash hashes) in
    (omega (arith, first, bit), low_chain buckets hashes low)

low_bloom : (bloom : ℕ) (hashes : List ℕ) → bloom < 2 ^ 64 → fold bloom_with bloom hashes < 2 ^ 64
low_bloom bloom [] low = low
low_bloom bloom (hash ∷ hashes) low =
    let one = or_lt 64 bloom (2 ^ (hash % 64)) low (pow_below (hash % 64) 64 (omega arith)) in
    low_bloom (bloom_with bloom hash) hashes (or_lt 64 (bit_or bloom (2 ^ (hash % 64))) (2 ^ (hash / 64 % 64)) one (pow_below (hash / 64 % 64) 64 (omega arith)))

pub gnu_fits : (first : ℕ) (hashes : List ℕ) → first < 2 ^ 32 → length hashes < 2 ^ 32 → AllBelow (2 ^ 32) hashes → EndsWithGreatest (gnu_of first hashes) → GnuFits (gnu_of first hashes)
unfolding gnu_of
gnu_fits first hashes few many low ends = record {
  symoffset = few;
  shift = omega arith;
  bloom_size = omega arith;
  bloom = (low_bloom 0 hashes (omega arith), tt);
  bucket_count = (let long = bucket_number first (bucket_count (length hashes)) hashes in omega (arith, long, many));
  buckets = low_buckets first (bucket_count (length hashes)) hashes;
  chain = low_chain (bucket_count (length hashes)) hashes low;
  ends = ends;
}

-- the System V table

pub links_long : (first buckets : ℕ) (hashes : List ℕ) → length (links_of first buckets hashes) ≡ length hashes
links_long first buckets [] = refl
links_long first buckets (hash ∷ hashes) = ap suc (links_long (first + 1) buckets hashes)

low_links : (first buckets : ℕ) (hashes : List ℕ) → AllBelow (2 ^ 32) (links_of first buckets hashes)
low_links first buckets [] = tt
low_links first buckets (hash ∷ hashes) = (omega arith, low_links (first + 1) buckets hashes)

behind_zeros : (n : ℕ) (numbers : List ℕ) → AllBelow (2 ^ 32) numbers → AllBelow (2 ^ 32) (replicate n 0 ++ numbers)
behind_zeros zero numbers low = low
behind_zeros (suc n) numbers low = (omega arith, behind_zeros n numbers low)

pub sysv_long : (first : ℕ) (hashes : List ℕ) → length (replicate first 0 ++ links_of first (bucket_count (length hashes)) hashes) ≡ first + length hashes
sysv_long first hashes =
    let links = links_long first (bucket_count (length hashes)) hashes in
    let zeros = length-replicate {A = ℕ} first 0 in
    let both = length-append (replicate first 0) (links_of first (bucket_count (length hashes)) hashes) in
    omega (arith, links, zeros, both)

pub sysv_fits : (first : ℕ) (hashes : List ℕ) → first + length hashes < 2 ^ 32 → SysvFits (sysv_of first hashes)
unfolding sysv_of
sysv_fits first hashes few = record {
  bucket_count = (let long = bucket_number first (bucket_count (length hashes)) hashes in omega (arith, long, few));
  buckets = low_buckets first (bucket_count (length hashes)) hashes;
  chain_count = (let long = sysv_long first hashes in omega (arith, long, few));
  chain = behind_zeros first (links_of first (bucket_count (length hashes)) hashes) (low_links first (bucket_count (length hashes)) hashes);
}
