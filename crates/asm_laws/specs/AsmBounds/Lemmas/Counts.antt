-- How many things of a kind there are at most: as many as lines, twice as many, or a product of these.
use Rattle.std.proofs.Common.{◌≡◌, ap, refl, ℕ, suc, ◌+◌, ◌*◌, ◌%◌, ◌^◌, ◌≤◌, ◌==◌, Bool, true, false, if◌then◌else◌, List, [], ◌∷◌, length, map, filter, filter_map, flat_map, fold, arith, length-append}
use Rattle.std.specs.List.{range_with_len}
use Rattle.std.specs.Str.{bytes_eq}
use Rattle.std.proofs.Math.Nat.{mul-le-mul_left, mul-le-mul_right}
use Rattle.std.proofs.lemmas.List.{length-map}
use Rattle.std.proofs.lemmas.List.FromFn.{length-range_with_len}
use Rattle.asm_write.specs.HashBuild.Hashed.{bucket_count, by_bucket, chain_of, links_of}
use Rattle.sym_hash.specs.Hash.{gnu_hash}
use Rattle.asm_statement.specs.declared.directive.Need.{Need}
use Rattle.asm_statement.specs.declared.line.Line.{Line}
use Rattle.asm_layout.specs.Contents.{needed_names}
use Rattle.asm_layout.specs.Symbols.{sorted_exports}
use Rattle.asm_layout.specs.Tables.{library_needed, needed, version_defined, versions}
use Rattle.asm_layout.specs.Uses.{callee, exported_by, exports, if_foreign, if_labelled, if_preemptible, imports, mention, need_of, needs, same_export, slots, with_need}
use Rattle.asm_layout.specs.Versions.{file_versions, is_of_file, needed_files}
use Rattle.asm_laws.specs.Lemmas.Fewer.{once_fewer, once_of, some_fewer}

-- Lists

pub product : (a b c d : ℕ) → a ≤ c → b ≤ d → a * b ≤ c * d
product a b c d one other =
    let first = mul-le-mul_right b one in
    let second = mul-le-mul_left c other in
    omega (arith, first, second)

pub filter_fewer : {A : Type 0} (test : A → Bool) (xs : List A) → length (filter test xs) ≤ length xs
filter_fewer test [] = omega arith
filter_fewer test (x ∷ xs) =
    let rest = filter_fewer test xs in
    elim (test x) as (λ b. length (if b then x ∷ filter test xs else filter test xs) ≤ length (x ∷ xs)) [
      | true ↦ omega (arith, rest)
      | false ↦ omega (arith, rest)
    ]

pub joined_few : {X A : Type 0} (f : X → List A) (most : ℕ) → ((x : X) → length (f x) ≤ most) → (xs : List X) → length (flat_map f xs) ≤ length xs * most
joined_few f most few [] = omega arith
joined_few f most few (x ∷ xs) =
    let rest = joined_few f most few xs in
    let one = few x in
    let whole = length-append (f x) (flat_map f xs) in
    sum (length (f x)) (length (flat_map f xs)) (length xs) most (length (flat_map f (x ∷ xs))) whole one rest
  where
    sum : (a b n most all : ℕ) → all ≡ a + b → a ≤ most → b ≤ n * most → all ≤ suc n * most
    sum a b n most all whole one rest = omega (arith, whole, one, rest)

-- of things by their buckets there are no more in each than in all
bucketed_few : {A : Type 0} (hash : A → ℕ) (buckets : ℕ) (xs : List A) → length (by_bucket hash buckets xs) ≤ buckets * length xs
unfolding by_bucket
bucketed_few {A} hash buckets xs =
    let in_bucket : ℕ → List A = λ bucket. filter (λ x. hash x % buckets == bucket) xs in
    let all = joined_few in_bucket (length xs) (λ bucket. filter_fewer (λ x. hash x % buckets == bucket) xs) (range_with_len 0 buckets) in
    let count = length-range_with_len 0 buckets in
    rw count at all

-- Hash tables

pub buckets_few : (n most : ℕ) → n ≤ 4 * most → bucket_count n ≤ 1 + most
buckets_few n most few = omega (arith, few)

pub chain_long : (buckets : ℕ) (hashes : List ℕ) → length (chain_of buckets hashes) ≡ length hashes
chain_long buckets [] = refl
chain_long buckets (hash ∷ hashes) = ap suc (chain_long buckets hashes)

pub links_long : (first buckets : ℕ) (hashes : List ℕ) → length (links_of first buckets hashes) ≡ length hashes
links_long first buckets [] = refl
links_long first buckets (hash ∷ hashes) = ap suc (links_long (first + 1) buckets hashes)

-- What lines need and say

pub imports_few : (lines : List Line) → length (imports lines) ≤ length lines
unfolding imports
imports_few lines = once_of bytes_eq (λ line. if_foreign lines (mention line.statement)) lines

exports_few : (lines : List Line) → length (exports lines) ≤ length lines
unfolding exports
exports_few lines = once_of same_export (λ line. if_labelled lines (exported_by lines line.statement)) lines

pub slots_few : (lines : List Line) → length (slots lines) ≤ length lines
unfolding slots
slots_few lines = once_of bytes_eq (λ line. if_preemptible lines (callee line.statement)) lines

pub versions_few : (lines : List Line) → length (versions lines) ≤ length lines
unfolding versions
versions_few lines = once_of bytes_eq (λ line. version_defined line.statement) lines

pub needed_few : (lines : List Line) → length (needed lines) ≤ length lines
unfolding needed
needed_few lines = some_fewer (λ line. library_needed line.statement) lines

put_few : (all : List Need) (need : Need) → length (with_need all need) ≤ length all + 1
put_few [] need = omega arith
put_few (first ∷ rest) need =
    let more = put_few rest need in
    elim (bytes_eq need.name first.name) as (λ b. length (if b then need ∷ rest else first ∷ with_need rest need) ≤ length (first ∷ rest) + 1) [
      | true ↦ omega arith
      | false ↦ omega (arith, more)
    ]

folded_few : (before all : List Need) → length (fold with_need before all) ≤ length before + length all
folded_few before [] = omega arith
folded_few before (need ∷ all) =
    let one = put_few before need in
    let rest = folded_few (with_need before need) all in
    omega (arith, one, rest)

needs_few : (lines : List Line) → length (needs lines) ≤ length lines
unfolding needs
needs_few lines =
    let all = folded_few [] (filter_map (λ line. need_of line.statement) lines) in
    let some = some_fewer (λ line. need_of line.statement) lines in
    omega (arith, all, some)

pub files_few : (lines : List Line) → length (needed_files lines) ≤ length lines
unfolding needed_files
files_few lines =
    let once = once_fewer bytes_eq (map (λ need. need.file) (needs lines)) in
    let same = length-map (needs lines) (λ need. need.file) in
    let few = needs_few lines in
    omega (arith, once, same, few)

pub file_versions_few : (lines : List Line) (file : List ℕ) → length (file_versions lines file) ≤ length lines
unfolding file_versions
file_versions_few lines file =
    let some = filter (is_of_file file) (needs lines) in
    let once = once_fewer bytes_eq (map (λ need. need.version) some) in
    let same = length-map some (λ need. need.version) in
    let fewer = filter_fewer (is_of_file file) (needs lines) in
    let few = needs_few lines in
    omega (arith, once, same, fewer, few)

-- of a source's lines

module _ (lines : List Line) (few : length lines ≤ 2 ^ 20 + 1) where
  -- a number of exports times that of their buckets
  pub exports_sorted : length (sorted_exports lines) ≤ (2 ^ 18 + 2) * (2 ^ 20 + 1)
  unfolding sorted_exports
  exports_sorted =
      let exported = exports_few lines in
      let all = bucketed_few (λ exported. gnu_hash exported.name) (bucket_count (length (exports lines))) (exports lines) in
      let buckets = buckets_few (length (exports lines)) (2 ^ 18 + 1) (omega (arith, exported, few)) in
      let count = length (exports lines) in
      let times = product (bucket_count count) count (2 ^ 18 + 2) (2 ^ 20 + 1) (omega (arith, buckets)) (omega (arith, exported, few)) in
      omega (arith, all, times)

  -- and a number of files times that of the versions of each
  pub versions_needed : length (needed_names lines) ≤ (2 ^ 20 + 1) * (2 ^ 20 + 1)
  versions_needed =
      let files = files_few lines in
      let all = joined_few (file_versions lines) (length lines) (file_versions_few lines) (needed_files lines) in
      let times = product (length (needed_files lines)) (length lines) (2 ^ 20 + 1) (2 ^ 20 + 1) (omega (arith, files, few)) few in
      omega (arith, all, times)
