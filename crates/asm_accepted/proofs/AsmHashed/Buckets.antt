-- Hashes that stand by their buckets: the chain of the greatest bucket is the last.
use Rattle.std.proofs.Common.{◌≡◌, ◌∙◌, ap, sym, refl, ℕ, zero, suc, ◌+◌, ◌*◌, ◌/◌, ◌%◌, ◌^◌, ◌<◌, ◌≤◌, ◌==◌, inl, inr, true, false, not, max, if◌then◌else◌, List, [], ◌∷◌, ◌++◌, length, map, fold, arith, length-append}
use Rattle.std.specs.Prelude.{⊤, IsTrue}
use Rattle.std.specs.Int.{from_bool}
use Rattle.std.specs.List.{AllPass, range_with_len}
use Rattle.std.proofs.Math.Nat.{eq-or-lt_of_le}
use Rattle.std.proofs.lemmas.Bool.{cases_eq, eq-eqb, ne_eqb}
use Rattle.std.proofs.lemmas.List.Elements.{All-cons, All-nil}
use Rattle.elf_head.specs.DynTable.HashWords.{is_end}
use Rattle.asm_write.specs.HashBuild.Hashed.{bucket_count, bucket_of, buckets_of, chain_of, ends_bucket, gnu_of, word}
use Rattle.asm_accepted.specs.ElfHashed.Hashes.{EndsWithGreatest}

-- hashes of one bucket, and of others
abbrev pub AllIn : ℕ → ℕ → List ℕ → Type 0
AllIn buckets bucket [] = ⊤
AllIn buckets bucket (hash ∷ hashes) = (hash % buckets ≡ bucket) × AllIn buckets bucket hashes

abbrev pub NoneIn : ℕ → ℕ → List ℕ → Type 0
NoneIn buckets bucket [] = ⊤
NoneIn buckets bucket (hash ∷ hashes) = ((hash % buckets == bucket) ≡ false) × NoneIn buckets bucket hashes

-- the last hashes are all those of one bucket
pub record EndsInBucket (buckets : ℕ) (hashes : List ℕ) : Type 0 where
  pub before : List ℕ
  pub bucket : ℕ
  pub first : ℕ
  pub group : List ℕ
  pub parts : hashes ≡ before ++ first ∷ group
  pub others : NoneIn buckets bucket before
  pub all : AllIn buckets bucket (first ∷ group)
  pub inside : bucket < buckets

-- The first symbol of a bucket

first_of : (buckets bucket first hash : ℕ) (before group : List ℕ) → NoneIn buckets bucket before → hash % buckets ≡ bucket
    → bucket_of first buckets (before ++ hash ∷ group) bucket ≡ first + length before
first_of buckets bucket first hash [] group none here =
    let yes : (hash % buckets == bucket) ≡ true = eq-eqb (hash % buckets) bucket here in
    rw yes (omega arith)
first_of buckets bucket first hash (other ∷ before) group (differs, none) here =
    rw differs (first_of buckets bucket (first + 1) hash before group none here ∙ omega arith)

none_first : (buckets bucket first : ℕ) (group : List ℕ) (other : ℕ) → AllIn buckets bucket group → (bucket == other) ≡ false → bucket_of first buckets group other ≡ 0
none_first buckets bucket first [] other all differs = refl
none_first buckets bucket first (hash ∷ group) other (here, all) differs =
    let no : (hash % buckets == other) ≡ false = ap (λ n. n == other) here ∙ differs in
    rw no (none_first buckets bucket (first + 1) group other all differs)

at_most : (buckets bucket first : ℕ) (before group : List ℕ) (other : ℕ) → AllIn buckets bucket group → (bucket == other) ≡ false
    → bucket_of first buckets (before ++ group) other ≤ first + length before
at_most buckets bucket first [] group other all differs = let none = none_first buckets bucket first group other all differs in omega (arith, none)
at_most buckets bucket first (hash ∷ before) group other all differs =
    let rest = at_most buckets bucket (first + 1) before group other all differs in
    elim (hash % buckets == other) as (λ here. (if here then first else bucket_of (first + 1) buckets (before ++ group) other) ≤ first + length (hash ∷ before)) [
      | true ↦ omega arith
      | false ↦ omega (arith, rest)
    ]

-- The greatest of them

grown : (acc : ℕ) (numbers : List ℕ) → acc ≤ fold max acc numbers
grown acc [] = omega arith
grown acc (n ∷ numbers) = let rest = grown (max acc n) numbers in omega (arith, rest)

bounded : (f : ℕ → ℕ) (bound acc start n : ℕ) → acc ≤ bound → ((k : ℕ) → f k ≤ bound) → fold max acc (map f (range_with_len start n)) ≤ bound
bounded f bound acc start zero low each = low
bounded f bound acc start (suc n) low each = let here = each start in bounded f bound (max acc (f start)) (start + 1) n (omega (arith, low, here)) each

reached : (f : ℕ → ℕ) (acc start n k : ℕ) → start ≤ k → k < start + n → f k ≤ fold max acc (map f (range_with_len start n))
reached f acc start zero k from before = absurd (omega (arith, from, before))
reached f acc start (suc n) k from before =
    let later : start < k → f k ≤ fold max (max acc (f start)) (map f (range_with_len (start + 1) n)) = λ above.
    reached f (max acc (f start)) (start + 1) n k (omega (arith, above)) (omega (arith, before)) in
    let rest = map f (range_with_len (start + 1) n) in
    let here : start ≡ k → f k ≤ fold max (max acc (f start)) rest = λ same.
    let grows = grown (max acc (f start)) rest in
    let value : f start ≡ f k = ap f same in
    omega (arith, grows, value) in
    elim (eq-or-lt_of_le from) as (λ _. f k ≤ fold max (max acc (f start)) rest) [ inl same ↦ here same | inr above ↦ later above ]

-- The chain words

record ChainFront (buckets : ℕ) (before rest : List ℕ) : Type 0 where
  front : List ℕ
  long : length front ≡ length before
  is : chain_of buckets (before ++ rest) ≡ front ++ chain_of buckets rest

chain_front : (buckets : ℕ) (before rest : List ℕ) → ChainFront buckets before rest
chain_front buckets [] rest = record { front = []; long = refl; is = refl }
chain_front buckets (hash ∷ before) rest =
    let more = chain_front buckets before rest in
    let here = 2 * (hash / 2) + from_bool (ends_bucket buckets hash (before ++ rest)) in
    record { front = here ∷ more.front; long = ap suc more.long; is = ap (λ (ws : List ℕ). here ∷ ws) more.is }

record ChainEnd (words : List ℕ) : Type 0 where
  on : List ℕ
  end : ℕ
  is : words ≡ on ++ end ∷ []
  passes : AllPass (λ word. not (is_end word)) on
  ended : IsTrue (is_end end)

chain_end : (buckets bucket hash : ℕ) (group : List ℕ) → AllIn buckets bucket (hash ∷ group) → ChainEnd (chain_of buckets (hash ∷ group))
chain_end buckets bucket hash [] all = record {
  on = [];
  end = 2 * (hash / 2) + 1;
  is = refl;
  passes = All-nil (λ word. not (is_end word) ≡ true);
  ended = eq-eqb ((2 * (hash / 2) + 1) % 2) 1 (omega arith);
}
chain_end buckets bucket hash (next ∷ group) (here, (there, all)) =
    let rest = chain_end buckets bucket next group (there, all) in
    let same : (next % buckets == hash % buckets) ≡ true = eq-eqb (next % buckets) (hash % buckets) (there ∙ sym here) in
    let goes_on : ends_bucket buckets hash (next ∷ group) ≡ false = ap not same in
    let word_is : 2 * (hash / 2) + from_bool (ends_bucket buckets hash (next ∷ group)) ≡ 2 * (hash / 2) + 0 = ap (λ b. 2 * (hash / 2) + from_bool b) goes_on in
    let even : not (is_end (2 * (hash / 2) + 0)) ≡ true = ap not (ne_eqb ((2 * (hash / 2) + 0) % 2) 1 (λ is. absurd (omega (arith, is)))) in
    record {
      on = (2 * (hash / 2) + 0) ∷ rest.on;
      end = rest.end;
      is = ap (λ n. n ∷ chain_of buckets (next ∷ group)) word_is ∙ ap (λ (ws : List ℕ). (2 * (hash / 2) + 0) ∷ ws) rest.is;
      passes = All-cons (λ word. not (is_end word) ≡ true) (2 * (hash / 2) + 0) rest.on even rest.passes;
      ended = rest.ended;
    }

-- The table ends with the chain of its greatest bucket

pub ends_with : (first : ℕ) (hashes : List ℕ) → 0 < first → first + length hashes < 2 ^ 32 → EndsInBucket (bucket_count (length hashes)) hashes → EndsWithGreatest (gnu_of first hashes)
unfolding gnu_of buckets_of
ends_with first hashes some few ends =
    let buckets = bucket_count (length hashes) in
    let place = first + length ends.before in
    let f : ℕ → ℕ = λ bucket. word (bucket_of first buckets hashes bucket) in
    let long : length hashes ≡ length ends.before + suc (length ends.group) = ap (λ (hs : List ℕ). length hs) ends.parts ∙ length-append ends.before (ends.first ∷ ends.group) in
    let here : bucket_of first buckets hashes ends.bucket ≡ place
    = ap (λ (hs : List ℕ). bucket_of first buckets hs ends.bucket) ends.parts ∙ first_of buckets ends.bucket first ends.first ends.before ends.group ends.others ends.all.0 in
    let low : (bucket : ℕ) → bucket_of first buckets hashes bucket ≤ place = λ bucket. elim (cases_eq ends.bucket bucket) as (λ _. bucket_of first buckets hashes bucket ≤ place) [
      | inl same ↦ let value : bucket_of first buckets hashes bucket ≡ place = ap (bucket_of first buckets hashes) (sym same) ∙ here in omega (arith, value)
      | inr differs ↦
          let parts : bucket_of first buckets hashes bucket ≡ bucket_of first buckets (ends.before ++ ends.first ∷ ends.group) bucket = ap (λ (hs : List ℕ). bucket_of first buckets hs bucket) ends.parts in
          let most = at_most buckets ends.bucket first ends.before (ends.first ∷ ends.group) bucket ends.all (ne_eqb ends.bucket bucket differs) in
          omega (arith, parts, most)
    ] in
    let great : fold max 0 (map f (range_with_len 0 buckets)) ≤ place = bounded f place 0 0 buckets (omega arith) (λ bucket. let one = low bucket in omega (arith, one)) in
    let least : f ends.bucket ≤ fold max 0 (map f (range_with_len 0 buckets)) = reached f 0 0 buckets ends.bucket (omega arith) (let inside = ends.inside in omega (arith, inside)) in
    let value : f ends.bucket ≡ place = omega (arith, here, few, long) in
    let greatest_is : fold max 0 (map f (range_with_len 0 buckets)) ≡ place = omega (arith, great, least, value) in
    let front = chain_front buckets ends.before (ends.first ∷ ends.group) in
    let end = chain_end buckets ends.bucket ends.first ends.group ends.all in
    EndsWithGreatest.last front.front end.on end.end (omega (arith, greatest_is, some)) (let size = front.long in omega (arith, size, greatest_is))
    (ap (chain_of buckets) ends.parts ∙ front.is ∙ ap (λ (ws : List ℕ). front.front ++ ws) end.is) end.passes end.ended

pub nothing_ends : (first : ℕ) → EndsWithGreatest (gnu_of first [])
unfolding gnu_of buckets_of
nothing_ends first = EndsWithGreatest.none (empty 0 (bucket_count 0)) refl
  where
    empty : (start n : ℕ) → fold max 0 (map (λ bucket. word (bucket_of first (bucket_count 0) [] bucket)) (range_with_len start n)) ≡ 0
    empty start zero = refl
    empty start (suc n) = empty (start + 1) n
