-- A property of each element of lists that are made of others.
use Rattle.std.proofs.Common.{ℕ, ◌%◌, ◌==◌, Bool, true, false, if◌then◌else◌, List, [], ◌∷◌, ◌++◌, map, filter, filter_map, flat_map, fold}
use Rattle.std.specs.Prelude.{⊤, Option, Some, None, option_to_list}
use Rattle.std.specs.List.{cons_option, list_any, range_with_len}
use Rattle.std.specs.Str.{bytes_eq}
use Rattle.asm_write.specs.HashBuild.Hashed.{by_bucket}
use Rattle.asm_statement.specs.declared.directive.Need.{Need}
use Rattle.asm_statement.specs.declared.line.Line.{Line}
use Rattle.asm_layout.specs.Uses.{distinct, distinct_after, need_of, needs, with_need}
use Rattle.asm_laws.specs.Lemmas.Each.{Each, both}

abbrev pub IfThere : {A : Type 0} → (A → Type 0) → Option A → Type 0
IfThere P None = ⊤
IfThere P (Some x) = P x

pub second : {A : Type 0} (P : A → Type 0) (xs ys : List A) → Each P (xs ++ ys) → Each P ys
second P [] ys all = all
second P (x ∷ xs) ys (first, all) = second P xs ys all

pub first : {A : Type 0} (P : A → Type 0) (xs ys : List A) → Each P (xs ++ ys) → Each P xs
first P [] ys all = tt
first P (x ∷ xs) ys (one, all) = (one, first P xs ys all)

pub as_list : {A : Type 0} (P : A → Type 0) (o : Option A) → IfThere P o → Each P (option_to_list o)
as_list P None there = tt
as_list P (Some x) there = (there, tt)

pub gathered : {X A : Type 0} (Q : X → Type 0) (P : A → Type 0) (f : X → Option A) → ((x : X) → Q x → IfThere P (f x)) → (xs : List X)
    → Each Q xs → Each P (filter_map f xs)
gathered Q P f gives [] all = tt
gathered {X} {A} Q P f gives (x ∷ xs) (first, all) =
    let rest = gathered Q P f gives xs all in
    let M : Option A → Type 0 = λ o. IfThere P o → Each P (cons_option o (filter_map f xs)) in
    let cases : (o : Option A) → M o = λ o. elim o as M [ None ↦ λ _. rest | Some y ↦ λ is. (is, rest) ] in
    cases (f x) (gives x first)

pub mapped : {X A : Type 0} (Q : X → Type 0) (P : A → Type 0) (f : X → A) → ((x : X) → Q x → P (f x)) → (xs : List X) → Each Q xs → Each P (map f xs)
mapped Q P f gives [] all = tt
mapped Q P f gives (x ∷ xs) (first, all) = (gives x first, mapped Q P f gives xs all)

pub filtered : {A : Type 0} (P : A → Type 0) (test : A → Bool) (xs : List A) → Each P xs → Each P (filter test xs)
filtered P test [] all = tt
filtered {A} P test (x ∷ xs) (first, all) =
    let rest = filtered P test xs all in
    elim (test x) as (λ b. Each P (if b then x ∷ filter test xs else filter test xs)) [ true ↦ (first, rest) | false ↦ rest ]

-- whatever the lists are made from
pub joined : {X A : Type 0} (P : A → Type 0) (f : X → List A) → ((x : X) → Each P (f x)) → (xs : List X) → Each P (flat_map f xs)
joined P f gives [] = tt
joined P f gives (x ∷ xs) = both P (f x) (flat_map f xs) (gives x) (joined P f gives xs)

once_after : {A : Type 0} (P : A → Type 0) (same : A → A → Bool) (seen xs : List A) → Each P xs → Each P (distinct_after same seen xs)
once_after P same seen [] all = tt
once_after {A} P same seen (x ∷ xs) (first, all) =
    let without = once_after P same seen xs all in
    let with_it = once_after P same (seen ++ x ∷ []) xs all in
    let others = distinct_after same (seen ++ x ∷ []) xs in
    elim (list_any (same x) seen) as (λ b. Each P (if b then distinct_after same seen xs else x ∷ others)) [
      | true ↦ without
      | false ↦ (first, with_it)
    ]

pub once : {A : Type 0} (P : A → Type 0) (same : A → A → Bool) (xs : List A) → Each P xs → Each P (distinct same xs)
unfolding distinct
once P same xs all = once_after P same [] xs all

pub bucketed : {A : Type 0} (P : A → Type 0) (hash : A → ℕ) (buckets : ℕ) (xs : List A) → Each P xs → Each P (by_bucket hash buckets xs)
unfolding by_bucket
bucketed {A} P hash buckets xs all =
    let in_bucket : ℕ → A → Bool = λ bucket x. hash x % buckets == bucket in
    joined P (λ bucket. filter (in_bucket bucket) xs) (λ bucket. filtered P (in_bucket bucket) xs all) (range_with_len 0 buckets)

-- what references need of versions

module _ (P : Need → Type 0) where
  need_put : (all : List Need) (need : Need) → Each P all → P need → Each P (with_need all need)
  need_put [] need some there = (there, tt)
  need_put (first ∷ rest) need (one, some) there =
      elim (bytes_eq need.name first.name) as (λ b. Each P (if b then need ∷ rest else first ∷ with_need rest need)) [
        | true ↦ (there, some)
        | false ↦ (one, need_put rest need some there)
      ]

  needs_folded : (before all : List Need) → Each P before → Each P all → Each P (fold with_need before all)
  needs_folded before [] some rest = some
  needs_folded before (need ∷ all) some (first, rest) = needs_folded (with_need before need) all (need_put before need some first) rest

  pub needs_each : (lines : List Line) → Each (λ line. IfThere P (need_of line.statement)) lines → Each P (needs lines)
  unfolding needs
  needs_each lines all =
      needs_folded [] (filter_map (λ line. need_of line.statement) lines) tt
      (gathered (λ line. IfThere P (need_of line.statement)) P (λ line. need_of line.statement) (λ line there. there) lines all)
