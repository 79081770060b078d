-- Lists that are no longer than those that they are made from.
use Rattle.std.proofs.Common.{◌≤◌, Bool, true, false, if◌then◌else◌, List, [], ◌∷◌, ◌++◌, length, filter_map, arith}
use Rattle.std.specs.Prelude.{Option, Some, None}
use Rattle.std.specs.List.{cons_option, list_any}
use Rattle.asm_statement.specs.declared.directive.Array.{Array}
use Rattle.asm_statement.specs.declared.line.Line.{Line}
use Rattle.asm_layout.specs.Tables.{entries, entry_in}
use Rattle.asm_layout.specs.Uses.{distinct, distinct_after, got_use, got_uses, same_use}

pub distinct_fewer : {A : Type 0} (same : A → A → Bool) (seen xs : List A) → length (distinct_after same seen xs) ≤ length xs
distinct_fewer same seen [] = omega arith
distinct_fewer same seen (x ∷ xs) =
    let without = distinct_fewer same seen xs in
    let with_it = distinct_fewer same (seen ++ x ∷ []) xs in
    let more = x ∷ distinct_after same (seen ++ x ∷ []) xs in
    elim (list_any (same x) seen) as (λ there. length (if there then distinct_after same seen xs else more) ≤ length (x ∷ xs)) [
      | true ↦ omega (arith, without)
      | false ↦ omega (arith, with_it)
    ]

pub some_fewer : {A B : Type 0} (f : A → Option B) (xs : List A) → length (filter_map f xs) ≤ length xs
some_fewer f [] = omega arith
some_fewer f (x ∷ xs) =
    let rest = some_fewer f xs in
    elim (f x) as (λ found. length (cons_option found (filter_map f xs)) ≤ length (x ∷ xs)) [
      | None ↦ omega (arith, rest)
      | Some y ↦ omega (arith, rest)
    ]

pub once_fewer : {A : Type 0} (same : A → A → Bool) (xs : List A) → length (distinct same xs) ≤ length xs
unfolding distinct
once_fewer same xs = distinct_fewer same [] xs

pub once_of : {X A : Type 0} (same : A → A → Bool) (f : X → Option A) (xs : List X) → length (distinct same (filter_map f xs)) ≤ length xs
once_of same f xs =
    let one = once_fewer same (filter_map f xs) in
    let other = some_fewer f xs in
    omega (arith, one, other)

pub uses_few : (lines : List Line) → length (got_uses lines) ≤ length lines
unfolding got_uses
uses_few lines = once_of same_use (λ line. got_use line.statement) lines

pub entries_few : (array : Array) (lines : List Line) → length (entries array lines) ≤ length lines
unfolding entries
entries_few array lines = some_fewer (λ line. entry_in array line.statement) lines
