-- Elements that are changed one after another, but for what a function reads of them.
use Rattle.std.proofs.Common.{◌≡◌, ℕ, zero, suc, ◌+◌, ◌<◌, List, [], ◌∷◌, ◌++◌, append_assoc, Result, Ok, Err, IfErr, OnErr, map, length, get_or, sym, ap, ◌∙◌, arith}
use Rattle.std.specs.List.{Contains, range_with_len}
use Rattle.std.specs.Result.{IsErrAnd}
use Rattle.std.proofs.lemmas.List.FromFn.{map-range_with_len_more}
use Rattle.std.proofs.lemmas.List.{get_or_default, length-map}
use Rattle.std.proofs.Math.ListN.{set}
use Rattle.std.proofs.Math.Seq.{map-set_same}

module _ {X Y : Type 0} (f : X → Y) where
  -- lists that it reads alike are alike at each place
  pub same_at : (xs ys : List X) (i : ℕ) (d : X) → map f xs ≡ map f ys → i < length xs → f (get_or xs i d) ≡ f (get_or ys i d)
  same_at [] ys i d same lt = absurd (omega (arith, lt))
  same_at (x ∷ xs) [] i d same lt = absurd (let e : length (map f (x ∷ xs)) ≡ length (map f []) = ap length same in omega (arith, e))
  same_at (x ∷ xs) (y ∷ ys) zero d same lt = let e : f x ≡ f y = cc in e
  same_at (x ∷ xs) (y ∷ ys) (suc i) d same lt = let e : map f xs ≡ map f ys = cc in same_at xs ys i d e (omega (arith, lt))

  pub same_length : (xs ys : List X) → map f xs ≡ map f ys → length xs ≡ length ys
  same_length xs ys same = sym (length-map xs f) ∙ ap length same ∙ length-map ys f

  -- the place of an element that it reads alike
  pub set_alike : (xs ys : List X) (i : ℕ) (y d : X) → f y ≡ f (get_or xs i d) → map f xs ≡ map f ys → map f (set xs i y) ≡ map f ys
  set_alike xs ys i y d alike same = map-set_same f xs i y d alike ∙ same

  -- and it is one of the other list's
  pub same_in : (xs ys : List X) (i : ℕ) (d e : X) → map f xs ≡ map f ys → i < length xs → e ≡ get_or xs i d → (x : X) × Contains ys x × (f e ≡ f x)
  same_in xs ys i d e same lt is =
      let len = same_length xs ys same in
      let below : i < length ys = omega (arith, lt, len) in
      (get_or ys i d, (i, below, get_or_default ys i (get_or ys i d) d below), ap f is ∙ same_at xs ys i d same lt)

-- what holds of every error holds of a result's
pub on_err : {X E : Type 0} (r : Result X E) (P : Type 0) → P → OnErr r P
on_err (Ok x) P p = tt
on_err (Err e) P p = p

pub if_err : {X E : Type 0} (r : Result X E) (Q R : E → Type 0) → IsErrAnd r Q → ((e : E) → Q e → R e) → IfErr r R
if_err (Ok x) Q R is every = tt
if_err (Err e) Q R is every = every e is

-- one element more of those that numbers give
pub pushed_more : {X : Type 0} (f : ℕ → X) (before now new : List X) (n : ℕ) (x : X) → now ≡ before ++ map f (range_with_len 0 n) → x ≡ f n → new ≡ now ++ x ∷ []
    → new ≡ before ++ map f (range_with_len 0 (n + 1))
pushed_more {X} f before now new n x so_far is pushed =
    pushed ∙ ap (λ (ys : List X). ys ++ x ∷ []) so_far ∙ append_assoc before (map f (range_with_len 0 n)) (x ∷ [])
    ∙ ap (λ (y : X). before ++ (map f (range_with_len 0 n) ++ y ∷ [])) is
    ∙ ap (λ (ys : List X). before ++ ys) (sym (map-range_with_len_more f 0 n n (omega arith)))
