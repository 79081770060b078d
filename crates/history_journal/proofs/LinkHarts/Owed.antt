-- How many ends are left at the start.
use Rattle.std.proofs.Common.{◌≡◌, ⊎_elim, ℕ, zero, suc, ◌+◌, ◌-◌, ◌≤◌, Bool, true, false, cond, eqb, [], refl, ap, arith}
use Rattle.std.specs.List.{range_with_len, sum_by}
use Rattle.std.proofs.lemmas.Bool.{cases_Bool, eqb-true}
use Rattle.std.proofs.lemmas.List.Sums.{sum_by-cons}
use Rattle.history_state.specs.Owed.{ends_at_most, ends_left, times_ended}

ones : (f : ℕ → ℕ) (a n : ℕ) → ((k : ℕ) → a ≤ k → f k ≡ 1) → sum_by f (range_with_len a n) ≡ n
ones f a zero each = refl
ones f a (suc n) each =
    let rest : sum_by f (range_with_len (a + 1) n) ≡ n = ones f (a + 1) n (λ k le. each k (omega arith)) in
    omega (arith, rest, each a (omega arith), sum_by-cons f a (range_with_len (a + 1) n))

-- each hart ends, and hart 0 twice
pub left_first : (harts : ℕ) → 1 ≤ harts → ends_left harts [] ≡ harts + 1
left_first zero some = absurd (omega (arith, some))
left_first (suc n) some =
    let rest : sum_by (λ hart. ends_at_most hart - times_ended hart []) (range_with_len 1 n) ≡ n = ones (λ hart. ends_at_most hart - times_ended hart []) 1 n one in
    omega (arith, rest, sum_by-cons (λ hart. ends_at_most hart - times_ended hart []) 0 (range_with_len 1 n))
  where
    one : (k : ℕ) → 1 ≤ k → ends_at_most k - times_ended k [] ≡ 1
    one k le = ⊎_elim
        (λ (is : eqb k 0 ≡ true). absurd (omega (arith, le, eqb-true k 0 is)))
        (λ (isnt : eqb k 0 ≡ false). ap (λ (b : Bool). cond b 2 1 - 0) isnt)
        (cases_Bool (eqb k 0))
