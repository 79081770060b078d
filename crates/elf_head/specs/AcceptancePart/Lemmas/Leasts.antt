-- The least number that passes a test.
use Rattle.std.proofs.Common.{◌≡◌, ◌∙◌, sym, ℕ, zero, suc, ◌+◌, ◌<◌, ◌≤◌, Bool, true, false, arith, add-one, refl, inl, inr}
use Rattle.std.proofs.Math.Nat.{eq-or-lt_of_le}
use Rattle.std.specs.Prelude.{Option, Some, None, if◌then◌else◌}
use Rattle.std.specs.Option.{option_or}
use Rattle.std.specs.Bool.{Decides}
use Rattle.std.proofs.lemmas.Bool.{true≢false}
use Rattle.elf_head.specs.AcceptancePart.Least.{least_below}
use Rattle.elf_head.specs.AcceptancePart.Lemmas.Finds.{Finds}

-- one number more that fails
pub least_kept : (test : ℕ → Bool) (i : ℕ) → least_below test i ≡ None → test i ≡ false → least_below test (i + 1) ≡ None
least_kept test i none fails = rw (add-one, none, fails)

pub at_most : (i n : ℕ) → i < suc n → i ≤ n
at_most i n within = omega arith

-- the first that passes is the least below each greater number
pub least_found : (test : ℕ → Bool) (i n : ℕ) → least_below test i ≡ None → test i ≡ true → i < n → least_below test n ≡ Some i
least_found test i zero none passes within = absurd (omega arith)
least_found test i (suc n) none passes within =
    elim (eq-or-lt_of_le (at_most i n within)) [ inl same ↦ rw (← same, none, passes) | inr below ↦ rw (least_found test i n none passes below) ]

neither : (first : Option ℕ) (test : Bool) (n : ℕ) → option_or first (if test then Some n else None) ≡ None → (first ≡ None) × (test ≡ false)
neither None true n none = cc
neither None false n none = (refl, refl)
neither (Some k) test n none = cc

-- where none passes, each fails
pub least_none : (test : ℕ → Bool) (n i : ℕ) → least_below test n ≡ None → i < n → test i ≡ false
least_none test zero i none within = absurd (omega arith)
least_none test (suc n) i none within =
    let parts = neither (least_below test n) (test n) n none in
    elim (eq-or-lt_of_le (at_most i n within)) [ inl same ↦ rw same parts.1 | inr below ↦ least_none test n i parts.0 below ]

-- what the least below a number is
pub record IsLeast (test : ℕ → Bool) (n k : ℕ) : Type 0 where
  pub within : k < n
  pub passes : test k ≡ true
  pub before : (j : ℕ) → j < k → test j ≡ false

last_or : (test : ℕ → Bool) (n k : ℕ) (first : Option ℕ) (here : Bool) → ((i : ℕ) → least_below test n ≡ Some i → IsLeast test n i)
    → least_below test n ≡ first → test n ≡ here → option_or first (if here then Some n else None) ≡ Some k → IsLeast test (suc n) k
last_or test n k None true below none passes found =
    let same : n ≡ k = cc in
    record { within = omega arith; passes = rw (← same) passes; before = λ j less. least_none test n j none (omega arith) }
last_or test n k None false below none fails found = cc
last_or test n k (Some i) here below first passes found =
    let same : i ≡ k = cc in
    let least = below i first in
    let within = least.within in
    record { within = omega arith; passes = rw (← same) least.passes; before = λ j less. least.before j (omega arith) }

pub least_at : (test : ℕ → Bool) (n k : ℕ) → least_below test n ≡ Some k → IsLeast test n k
least_at test zero k found = cc
least_at test (suc n) k found = last_or test n k (least_below test n) (test n) (least_at test n) refl refl found

-- the least below n is the first that is bad, where all that are bad are below n
pub finds_least : (test : ℕ → Bool) (Bad : ℕ → Type 0) (n : ℕ) → ((k : ℕ) → Decides (test k) (Bad k)) → ((k : ℕ) → Bad k → k < n) → Finds Bad (least_below test n)
finds_least test Bad n each within = by (least_below test n) refl
  where
    by : (o : Option ℕ) → least_below test n ≡ o → Finds Bad o
    by None none = λ k bad. absurd (true≢false (sym ((each k).1 bad) ∙ least_none test n k none (within k bad)))
    by (Some k) found =
        let least = least_at test n k found in
        record { bad = (each k).0 least.passes; before = λ j below bad. absurd (true≢false (sym ((each j).1 bad) ∙ least.before j below)) }
