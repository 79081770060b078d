-- The first broken rule, rule by rule.
use Rattle.std.proofs.Common.{◌≡◌, ◌↔◌, ◌∙◌, ℕ, zero, suc, ◌+◌, ◌<◌, Bool, true, false, List, [], ◌∷◌, ◌++◌, length, refl, ap, sym, subst, arith, add-zero}
use Rattle.std.specs.Prelude.{Option, None, Some, Ok, Err}
use Rattle.std.specs.List.{slice_get}
use Rattle.std.specs.Option.{option_map, option_or, option_map_or}
use Rattle.ld_base.specs.declared.fault.NotAccepted.{NotAccepted}
use Rattle.elf_head.specs.AcceptancePart.Broken.{broken_if, first_broken}
use Rattle.elf_head.specs.AcceptancePart.First.{IsFirstBroken, NoneBroken}

-- rules and more rules: the first of those, or else of these
pub first_of_both : (rule : ℕ) (xs ys : List (Option ℕ)) → first_broken rule (xs ++ ys) ≡ option_or (first_broken rule xs) (first_broken (rule + length xs) ys)
first_of_both rule [] ys = rw add-zero refl
first_of_both rule (None ∷ xs) ys = first_of_both (suc rule) xs ys ∙ ap (λ n. option_or (first_broken (suc rule) xs) (first_broken n ys)) (omega arith)
first_of_both rule (Some number ∷ xs) ys = refl

-- where no rule is broken, none has a number
pub none_at : (rule : ℕ) (numbers : List (Option ℕ)) (i number : ℕ) → first_broken rule numbers ≡ None → slice_get numbers i ≡ Some (Some number) → ⊥
none_at rule [] i number none found = cc
none_at rule (None ∷ numbers) zero number none found = cc
none_at rule (None ∷ numbers) (suc i) number none found = none_at (suc rule) numbers i number none found
none_at rule (Some k ∷ numbers) i number none found = cc

none_before : (numbers : List (Option ℕ)) (i j number : ℕ) → ((k other : ℕ) → k < i → slice_get numbers k ≡ Some (Some other) → ⊥) → j < suc i → slice_get (None ∷ numbers) j ≡ Some (Some number) → ⊥
none_before numbers i zero number before below found = cc
none_before numbers i (suc j) number before below found = before j number (omega arith) found

abbrev rule_of : Option NotAccepted → ℕ
rule_of None = 0
rule_of (Some fault) = fault.rule

abbrev number_of : NotAccepted → ℕ
number_of fault = fault.number

-- the first rule that is broken has its number, and none before it has one
pub first_at : (rule : ℕ) (numbers : List (Option ℕ)) (fault : NotAccepted) → first_broken rule numbers ≡ Some fault
    → (i : ℕ) × (fault.rule ≡ rule + i) × (slice_get numbers i ≡ Some (Some fault.number)) × ((j number : ℕ) → j < i → slice_get numbers j ≡ Some (Some number) → ⊥)
first_at rule [] fault broken = cc
first_at rule (None ∷ numbers) fault broken =
    let rest = first_at (suc rule) numbers fault broken in
    (suc rest.0, omega (arith, rest.1), rest.2, λ j number below. none_before numbers rest.0 j number rest.3 below)
first_at rule (Some number ∷ numbers) fault broken =
    (0, rw add-zero (ap rule_of (sym broken)), ap (λ o. Some (option_map number_of o)) broken, λ j n below. absurd (omega arith))

-- a rule that has a number, and before which none has one, is the first that is broken
pub is_first : (rule : ℕ) (numbers : List (Option ℕ)) (i number : ℕ) → slice_get numbers i ≡ Some (Some number) → ((j other : ℕ) → j < i → slice_get numbers j ≡ Some (Some other) → ⊥)
    → first_broken rule numbers ≡ Some (record { rule = rule + i; number = number })
is_first rule [] i number found before = cc
is_first rule (None ∷ numbers) zero number found before = cc
is_first rule (None ∷ numbers) (suc i) number found before =
    is_first (suc rule) numbers i number found (λ j other below. before (suc j) other (omega arith)) ∙ ap (λ n. Some (record { rule = n; number = number })) (omega arith)
is_first rule (Some k ∷ numbers) zero number found before = rw add-zero (ap (λ n. Some (record { rule = rule; number = n })) (cc))
is_first rule (Some k ∷ numbers) (suc i) number found before = absurd (before 0 k (omega arith) refl)

-- where no rule is broken, the test of each is false
pub test_kept : (rule : ℕ) (numbers : List (Option ℕ)) (i : ℕ) (test : Bool) → first_broken rule numbers ≡ None → slice_get numbers i ≡ Some (broken_if test) → test ≡ false
test_kept rule numbers i true none found = absurd (none_at rule numbers i 0 none found)
test_kept rule numbers i false none found = refl

-- a verdict of two ways
pub verdict_ok_is : {X : Type 0} (broken : Option NotAccepted) (meant x : X) → option_map_or Err broken (Ok meant) ≡ Ok x → (broken ≡ None) × (x ≡ meant)
verdict_ok_is None meant x e = (refl, cc)
verdict_ok_is (Some fault) meant x e = absurd cc

pub verdict_err_is : {X : Type 0} (broken : Option NotAccepted) (meant : X) (fault : NotAccepted) → option_map_or Err broken (Ok meant) ≡ Err fault → broken ≡ Some fault
verdict_err_is None meant fault e = absurd cc
verdict_err_is (Some other) meant fault e = cc

-- ---- the first of a list of rules is the least that is broken, where the list has the numbers of just those that are

-- a rule that is broken has its number in the list
abbrev pub Listed : ℕ → List (Option ℕ) → (ℕ → ℕ → Type 0) → Type 0
Listed first numbers Breaks = (rule number : ℕ) → Breaks rule number → (i : ℕ) × (rule ≡ first + i) × (slice_get numbers i ≡ Some (Some number))

-- a number in the list is of a rule that is broken
abbrev pub Breaking : ℕ → List (Option ℕ) → (ℕ → ℕ → Type 0) → Type 0
Breaking first numbers Breaks = (i number : ℕ) → slice_get numbers i ≡ Some (Some number) → Breaks (first + i) number

module _ (first : ℕ) (numbers : List (Option ℕ)) (Breaks : ℕ → ℕ → Type 0) (listed : Listed first numbers Breaks) (breaking : Breaking first numbers Breaks) where
  pub none_broken : first_broken first numbers ≡ None → NoneBroken Breaks
  none_broken none rule number broken = let at = listed rule number broken in none_at first numbers at.0 number none at.2

  pub first_is : (fault : NotAccepted) → first_broken first numbers ≡ Some fault → IsFirstBroken Breaks fault
  first_is fault found =
      let at = first_at first numbers fault found in
      record {
        broken = subst (λ n. Breaks n fault.number) (sym at.1) (breaking at.0 fault.number at.2);
        kept = λ rule number below broken. (let place = listed rule number broken in at.3 place.0 number (omega (arith, place.1, at.1)) place.2);
      }

  pub is_first_of : (fault : NotAccepted) → IsFirstBroken Breaks fault → first_broken first numbers ≡ Some fault
  is_first_of fault is =
      let at = listed fault.rule fault.number is.broken in
      is_first first numbers at.0 fault.number at.2 (λ j other below found. is.kept (first + j) other (omega (arith, at.1)) (breaking j other found))
      ∙ ap (λ n. Some (record { rule = n; number = fault.number })) (sym at.1)

  pub none_is : NoneBroken Breaks → first_broken first numbers ≡ None
  none_is kept = by_found (first_broken first numbers) refl
    where
      by_found : (found : Option NotAccepted) → first_broken first numbers ≡ found → first_broken first numbers ≡ None
      by_found None e = e
      by_found (Some fault) e = absurd (kept fault.rule fault.number (first_is fault e).broken)

  module _ {X : Type 0} (meant : X) where
    -- the verdict is a value exactly where no rule is broken, and it is that value alone
    pub accepts : (x : X) → (option_map_or Err (first_broken first numbers) (Ok meant) ≡ Ok x) ↔ (NoneBroken Breaks × (x ≡ meant))
    accepts x = (
      λ e. (let ok = verdict_ok_is (first_broken first numbers) meant x e in (none_broken ok.0, ok.1)),
      λ (kept, same). rw (none_is kept, same) refl,
    )

    -- it is a fault exactly where that is the least rule that is broken
    pub refuses : (fault : NotAccepted) → (option_map_or Err (first_broken first numbers) (Ok meant) ≡ Err fault) ↔ IsFirstBroken Breaks fault
    refuses fault = (λ e. first_is fault (verdict_err_is (first_broken first numbers) meant fault e), λ is. rw (is_first_of fault is) refl)
