-- Each alignment is a power of two.
use Rattle.std.proofs.Common.{◌≡◌, ℕ, ◌==◌, ◌∙◌, List, [], ◌∷◌, true, refl, sym, arith, inl, inr}
use Rattle.std.specs.List.{list_any}
use Rattle.std.proofs.lemmas.Bool.{eqb-true, or_cases}
use Rattle.asm_statement.specs.Alignments.{is_alignment, alignments, IsPower}

abbrev pub ArePowers : List ℕ → Type 0
ArePowers [] = Unit {0}
ArePowers (power ∷ powers) = IsPower power × ArePowers powers

found : (powers : List ℕ) (bytes : ℕ) → ArePowers powers → list_any (λ power. power == bytes) powers ≡ true → IsPower bytes
found [] bytes are is = absurd cc
found (power ∷ powers) bytes are is =
    elim (or_cases (power == bytes) (list_any (λ other. other == bytes) powers) is) [
      | inl here ↦ (are.0.0, are.0.1, sym (eqb-true power bytes here) ∙ are.0.2)
      | inr there ↦ found powers bytes are.1 there
    ]

are_powers : ArePowers alignments
are_powers = (
  (0, omega arith, refl),
  (
    (1, omega arith, refl),
    (
      (2, omega arith, refl),
      (
        (3, omega arith, refl),
        (
          (4, omega arith, refl),
          (
            (5, omega arith, refl),
            (
              (6, omega arith, refl),
              (
                (7, omega arith, refl),
                ((8, omega arith, refl), ((9, omega arith, refl), ((10, omega arith, refl), ((11, omega arith, refl), ((12, omega arith, refl), tt))))),
              ),
            ),
          ),
        ),
      ),
    ),
  ),
)

pub power : (bytes : ℕ) → is_alignment bytes ≡ true → IsPower bytes
unfolding is_alignment
power bytes is = found alignments bytes are_powers is
