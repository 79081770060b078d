-- Numbers with a star between.
use Rattle.std.proofs.Common.{◌≡◌, ◌⊎◌, inl, inr, ⊎_elim, ℕ, ◌^◌, ◌<◌, ◌≤◌, ◌==◌, false, List, [], ◌∷◌, ◌++◌, length, get_or, map, Option, Some, None, IfSome, Bor, codes, refl, sym, ap, subst, ◌∙◌, arith, append_assoc}
use Rattle.std.proofs.lemmas.Bool.{ne_eqb}
use Rattle.std.proofs.lemmas.Fmt.{decimal_is_IsNumeral}
use Rattle.std.proofs.lemmas.List.Elements.{All-nil, All-cons}
use Rattle.std.proofs.lemmas.List.Splits.{slice_split_none, slice_split_at, join_with_byte-slice_split}
use Rattle.std.specs.Char.{digit_value}
use Rattle.std.specs.Fmt.{decimal}
use Rattle.std.specs.List.{All, slice_split, join_with_byte}
use Rattle.std.specs.Option.{option_map, option_zip}
use Rattle.std.specs.Str.Parse.{AllDigits}
use Rattle.cli_read.specs.ScheduleRead.Items.{Writes}

abbrev pub by_star : List ℕ → List (List ℕ)
by_star text = slice_split (λ b. b == 42) text

no_star : (ds : List ℕ) → AllDigits 10 ds → All (λ b. (b == 42) ≡ false) ds
no_star [] d = All-nil (λ b. (b == 42) ≡ false)
no_star (c ∷ cs) d =
    let differs : c ≡ 42 → ⊥ = λ e. let small : digit_value 42 < 10 = subst (λ b. digit_value b < 10) e d.0 in omega (arith, small) in
    All-cons (λ b. (b == 42) ≡ false) c cs (ne_eqb c 42 differs) (no_star cs d.1)

decimal_free : (n : ℕ) → n < 2 ^ 64 → All (λ b. (b == 42) ≡ false) (decimal n)
decimal_free n h = no_star (decimal n) (decimal_is_IsNumeral n h).0.1

-- the parts of what is written

starred : (h c : ℕ) → decimal h ++ codes "*" ++ decimal c ≡ decimal h ++ (42 ∷ decimal c)
starred h c = append_assoc (decimal h) (codes "*") (decimal c)

abbrev Parts : List ℕ → ℕ → ℕ → Type 0
Parts text h c = (by_star text ≡ decimal h ∷ decimal c ∷ []) ⊎ ((by_star text ≡ decimal h ∷ []) × (c ≡ 1))

parts : (text : List ℕ) (h c : ℕ) → h < 2 ^ 64 → c < 2 ^ 64 → Writes text h c → Parts text h c
parts text h c below_h below_c (inl both) = inl (
    ap by_star (both ∙ starred h c)
    ∙ slice_split_at (λ b. b == 42) (decimal h) 42 (decimal c) (decimal_free h below_h) refl
    ∙ ap (λ (rest : List (List ℕ)). decimal h ∷ rest) (slice_split_none (λ b. b == 42) (decimal c) (decimal_free c below_c)))
parts text h c below_h below_c (inr one) = inr (
  ap by_star one.0 ∙ slice_split_none (λ b. b == 42) (decimal h) (decimal_free h below_h),
  one.1,
)

-- a number, as it is read

pub record IsNumber (text : List ℕ) (number : Option ℕ) : Type 0 where
  pub is : IfSome number (λ n. text ≡ decimal n)
  pub every : (n : ℕ) → n < 2 ^ 64 → text ≡ decimal n → number ≡ Some n

pub record AreNumbers (text : List ℕ) (numbers : Option (ℕ × ℕ)) : Type 0 where
  pub written : IfSome numbers (λ p. Writes text p.0 p.1)
  pub every : (h c : ℕ) → h < 2 ^ 64 → c < 2 ^ 64 → Writes text h c → numbers ≡ Some (h, c)

abbrev first : List (List ℕ) → List ℕ
first l = get_or l 0 []

abbrev second : List (List ℕ) → List ℕ
second l = get_or l 1 []

pub alone : (text part : List ℕ) (number : Option ℕ) → by_star text ≡ part ∷ [] → IsNumber part number → AreNumbers text (option_map (λ n. (n, 1)) number)
alone text part number split x = record {
  written = written number x.is;
  every = λ h c below_h below_c writes. ⊎_elim
      (λ (two : by_star text ≡ decimal h ∷ decimal c ∷ []). absurd (let lengths : 1 ≡ 2 = ap (λ (l : List (List ℕ)). length l) (sym split ∙ two) in omega (arith, lengths)))
      (λ (one : (by_star text ≡ decimal h ∷ []) × (c ≡ 1)).
      let is : number ≡ Some h = x.every h below_h (ap first (sym split ∙ one.0)) in
      ap (option_map (λ n. (n, 1))) is ∙ ap (λ n. Some (h, n)) (sym one.1))
      (parts text h c below_h below_c writes);
}
  where
    whole : text ≡ part
    whole = sym (join_with_byte-slice_split 42 text) ∙ ap (join_with_byte 42) split

    written : (number : Option ℕ) → IfSome number (λ n. part ≡ decimal n) → IfSome {T = ℕ × ℕ} (option_map (λ n. (n, 1)) number) (λ p. Writes text p.0 p.1)
    written None is = tt
    written (Some n) is = inr (whole ∙ is, refl)

pub pair : (text one two : List ℕ) (hart count : Option ℕ) → by_star text ≡ one ∷ two ∷ [] → IsNumber one hart → IsNumber two count → AreNumbers text (option_zip hart count)
pair text one two hart count split x y = record {
  written = written hart count x.is y.is;
  every = λ h c below_h below_c writes. ⊎_elim
      (λ (both : by_star text ≡ decimal h ∷ decimal c ∷ []).
      let is_hart : hart ≡ Some h = x.every h below_h (ap first (sym split ∙ both)) in
      let is_count : count ≡ Some c = y.every c below_c (ap second (sym split ∙ both)) in
      (λ i. option_zip (is_hart i) (is_count i)))
      (λ (alone : (by_star text ≡ decimal h ∷ []) × (c ≡ 1)). absurd (let lengths : 2 ≡ 1 = ap (λ (l : List (List ℕ)). length l) (sym split ∙ alone.0) in omega (arith, lengths)))
      (parts text h c below_h below_c writes);
}
  where
    whole : text ≡ one ++ 42 ∷ two
    whole = sym (join_with_byte-slice_split 42 text) ∙ ap (join_with_byte 42) split

    written : (hart count : Option ℕ) → IfSome hart (λ n. one ≡ decimal n) → IfSome count (λ n. two ≡ decimal n)
        → IfSome (option_zip hart count) (λ p. Writes text p.0 p.1)
    written None count is_hart is_count = tt
    written (Some h) None is_hart is_count = tt
    written (Some h) (Some c) is_hart is_count = inl (whole ∙ (λ i. is_hart i ++ 42 ∷ is_count i) ∙ sym (starred h c))

pub neither : (text : List ℕ) → (length (by_star text) ≡ 1 → ⊥) → (length (by_star text) ≡ 2 → ⊥) → AreNumbers text None
neither text not_one not_two = record {
  written = tt;
  every = λ h c below_h below_c writes. ⊎_elim
      (λ (both : by_star text ≡ decimal h ∷ decimal c ∷ []). absurd (not_two (ap (λ (l : List (List ℕ)). length l) both)))
      (λ (alone : (by_star text ≡ decimal h ∷ []) × (c ≡ 1)). absurd (not_one (ap (λ (l : List (List ℕ)). length l) alone.0)))
      (parts text h c below_h below_c writes);
}

-- the parts as they are lent

abbrev Lent : Type 0
Lent = Bor (List ℕ)

pub one_part : (ps : List Lent) (d : Lent) → 1 ≤ length ps → length ps < 2 → map (λ p. p.now) ps ≡ (get_or ps 0 d).now ∷ []
one_part [] d some few = absurd (omega (arith, some))
one_part (p ∷ []) d some few = refl
one_part (p ∷ q ∷ ps) d some few = absurd (omega (arith, few))

pub two_parts : (ps : List Lent) (d : Lent) → 2 ≤ length ps → length ps < 3 → map (λ p. p.now) ps ≡ (get_or ps 0 d).now ∷ (get_or ps 1 d).now ∷ []
two_parts [] d some few = absurd (omega (arith, some))
two_parts (p ∷ []) d some few = absurd (omega (arith, some))
two_parts (p ∷ q ∷ []) d some few = refl
two_parts (p ∷ q ∷ r ∷ ps) d some few = absurd (omega (arith, few))
