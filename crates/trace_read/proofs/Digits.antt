-- Digits are read back.
use Rattle.std.proofs.Common.{◌≡◌, ◌≢◌, ℕ, zero, suc, ◌+◌, ◌-◌, ◌*◌, ◌/◌, ◌%◌, ◌^◌, ◌<◌, ◌≤◌, Bool}
use Rattle.std.proofs.Common.{true, false, ◌||◌, ◌==◌, nat_lt, List, [], ◌∷◌, ◌++◌, length}
use Rattle.std.proofs.Common.{Some}
use Rattle.std.proofs.Common.{refl, sym, ap, ◌∙◌, subst, arith, append_assoc, append-nil, inl, inr, div-lt_iff_lt-mul, pow-suc, one-mul}
use native.Mathlib.Nat.{pow-zero}
use Rattle.std.proofs.lemmas.Bool.{and_parts, and_from, eqb-false, eq-eqb, ne_eqb, cases_Bool, cases_lt, lt-ltb, le-ltb, ltb-true}
use Rattle.std.proofs.lemmas.Bool.{leb-true, le-leb, lt-leb, or_left, or_right, true≢false}
use Rattle.std.proofs.lemmas.Option.{none-some, same_Some, cond_some}
use Rattle.std.specs.Fmt.{digits, digits_onto, digit_glyph}
use Rattle.std.specs.Int.{is_in_range}
use Rattle.trace_read.specs.Numbers.{below, digit_value, digit, continued, numeral}
use Rattle.trace_read.specs.Pieces.{◌>>=◌}
use Rattle.trace_read.proofs.Parts.{Reads, bound, free, free-append, if_true, if_false}

pub below-there : (limit n : ℕ) → n < limit → below limit n ≡ Some n
below-there limit n h = rw (lt-ltb n limit h) refl

pub below-back : (limit n m : ℕ) → below limit n ≡ Some m → (n ≡ m) × (n < limit)
below-back limit n m e = let p = cond_some (nat_lt n limit) n m e in (p.1, ltb-true n limit p.0)

-- one digit

glyph_decimal : (d : ℕ) → d < 10 → digit_glyph false d ≡ 48 + d
glyph_decimal d h = rw (lt-ltb d 10 h) refl

glyph_letter : (d : ℕ) → 10 ≤ d → digit_glyph false d ≡ 87 + d
glyph_letter d h = rw (le-ltb d 10 h) refl

value_decimal : (c : ℕ) → 48 ≤ c → c ≤ 57 → digit_value c ≡ Some (c - 48)
value_decimal c low high = rw (le-leb 48 c low, le-leb c 57 high) refl

value_letter : (c : ℕ) → 97 ≤ c → c ≤ 102 → digit_value c ≡ Some (c - 87)
value_letter c low high = rw (le-leb 48 c (omega arith), lt-leb c 57 (omega arith), le-leb 97 c low, le-leb c 102 high) refl

value_glyph : (d : ℕ) → d < 16 → digit_value (digit_glyph false d) ≡ Some d
value_glyph d h = elim (cases_lt d 10) [
  | inl less ↦ ap digit_value (glyph_decimal d less) ∙ value_decimal (48 + d) (omega arith) (omega arith)
      ∙ ap (λ n. Some n) {x = 48 + d - 48} {y = d} (omega arith)
  | inr more ↦ ap digit_value (glyph_letter d more) ∙ value_letter (87 + d) (omega arith) (omega arith)
      ∙ ap (λ n. Some n) {x = 87 + d - 87} {y = d} (omega arith)
]

glyph_value : (c d : ℕ) → digit_value c ≡ Some d → (c ≡ digit_glyph false d) × (d < 16)
glyph_value c d e = by (is_in_range 48 57 c) (is_in_range 97 102 c) refl refl
  where
    by : (a b : Bool) → is_in_range 48 57 c ≡ a → is_in_range 97 102 c ≡ b → (c ≡ digit_glyph false d) × (d < 16)
    by true b ea eb =
        let parts = and_parts _ _ ea in
        let low = leb-true 48 c parts.0 in
        let high = leb-true c 57 parts.1 in
        let same : c - 48 ≡ d = same_Some _ _ (sym (value_decimal c low high) ∙ e) in
        (omega arith ∙ sym (glyph_decimal d (omega arith)), omega arith)
    by false true ea eb =
        let parts = and_parts _ _ eb in
        let low = leb-true 97 c parts.0 in
        let high = leb-true c 102 parts.1 in
        let same : c - 87 ≡ d = same_Some _ _ (sym (value_letter c low high) ∙ e) in
        (omega arith ∙ sym (glyph_letter d (omega arith)), omega arith)
    by false false ea eb = absurd (none-some d (if_false _ _ _ eb (if_false _ _ _ ea e)))

pub digit-there : (base d : ℕ) → base ≤ 16 → d < base → digit base (digit_glyph false d) ≡ Some d
unfolding digit
digit-there base d high h = rw (value_glyph d (omega arith)) (below-there base d h)

pub digit-back : (base c d : ℕ) → digit base c ≡ Some d → (c ≡ digit_glyph false d) × (d < base)
unfolding digit
digit-back base c d e = bound (digit_value c) (below base) d e (λ v ev ed.
    let it = below-back base v d ed in
    let at = glyph_value c v ev in
    (at.0 ∙ ap (digit_glyph false) it.0, omega (arith, it)))

-- a byte that is no digit
abbrev pub is_digit_byte : ℕ → Bool
is_digit_byte c = is_in_range 48 57 c || is_in_range 97 102 c

pub glyph_free : (mark d : ℕ) → d < 16 → is_digit_byte mark ≡ false → digit_glyph false d ≡ mark → ⊥
glyph_free mark d h off same = elim (cases_lt d 10) [
  | inl less ↦ let is : mark ≡ 48 + d = sym same ∙ glyph_decimal d less in
      true≢false (sym (or_left _ _ (and_from _ _ (le-leb 48 mark (omega arith)) (le-leb mark 57 (omega arith)))) ∙ off)
  | inr more ↦ let is : mark ≡ 87 + d = sym same ∙ glyph_letter d more in
      true≢false (sym (or_right _ _ (and_from _ _ (le-leb 97 mark (omega arith)) (le-leb mark 102 (omega arith)))) ∙ off)
]

-- what is used of a base
pub record IsBase (base : ℕ) : Type 0 where
  pub high : base ≤ 16
  pub some : 0 < base
  pub small : (n : ℕ) → n < base → (n / base ≡ 0) × (n % base ≡ n)
  pub front : (v d : ℕ) → d < base → (v * base + d) / base ≡ v
  pub last : (v d : ℕ) → d < base → (v * base + d) % base ≡ d
  pub more : (v d : ℕ) → 0 < v → base ≤ v * base + d
  pub whole : (n : ℕ) → n / base * base + n % base ≡ n
  pub rest : (n : ℕ) → n % base < base
  pub less : (n : ℕ) → base ≤ n → n / base < n
  pub left : (n : ℕ) → base ≤ n → 0 < n / base
  pub wide : (n : ℕ) → n < 2 ^ 64 → n < base ^ 63

pub ten : IsBase 10
ten = record {
  high = omega arith;
  some = omega arith;
  small = λ n h. (omega arith, omega arith);
  front = λ v d h. omega arith;
  last = λ v d h. omega arith;
  more = λ v d h. omega arith;
  whole = λ n. omega arith;
  rest = λ n. omega arith;
  less = λ n h. omega arith;
  left = λ n h. omega arith;
  wide = λ n h. omega arith;
}

pub sixteen : IsBase 16
sixteen = record {
  high = omega arith;
  some = omega arith;
  small = λ n h. (omega arith, omega arith);
  front = λ v d h. omega arith;
  last = λ v d h. omega arith;
  more = λ v d h. omega arith;
  whole = λ n. omega arith;
  rest = λ n. omega arith;
  less = λ n h. omega arith;
  left = λ n h. omega arith;
  wide = λ n h. omega arith;
}

module _ (base : ℕ) (is : IsBase base) where
  onto_append : (k n : ℕ) (acc : List ℕ) → digits_onto k base false n acc ≡ digits_onto k base false n [] ++ acc
  onto_append zero n acc = refl
  onto_append (suc k) n acc = elim (cases_Bool (n / base == 0)) [
    | inl t ↦ rw t refl
    | inr f ↦ rw f (onto_append k (n / base) (digit_glyph false (n % base) ∷ acc) ∙ sym
        (ap (λ x. x ++ acc) (onto_append k (n / base) (digit_glyph false (n % base) ∷ [])) ∙ append_assoc _
        (digit_glyph false (n % base) ∷ []) acc))
  ]

  -- one turn more changes nothing
  onto_longer : (k n : ℕ) (acc : List ℕ) → n < base ^ suc k → digits_onto (suc (suc k)) base false n acc ≡ digits_onto (suc k) base false n acc
  onto_longer zero n acc h =
      let whole : base ^ 0 * base ≡ base = ap (λ x. x * base) (pow-zero base) ∙ one-mul base in
      let none : n / base ≡ 0 = (is.small n (omega (arith, pow-suc base 0, whole))).0 in
      rw (eq-eqb (n / base) 0 none) refl
  onto_longer (suc k) n acc h = elim (cases_Bool (n / base == 0)) [
    | inl t ↦ rw t refl
    | inr f ↦ rw f (onto_longer k (n / base) (digit_glyph false (n % base) ∷ acc) ((div-lt_iff_lt-mul is.some).1 (omega (arith, pow-suc base (suc k)))))
  ]

  onto_one : (k n : ℕ) → n < base → digits_onto (suc k) base false n [] ≡ digit_glyph false n ∷ []
  onto_one k n h = let s = is.small n h in rw (eq-eqb (n / base) 0 s.0, s.1) refl

  onto_step : (k n : ℕ) → base ≤ n → n / base < base ^ suc k
      → digits_onto (suc (suc k)) base false n [] ≡ digits_onto (suc (suc k)) base false (n / base) [] ++ digit_glyph false (n % base) ∷ []
  onto_step k n h fits =
      rw (ne_eqb (n / base) 0 (λ e. omega (arith, is.left n h)))
      (onto_append (suc k) (n / base) (digit_glyph false (n % base) ∷ []) ∙ sym
      (ap (λ x. x ++ digit_glyph false (n % base) ∷ []) (onto_longer k (n / base) [] fits)))

  pub digits_one : (n : ℕ) → n < base → digits base false n ≡ digit_glyph false n ∷ []
  unfolding digits
  digits_one n h = onto_one 63 n h

  pub digits_step : (n : ℕ) → base ≤ n → n < 2 ^ 64 → digits base false n ≡ digits base false (n / base) ++ digit_glyph false (n % base) ∷ []
  unfolding digits
  digits_step n h fits = onto_step 62 n h (is.wide (n / base) (omega (arith, is.less n h)))

  module _ (P : ℕ → List ℕ → Type 0) (one : (n : ℕ) → n < base → P n (digit_glyph false n ∷ []))
      (next : (n : ℕ) (ds : List ℕ) → base ≤ n → n < 2 ^ 64 → P (n / base) ds → P n (ds ++ digit_glyph false (n % base) ∷ [])) where
    up : (k n : ℕ) → n < k → n < 2 ^ 64 → P n (digits base false n)
    up zero n h fits = absurd (omega arith)
    up (suc k) n h fits = elim (cases_lt n base) [
      | inl less ↦ subst (P n) (sym (digits_one n less)) (one n less)
      | inr more ↦ let down = is.less n more in
          subst (P n) (sym (digits_step n more fits)) (next n (digits base false (n / base)) more fits (up k (n / base) (omega arith) (omega arith)))
    ]

    pub by_digits : (n : ℕ) → n < 2 ^ 64 → P n (digits base false n)
    by_digits n fits = up (suc n) n (omega arith) fits

  -- no digit is a mark
  pub digits_free : (mark : ℕ) → is_digit_byte mark ≡ false → (n : ℕ) → n < 2 ^ 64 → free mark (digits base false n) ≡ true
  digits_free mark off = by_digits (λ _ ds. free mark ds ≡ true)
      (λ n h. last_free n h)
      (λ n ds h fits p. free-append mark ds _ p (last_free (n % base) (is.rest n)))
    where
      last_free : (d : ℕ) → d < base → free mark (digit_glyph false d ∷ []) ≡ true
      last_free d h = rw (ne_eqb (digit_glyph false d) mark (glyph_free mark d (omega (arith, is.high)) off)) refl

  -- the number that digits make

  continued_last : (v m c : ℕ) (ds : List ℕ) → continued base v ds ≡ Some m
      → continued base v (ds ++ c ∷ []) ≡ (digit base c >>= (λ d. below (2 ^ 64) (m * base + d) >>= (λ n. Some n)))
  continued_last v m c [] e = ap (λ x. digit base c >>= (λ d. below (2 ^ 64) (x * base + d) >>= (λ n. Some n))) (same_Some _ _ e)
  continued_last v m c (b ∷ ds) e =
      bound (digit base b) _ m e (λ d ed e1.
      bound (below (2 ^ 64) (v * base + d)) _ m e1 (λ n en e2.
      rw (ed, en) (continued_last n m c ds e2)))

  continued_digits : (n : ℕ) → n < 2 ^ 64 → continued base 0 (digits base false n) ≡ Some n
  continued_digits = by_digits (λ n ds. continued base 0 ds ≡ Some n)
      (λ n h. rw (digit-there base n is.high h, below-there (2 ^ 64) (0 * base + n) (omega (arith, is.high))) (ap (λ x. Some x) {x =
      0 * base + n} {y = n} (omega arith)))
      (λ n ds h fits p. continued_last 0 (n / base) _ ds p ∙ rw
      (digit-there base (n % base) is.high (is.rest n), is.whole n, below-there (2 ^ 64) n fits) refl)

  abbrev Begins : ℕ → List ℕ → Type 0
  Begins n [] = ⊥
  Begins n (c ∷ cs) = 0 < n → c ≢ 48

  begins : (n : ℕ) → n < 2 ^ 64 → Begins n (digits base false n)
  begins = by_digits Begins
      (λ n h some same. elim (cases_lt n 10) [
        | inl less ↦ omega (arith, glyph_decimal n less)
        | inr more ↦ omega (arith, glyph_letter n more)
      ])
      next
    where
      next : (n : ℕ) (ds : List ℕ) → base ≤ n → n < 2 ^ 64 → Begins (n / base) ds → Begins n (ds ++ digit_glyph false (n % base) ∷ [])
      next n [] h fits p = absurd p
      next n (c ∷ cs) h fits p = λ _. p (is.left n h)

  numeral_of : (n : ℕ) (ds : List ℕ) → (0 < n → Begins n ds) → (n < base → ds ≡ digit_glyph false n ∷ []) → continued base 0 ds ≡ Some n
      → n < 2 ^ 64 → numeral base ds ≡ Some n
  unfolding numeral
  numeral_of n [] b one e fits = elim (cases_lt 0 n) [
    | inl some ↦ absurd (b some)
    | inr none ↦ absurd (omega (arith, ap length (one (omega (arith, is.some)))))
  ]
  numeral_of n (c ∷ []) b one e fits =
      bound (digit base c) _ n e (λ d ed e1.
      bound (below (2 ^ 64) (0 * base + d)) _ n e1 (λ m em e2.
      let it = below-back (2 ^ 64) (0 * base + d) m em in
      ed ∙ ap (λ x. Some x) (omega (arith, it.0, same_Some _ _ e2))))
  numeral_of n (c ∷ next ∷ rest) b one e fits = elim (cases_lt 0 n) [
    | inl some ↦ rw (ne_eqb c 48 (b some some)) e
    | inr none ↦ absurd (omega (arith, ap length (one (omega (arith, is.some)))))
  ]

  grown : (v n : ℕ) (rest : List ℕ) → 0 < v → v < 2 ^ 64 → continued base v rest ≡ Some n
      → (n < 2 ^ 64) × (digits base false n ≡ digits base false v ++ rest)
  grown v n [] some fits e = let same = same_Some _ _ e in (omega (arith, same), sym (ap (digits base false) same) ∙ sym (append-nil (digits base false v)))
  grown v n (c ∷ rest) some fits e =
      bound (digit base c) _ n e (λ d ed e1.
      bound (below (2 ^ 64) (v * base + d)) _ n e1 (λ m em e2.
      let at = digit-back base c d ed in
      let it = below-back (2 ^ 64) (v * base + d) m em in
      let big = is.more v d some in
      let on = grown m n rest (omega (arith, it.0, big, is.some)) (omega (arith, it)) e2 in
      let step : digits base false m ≡ digits base false v ++ c ∷ [] =
      ap (digits base false) (sym it.0) ∙ digits_step (v * base + d) big it.1
      ∙ (λ i. digits base false (is.front v d at.1 i) ++ (ap (digit_glyph false) (is.last v d at.1) ∙ sym at.0) i ∷ []) in
      (on.0, on.1 ∙ ap (λ x. x ++ rest) step ∙ append_assoc (digits base false v) (c ∷ []) rest)))

  pub numeral_reads : Reads (numeral base) (digits base false) (λ n. n < 2 ^ 64)
  unfolding numeral
  numeral_reads = record {
    there = λ n fits. numeral_of n (digits base false n) (λ _. begins n fits) (λ h. digits_one n h) (continued_digits n fits) fits;
    back = backward;
  }
    where
      backward : (w : List ℕ) (n : ℕ) → numeral base w ≡ Some n → (n < 2 ^ 64) × (digits base false n ≡ w)
      backward [] n e = absurd (none-some n e)
      backward (c ∷ []) n e =
          let at = digit-back base c n e in
          (omega (arith, at.1, is.high), digits_one n at.1 ∙ ap (λ x. x ∷ []) (sym at.0))
      backward (c ∷ next ∷ rest) n e = elim (cases_Bool (c == 48)) [
        | inl t ↦ absurd (none-some n (if_true _ _ _ t e))
        | inr f ↦
            bound (digit base c) _ n (if_false _ _ _ f e) (λ d ed e1.
            bound (below (2 ^ 64) (0 * base + d)) _ n e1 (λ m em e2.
            let at = digit-back base c d ed in
            let it = below-back (2 ^ 64) (0 * base + d) m em in
            let same : m ≡ d = omega (arith, it.0) in
            let some : 0 < d = positive d (λ z. eqb-false c 48 f (at.0 ∙ ap (digit_glyph false) z)) in
            let on = grown d n (next ∷ rest) some (omega (arith, it, same)) (subst (λ x. continued base x (next ∷ rest) ≡ Some n) same e2) in
            (on.0, on.1 ∙ ap (λ x. x ++ next ∷ rest) (digits_one d at.1 ∙ ap (λ x. x ∷ []) (sym at.0)))))
      ]
        where
          positive : (d : ℕ) → (d ≡ 0 → ⊥) → 0 < d
          positive zero h = absurd (h refl)
          positive (suc d) h = omega arith
