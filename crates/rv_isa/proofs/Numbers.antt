-- The immediates that a word holds, and their parts.
use Rattle.std.proofs.Common.{◌≡◌, ℕ, ◌+◌, ◌/◌, ◌%◌, ◌^◌, ◌<◌, List, [], ◌∷◌, ℤ, pos, negsuc, ◌≤ℤ◌, ◌<ℤ◌, refl, sym, ap, ◌∙◌, arith, lit<}
use Rattle.std.specs.Int.{w32, cast_unsigned, cast_signed}
use Rattle.std.proofs.Math.Nat.{div-one, mod-eq_of_lt}
use Rattle.std.proofs.lemmas.Bool.Decides.{nat_tests}
use Rattle.std.proofs.lemmas.Int.{ints}
use Rattle.rv_isa.specs.Word.{bits, joined, HasFields, part, signed}
use Rattle.rv_isa.specs.Opcodes.{Upper, Number, Shift}
use Rattle.rv_isa.specs.Encoding.{IsWithin, IsDistance, IsUpper, FitsUpper, upper_fields}
use Rattle.rv_isa.specs.Reading.{i_number, s_number, b_number, u_number, j_number, number_of}
use Rattle.rv_isa.proofs.Rows.{Fit, bits-below, bits-zero, bits-mod, reads-joined, joined-cut, joined-below}
use Rattle.rv_isa.proofs.Signs.{signed-12, low_12, within_12, signed-13, low_13, within_13, signed-21, low_21, within_21, low_32, within_32}
use Rattle.rv_isa.proofs.Codes.{HasUpper}

-- the number whose bits these fields are
cut_whole : (fields : ℕ) (whole number : ℕ) → fields ≡ number / 2 ^ 0 % whole → fields ≡ number % whole
cut_whole fields whole number e = e ∙ ap (λ n. n % whole) (div-one number)

pub i_number-is : (word : ℕ) (n : ℤ) → IsWithin 12 n → bits 20 12 word ≡ part n 0 12 → i_number word ≡ n
unfolding i_number
i_number-is word n h e = ap (signed 12) (e ∙ bits-zero 12 (cast_unsigned w32 n)) ∙ signed-12 n h

pub s_number-is : (word : ℕ) (n : ℤ) → IsWithin 12 n → bits 7 5 word ≡ part n 0 5 → bits 25 7 word ≡ part n 5 7 → s_number word ≡ n
unfolding s_number
s_number-is word n h e0 e1 = rw (e0, e1) (ap (signed 12) (cut_whole _ _ _ (joined-cut (5 ∷ 7 ∷ []) 0 (cast_unsigned w32 n))) ∙ signed-12 n h)

pub b_number-is : (word : ℕ) (n : ℤ) → IsDistance 13 n → bits 8 4 word ≡ part n 1 4 → bits 25 6 word ≡ part n 5 6 → bits 7 1 word ≡ part n 11 1 → bits 31 1 word ≡ part n 12 1 → b_number word ≡ n
unfolding b_number
b_number-is word n h e0 e1 e2 e3 = rw (e0, e1, e2, e3) (ap (signed 13) (rw h.1 at (cut_whole _ _ _ (joined-cut (1 ∷ 4 ∷ 6 ∷ 1 ∷ 1 ∷ []) 0 (cast_unsigned w32 n)))) ∙ signed-13 n h.0)

pub j_number-is : (word : ℕ) (n : ℤ) → IsDistance 21 n → bits 21 10 word ≡ part n 1 10 → bits 20 1 word ≡ part n 11 1 → bits 12 8 word ≡ part n 12 8 → bits 31 1 word ≡ part n 20 1 → j_number word ≡ n
unfolding j_number
j_number-is word n h e0 e1 e2 e3 = rw (e0, e1, e2, e3) (ap (signed 21) (rw h.1 at (cut_whole _ _ _ (joined-cut (1 ∷ 10 ∷ 1 ∷ 8 ∷ 1 ∷ []) 0 (cast_unsigned w32 n)))) ∙ signed-21 n h.0)

whole_32 : (n : ℤ) → IsWithin 32 n → cast_signed w32 (cast_unsigned w32 n % 2 ^ 32) ≡ n
whole_32 n h = grind (arith, ints, nat_tests)

pub u_number-is : (word : ℕ) (n : ℤ) → IsUpper n → bits 12 20 word ≡ part n 12 20 → u_number word ≡ n
unfolding u_number
u_number-is word n h e = rw e (ap (cast_signed w32) (rw h.1 at (cut_whole _ _ _ (joined-cut (12 ∷ 20 ∷ []) 0 (cast_unsigned w32 n)))) ∙ whole_32 n h.0)

shift_number : (word width : ℕ) (n : ℤ) → pos 0 ≤ℤ n → n <ℤ pos (2 ^ width) → bits 20 width word ≡ part n 0 width → pos (bits 20 width word) ≡ n
shift_number word width (pos m) low high e =
    let below : m < 2 ^ width = grind (arith, ints, nat_tests) in
    ap pos (e ∙ bits-zero width m ∙ mod-eq_of_lt below)
shift_number word width (negsuc m) low high e = absurd (grind (arith, ints, nat_tests))

-- the upper twelve bits of a word with these fields
pub upper-is : (upper : Upper) (word : ℕ) (n : ℤ) → FitsUpper upper n → HasFields 20 (upper_fields upper n) word → HasUpper upper word × (number_of upper word ≡ n)
upper-is Number word n h r = (tt, i_number-is word n h r.0)
upper-is (Shift width constant) word n h r = (r.1.0, shift_number word width n h.0 h.1 r.0)

-- the parts of the immediates are the word's
part_of : (k low width more m : ℕ) (n : ℤ) → cast_unsigned w32 n % 2 ^ k ≡ m → more + width + low ≡ k → part n low width ≡ bits low width m
part_of k low width more m n e sum = sym (bits-mod low width more (cast_unsigned w32 n)) ∙ ap (λ j. bits low width (cast_unsigned w32 n % 2 ^ j)) sum ∙ ap (bits low width) e

pub i_number-within : (word : ℕ) → IsWithin 12 (i_number word)
unfolding i_number
i_number-within word = within_12 (bits 20 12 word) (bits-below 20 12 word)

pub i_number-part : (word : ℕ) → bits 20 12 word ≡ part (i_number word) 0 12
unfolding i_number
i_number-part word =
    let m = bits 20 12 word in
    sym (bits-zero 12 (cast_unsigned w32 (signed 12 m)) ∙ low_12 m (bits-below 20 12 word))

s_fields : ℕ → List (ℕ × ℕ)
s_fields word = (5, bits 7 5 word) ∷ (7, bits 25 7 word) ∷ []

s_fit : (word : ℕ) → Fit (s_fields word)
unfolding s_fields
s_fit word = (bits-below 7 5 word, (bits-below 25 7 word, tt))

pub s_number-within : (word : ℕ) → IsWithin 12 (s_number word)
unfolding s_number s_fields
s_number-within word = within_12 (joined (s_fields word)) (joined-below (s_fields word) (s_fit word))

pub s_number-parts : (word : ℕ) → (bits 7 5 word ≡ part (s_number word) 0 5) × (bits 25 7 word ≡ part (s_number word) 5 7)
unfolding s_number s_fields
s_number-parts word =
    let m = joined (s_fields word) in
    let low = low_12 m (joined-below (s_fields word) (s_fit word)) in
    let r = reads-joined (s_fields word) 0 m (s_fit word) (div-one m) in
    (sym (part_of 12 0 5 7 m (s_number word) low refl ∙ r.0), sym (part_of 12 5 7 0 m (s_number word) low refl ∙ r.1.0))

b_fields : ℕ → List (ℕ × ℕ)
b_fields word = (1, 0) ∷ (4, bits 8 4 word) ∷ (6, bits 25 6 word) ∷ (1, bits 7 1 word) ∷ (1, bits 31 1 word) ∷ []

b_fit : (word : ℕ) → Fit (b_fields word)
unfolding b_fields
b_fit word = (lit< tt, (bits-below 8 4 word, (bits-below 25 6 word, (bits-below 7 1 word, (bits-below 31 1 word, tt)))))

pub b_number-within : (word : ℕ) → IsWithin 13 (b_number word)
unfolding b_number b_fields
b_number-within word = within_13 (joined (b_fields word)) (joined-below (b_fields word) (b_fit word))

pub b_number-parts : (word : ℕ) → (part (b_number word) 0 1 ≡ 0) × (bits 8 4 word ≡ part (b_number word) 1 4) × (bits 25 6 word ≡ part (b_number word) 5 6) × (bits 7 1 word ≡ part (b_number word) 11 1) × (bits 31 1 word ≡ part (b_number word) 12 1)
unfolding b_number b_fields
b_number-parts word =
    let m = joined (b_fields word) in
    let low = low_13 m (joined-below (b_fields word) (b_fit word)) in
    let r = reads-joined (b_fields word) 0 m (b_fit word) (div-one m) in
    (part_of 13 0 1 12 m (b_number word) low refl ∙ r.0, sym (part_of 13 1 4 8 m (b_number word) low refl ∙ r.1.0), sym (part_of 13 5 6 2 m (b_number word) low refl ∙ r.1.1.0), sym (part_of 13 11 1 1 m (b_number word) low refl ∙ r.1.1.1.0), sym (part_of 13 12 1 0 m (b_number word) low refl ∙ r.1.1.1.1.0))

j_fields : ℕ → List (ℕ × ℕ)
j_fields word = (1, 0) ∷ (10, bits 21 10 word) ∷ (1, bits 20 1 word) ∷ (8, bits 12 8 word) ∷ (1, bits 31 1 word) ∷ []

j_fit : (word : ℕ) → Fit (j_fields word)
unfolding j_fields
j_fit word = (lit< tt, (bits-below 21 10 word, (bits-below 20 1 word, (bits-below 12 8 word, (bits-below 31 1 word, tt)))))

pub j_number-within : (word : ℕ) → IsWithin 21 (j_number word)
unfolding j_number j_fields
j_number-within word = within_21 (joined (j_fields word)) (joined-below (j_fields word) (j_fit word))

pub j_number-parts : (word : ℕ) → (part (j_number word) 0 1 ≡ 0) × (bits 21 10 word ≡ part (j_number word) 1 10) × (bits 20 1 word ≡ part (j_number word) 11 1) × (bits 12 8 word ≡ part (j_number word) 12 8) × (bits 31 1 word ≡ part (j_number word) 20 1)
unfolding j_number j_fields
j_number-parts word =
    let m = joined (j_fields word) in
    let low = low_21 m (joined-below (j_fields word) (j_fit word)) in
    let r = reads-joined (j_fields word) 0 m (j_fit word) (div-one m) in
    (part_of 21 0 1 20 m (j_number word) low refl ∙ r.0, sym (part_of 21 1 10 10 m (j_number word) low refl ∙ r.1.0), sym (part_of 21 11 1 9 m (j_number word) low refl ∙ r.1.1.0), sym (part_of 21 12 8 1 m (j_number word) low refl ∙ r.1.1.1.0), sym (part_of 21 20 1 0 m (j_number word) low refl ∙ r.1.1.1.1.0))

u_fields : ℕ → List (ℕ × ℕ)
u_fields word = (12, 0) ∷ (20, bits 12 20 word) ∷ []

u_fit : (word : ℕ) → Fit (u_fields word)
unfolding u_fields
u_fit word = (lit< tt, (bits-below 12 20 word, tt))

pub u_number-within : (word : ℕ) → IsWithin 32 (u_number word)
unfolding u_number u_fields
u_number-within word = within_32 (joined (u_fields word)) (joined-below (u_fields word) (u_fit word))

pub u_number-parts : (word : ℕ) → (part (u_number word) 0 12 ≡ 0) × (bits 12 20 word ≡ part (u_number word) 12 20)
unfolding u_number u_fields
u_number-parts word =
    let m = joined (u_fields word) in
    let low = low_32 m (joined-below (u_fields word) (u_fit word)) in
    let r = reads-joined (u_fields word) 0 m (u_fit word) (div-one m) in
    (part_of 32 0 12 20 m (u_number word) low refl ∙ r.0, sym (part_of 32 12 20 0 m (u_number word) low refl ∙ r.1.0))
