-- The word that fields make has those fields, and no other word has them.
use Rattle.std.proofs.Common.{◌≡◌, ℕ, ◌+◌, ◌*◌, ◌/◌, ◌%◌, ◌^◌, ◌<◌, List, [], ◌∷◌, sym, ap, ◌∙◌, arith}
use Rattle.std.proofs.Math.Nat.{div-one, mod-one}
use Rattle.std.proofs.Math.Pow.{mod-mod-pow}
use Rattle.std.proofs.lemmas.Nat.{shr-shr, shr_split, shr_high, mod_low, field_of, pow_pos, mod_below, mod-pow-add, mul-add-lt, pow-add}
use Rattle.rv_isa.specs.Word.{bits, joined, HasFields}

-- each value fits its width
abbrev pub Fit : List (ℕ × ℕ) → Type 0
Fit [] = Unit {0}
Fit (field ∷ fields) = (field.1 < 2 ^ field.0) × Fit fields

pub bits-below : (low width word : ℕ) → bits low width word < 2 ^ width
unfolding bits
bits-below low width word = mod_below (word / 2 ^ low) (2 ^ width) (pow_pos width)

-- a word at its lowest bit
pub bits-zero : (width word : ℕ) → bits 0 width word ≡ word % 2 ^ width
unfolding bits
bits-zero width word = ap (λ n. n % 2 ^ width) (div-one word)

-- the low bits of a word have its fields
pub bits-mod : (low width more word : ℕ) → bits low width (word % 2 ^ (more + width + low)) ≡ bits low width word
unfolding bits
bits-mod low width more word = ap (λ n. n % 2 ^ width) (field_of word (more + width) low) ∙ mod-mod-pow (word / 2 ^ low) more width

first_field : (high width value : ℕ) → value < 2 ^ width → (value + 2 ^ width * high) % 2 ^ width ≡ value
first_field high width value h = ap (λ n. n % 2 ^ width) (omega arith) ∙ mod_low high width value h

other_fields : (high width value : ℕ) → value < 2 ^ width → (value + 2 ^ width * high) / 2 ^ width ≡ high
other_fields high width value h = ap (λ n. n / 2 ^ width) (omega arith) ∙ shr_high high width value h

pub reads-joined : (fields : List (ℕ × ℕ)) (low word : ℕ) → Fit fields → word / 2 ^ low ≡ joined fields → HasFields low fields word
unfolding bits
reads-joined [] low word fit e = e
reads-joined (field ∷ fields) low word fit e = (
  ap (λ n. n % 2 ^ field.0) e ∙ first_field (joined fields) field.0 field.1 fit.0,
  reads-joined fields (low + field.0) word fit.1 (sym (shr-shr word low field.0) ∙ ap (λ n. n / 2 ^ field.0) e ∙ other_fields (joined fields) field.0 field.1 fit.0),
)

pub joined-reads : (fields : List (ℕ × ℕ)) (low word : ℕ) → HasFields low fields word → joined fields ≡ word / 2 ^ low
unfolding bits
joined-reads [] low word h = sym h
joined-reads (field ∷ fields) low word h =
    let rest : joined fields ≡ word / 2 ^ low / 2 ^ field.0 = joined-reads fields (low + field.0) word h.1 ∙ sym (shr-shr word low field.0) in
    let whole = shr_split (word / 2 ^ low) field.0 in
    rw (rest, ← h.0) (omega (arith, whole))

-- the bits of a word from one on, in fields of these widths
abbrev pub cut : ℕ → List ℕ → ℕ → List (ℕ × ℕ)
cut low [] word = []
cut low (width ∷ widths) word = (width, bits low width word) ∷ cut (low + width) widths word

abbrev pub total : List ℕ → ℕ
total [] = 0
total (width ∷ widths) = total widths + width

pub joined-cut : (widths : List ℕ) (low word : ℕ) → joined (cut low widths word) ≡ word / 2 ^ low % 2 ^ total widths
unfolding bits
joined-cut [] low word = sym (mod-one _)
joined-cut (width ∷ widths) low word =
    let rest : joined (cut (low + width) widths word) ≡ word / 2 ^ low / 2 ^ width % 2 ^ total widths = joined-cut widths (low + width) word ∙ ap (λ n. n % 2 ^ total widths) (sym (shr-shr word low width)) in
    let whole = mod-pow-add (word / 2 ^ low) (total widths) width in
    rw rest (omega (arith, whole))

-- the widths of fields together
abbrev pub width_of : List (ℕ × ℕ) → ℕ
width_of [] = 0
width_of (field ∷ fields) = width_of fields + field.0

pub joined-below : (fields : List (ℕ × ℕ)) → Fit fields → joined fields < 2 ^ width_of fields
joined-below [] fit = omega arith
joined-below (field ∷ fields) fit =
    let high : joined fields < 2 ^ width_of fields = joined-below fields fit.1 in
    let both = mul-add-lt (joined fields) (2 ^ field.0) field.1 (2 ^ width_of fields) high fit.0 in
    let power = pow-add 2 (width_of fields) field.0 in
    omega (arith, both, power)
