-- Where a part starts: at a multiple of its alignment, behind the one before.
use Rattle.std.proofs.Common.{◌≡◌, ◌∙◌, ap, sym, ℕ, zero, suc, ◌+◌, ◌-◌, ◌*◌, ◌/◌, ◌%◌, ◌<◌, ◌==◌, false, if◌then◌else◌, List, [], ◌∷◌, map, arith, slice_index, inl, inr}
use Rattle.std.specs.Prelude.{Some}
use Rattle.std.specs.List.{slice_get}
use Rattle.std.proofs.lemmas.Bool.{cases_eq, ne_eqb}
use Rattle.std.proofs.Math.Nat.{div-add-mod, mod-eq_of_lt, mod-lt, mul-mod_right, mul_assoc}
use Rattle.asm_write.specs.declared.contents.Contents.{Contents}
use Rattle.asm_write.specs.declared.contents.Extent.{Extent}
use Rattle.asm_write.specs.declared.part.Part.{Part}
use Rattle.asm_write.specs.Parts.{all_parts, number_of}
use Rattle.asm_write.specs.Starts.{align_of, base_of, extent_of, padding, size_in, start_in, starts_from, starts_of}

-- the first multiple of an alignment from an address on
pub lands : (address align : ℕ) → 0 < align → (address + (align - address % align) % align) % align ≡ 0
lands address align some =
    let whole = div-add-mod address align in
    let less = mod-lt address some in
    elim (cases_eq (address % align) 0) as (λ _. (address + (align - address % align) % align) % align ≡ 0) [
      | inl none ↦
          let pad : (align - address % align) % align ≡ 0 = ap (λ k. (align - k) % align) none ∙ self align in
          let same : address + (align - address % align) % align ≡ address = omega (arith, pad) in
          ap (λ k. k % align) same ∙ none
      | inr part ↦
          let pad : (align - address % align) % align ≡ align - address % align = mod-eq_of_lt (omega (arith, part, less)) in
          let sum : align * (address / align) + align ≡ align * suc (address / align) = next align (address / align) in
          let same : address + (align - address % align) % align ≡ align * suc (address / align) = omega (arith, pad, whole, less, sum) in
          ap (λ k. k % align) same ∙ mul-mod_right align (suc (address / align))
    ]
  where
    self : (n : ℕ) → (n - 0) % n ≡ 0
    self n = let same : n - 0 ≡ n * 1 = omega arith in ap (λ k. k % n) same ∙ mul-mod_right n 1

    next : (n q : ℕ) → n * q + n ≡ n * suc q
    next n q = omega arith

-- a multiple of an even number is even
pub even_multiple : (n align : ℕ) → n % align ≡ 0 → align % 2 ≡ 0 → n % 2 ≡ 0
even_multiple n align multiple even =
    let whole = div-add-mod n align in
    let half = div-add-mod align 2 in
    let twice : align ≡ 2 * (align / 2) = omega (arith, half, even) in
    let same : n ≡ 2 * (align / 2 * (n / align)) = omega (arith, whole, multiple) ∙ ap (λ k. k * (n / align)) twice ∙ mul_assoc 2 (align / 2) (n / align) in
    ap (λ k. k % 2) same ∙ mul-mod_right 2 (align / 2 * (n / align))

pub padded : (address align : ℕ) → 0 < align → (address + padding address align) % align ≡ 0
padded address align some =
    let other : (align == 0) ≡ false = ne_eqb align 0 (λ none. absurd (omega (arith, none, some))) in
    ap (λ b. (address + (if b then 0 else (align - address % align) % align)) % align) other ∙ lands address align some

-- a part behind others

padded_start : {X : Type 0} (extent : X → Extent) (behind : ℕ) (xs : List X) (k : ℕ) (x : X) → slice_get xs k ≡ Some x
    → (address : ℕ) × (slice_index (starts_from behind (map extent xs)) k ≡ address + padding address (extent x).align)
padded_start extent behind [] k x is = absurd cc
padded_start extent behind (y ∷ xs) zero x is = let same : y ≡ x = cc in (behind, ap (λ z. behind + padding behind (extent z).align) same)
padded_start extent behind (y ∷ xs) (suc k) x is = padded_start extent (behind + padding behind (extent y).align + (extent y).size) xs k x is

next_start : {X : Type 0} (extent : X → Extent) (behind : ℕ) (xs : List X) (k : ℕ) (x : X) → slice_get xs (suc k) ≡ Some x
    → slice_index (starts_from behind (map extent xs)) (suc k)
    ≡ slice_index (starts_from behind (map extent xs)) k + slice_index (map (λ x. (extent x).size) xs) k
    + padding (slice_index (starts_from behind (map extent xs)) k + slice_index (map (λ x. (extent x).size) xs) k) (extent x).align
next_start extent behind [] k x is = absurd cc
next_start extent behind (y ∷ []) k x is = absurd cc
next_start extent behind (y ∷ z ∷ xs) zero x is =
    let same : z ≡ x = cc in
    let at = behind + padding behind (extent y).align + (extent y).size in
    ap (λ w. at + padding at (extent w).align) same
next_start extent behind (y ∷ z ∷ xs) (suc k) x is = next_start extent (behind + padding behind (extent y).align + (extent y).size) (z ∷ xs) k x is

pub aligned_start : (contents : Contents) (part : Part) → slice_get all_parts (number_of part) ≡ Some part → 0 < align_of contents part
    → start_in (starts_of contents) part % align_of contents part ≡ 0
unfolding starts_of
aligned_start contents part here some =
    let (address, is) = padded_start (extent_of contents) (base_of contents.kind) all_parts (number_of part) part here in
    ap (λ k. k % align_of contents part) is ∙ padded address (align_of contents part) some

pub start_behind : (contents : Contents) (one other : Part) → number_of other ≡ suc (number_of one) → slice_get all_parts (number_of other) ≡ Some other
    → start_in (starts_of contents) other ≡ start_in (starts_of contents) one + size_in (starts_of contents) one
    + padding (start_in (starts_of contents) one + size_in (starts_of contents) one) (align_of contents other)
unfolding starts_of
start_behind contents one other next here =
    let there : slice_get all_parts (suc (number_of one)) ≡ Some other = ap (slice_get all_parts) (sym next) ∙ here in
    ap (slice_index (starts_from (base_of contents.kind) (map (extent_of contents) all_parts))) next
    ∙ next_start (extent_of contents) (base_of contents.kind) all_parts (number_of one) other there
