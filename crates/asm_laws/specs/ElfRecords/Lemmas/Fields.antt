-- A field of a record stands behind as many bytes as those before it have.
use Rattle.std.proofs.Common.{◌≡◌, ◌∙◌, ap, sym, subst, ℕ, ◌+◌, ◌≤◌, List, [], ◌∷◌, ◌++◌, length, flat_map, refl, arith, length-append}
use Rattle.std.proofs.lemmas.List.Sums.{sum_by-cons}
use Rattle.std.proofs.lemmas.Nat.{from_le_bytes-to_le_bytes_2, from_le_bytes-to_le_bytes_4, from_le_bytes-to_le_bytes_8}
use Rattle.ld_base.specs.Field.{field}
use Rattle.asm_write.specs.declared.field.Field.{Field}
use Rattle.asm_write.specs.declared.field.Field.TheVariants as fields
use Rattle.asm_write.specs.Fields.{field_bytes, record_bytes}
use Rattle.asm_laws.specs.ElfRecords.Numbers.{width, widths, number, Fits}
use Rattle.asm_laws.specs.ElfRecords.Standing.{StandAt}
use Rattle.asm_laws.specs.ElfRecords.Lemmas.Standing.{front, behind, within, field_read}

wide : (f : Field) → length (field_bytes f) ≡ width f
wide (fields.Byte value) = refl
wide (fields.Half value) = refl
wide (fields.Word value) = refl
wide (fields.Doubleword value) = refl

pub one_read : (f : Field) → Fits f → field (width f) (field_bytes f) 0 ≡ number f
unfolding field
one_read (fields.Byte value) fits = omega arith
one_read (fields.Half value) fits = let back = from_le_bytes-to_le_bytes_2 value fits in omega (arith, back)
one_read (fields.Word value) fits = let back = from_le_bytes-to_le_bytes_4 value fits in omega (arith, back)
one_read (fields.Doubleword value) fits = let back = from_le_bytes-to_le_bytes_8 value fits in omega (arith, back)

as_wide : (all : List Field) → length (flat_map field_bytes all) ≡ widths all
as_wide [] = refl
as_wide (f ∷ all) = length-append (field_bytes f) (flat_map field_bytes all) ∙ ap (λ n. n + length (flat_map field_bytes all)) (wide f) ∙ ap (λ n. width f + n) (as_wide all) ∙ sym (sum_by-cons width f all)

stands : (before : List Field) (f : Field) (rest : List Field) → StandAt (flat_map field_bytes (before ++ f ∷ rest)) (widths before) (field_bytes f)
stands [] f rest = front (field_bytes f) (flat_map field_bytes rest)
stands (g ∷ before) f rest =
    let inside = within (field_bytes g ++ flat_map field_bytes (before ++ f ∷ rest)) (flat_map field_bytes (before ++ f ∷ rest)) (field_bytes f) (length (field_bytes g)) (widths before)
    (behind (field_bytes g) (flat_map field_bytes (before ++ f ∷ rest))) (stands before f rest) in
    subst (λ n. StandAt (flat_map field_bytes (g ∷ before ++ f ∷ rest)) n (field_bytes f)) (ap (λ n. n + widths before) (wide g) ∙ sym (sum_by-cons width g before)) inside

pub reads_back : (bytes : List ℕ) (at : ℕ) (before : List Field) (f : Field) (rest : List Field) → StandAt bytes at (record_bytes (before ++ f ∷ rest)) → Fits f
    → field (width f) bytes (at + widths before) ≡ number f
unfolding record_bytes
reads_back bytes at before f rest stand fits =
    let here = within bytes (flat_map field_bytes (before ++ f ∷ rest)) (field_bytes f) at (widths before) stand (stands before f rest) in
    let place : at + widths before + 0 ≡ at + widths before = omega arith in
    let inside : 0 + width f ≤ length (field_bytes f) = omega (arith, wide f) in
    ap (λ n. field (width f) bytes n) (sym place) ∙ field_read (width f) bytes (field_bytes f) (at + widths before) 0 here inside ∙ one_read f fits
