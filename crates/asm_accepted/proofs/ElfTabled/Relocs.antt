-- The relocations.
use Rattle.std.proofs.Common.{◌≡◌, ◌∙◌, ap, sym, subst, refl, ℕ, zero, suc, ◌+◌, ◌*◌, ◌/◌, ◌^◌, ◌<◌, Bool, true, false, pos, if◌then◌else◌, List, [], ◌∷◌, ◌++◌, length, flat_map, map, filter, arith, length-append}
use Rattle.std.specs.Prelude.{Some}
use Rattle.std.specs.List.{slice_get}
use Rattle.std.proofs.lemmas.Option.{slice_get_within}
use Rattle.elf_head.specs.AcceptancePart.Lemmas.Tables.{same_elements}
use Rattle.ld_base.specs.declared.object.Reloc.{Reloc}
use Rattle.elf_head.specs.DynTable.Reloc.{reloc_at}
use Rattle.elf_dynamic.specs.Parts.{AreRelocs}
use Rattle.asm_write.specs.declared.contents.Fix.{Fix}
use Rattle.asm_write.specs.declared.starts.Starts.{Starts}
use Rattle.asm_write.specs.Fields.{record_bytes}
use Rattle.asm_write.specs.Records.{rela_fields, slot_fields}
use Rattle.asm_write.specs.Sizes.{has_listed}
use Rattle.asm_write.specs.Starts.{wrapped}
use Rattle.asm_write.specs.Values.{listed_bytes, rela_bytes, slots_from}
use Rattle.asm_laws.specs.ElfWritten.Lemmas.Lengths.{each}
use Rattle.asm_laws.specs.ElfRecords.Numbers.{AllFit}
use Rattle.asm_laws.specs.ElfRecords.Standing.{StandAt}
use Rattle.asm_laws.specs.ElfRecords.Lemmas.Records.{rela, slot}
use Rattle.asm_laws.specs.ElfRecords.Lemmas.Standing.{behind, front as stands_front, within}
use Rattle.asm_laws.specs.ElfSpelled.Lemmas.Reading.{some_is}
use Rattle.asm_laws.specs.ElfSpelled.Lemmas.Rows.{rows, same_rows, at_index}
use Rattle.asm_accepted.specs.ElfTabled.Tables.{AreSymbolNumbers, ListedFit, said_reloc, slots_at}

-- The entries of relocations by their bytes

module _ (starts : Starts) where
  abbrev row : Fix → List ℕ
  row fix = record_bytes (rela_fields starts fix)

  long_row : (fix : Fix) → length (row fix) ≡ 24
  unfolding record_bytes rela_fields
  long_row fix = refl

  listed_rows : (fixes : List Fix) → flat_map (listed_bytes starts) fixes ≡ flat_map row (filter has_listed fixes)
  listed_rows [] = refl
  listed_rows (fix ∷ fixes) =
      let P : Bool → Type 0 = λ here. (if here then row fix else []) ++ flat_map (listed_bytes starts) fixes ≡ flat_map row (if here then fix ∷ filter has_listed fixes else filter has_listed fixes) in
      let rest = listed_rows fixes in
      let cases : (here : Bool) → P here = λ here. elim here as P [ true ↦ ap (λ (bytes : List ℕ). row fix ++ bytes) rest | false ↦ rest ] in
      cases (has_listed fix)

  here_or : (x : Fix) (rest : List Fix) → AllFit (rela_fields starts x) → ((i : ℕ) (fix : Fix) → slice_get rest i ≡ Some fix → AllFit (rela_fields starts fix))
      → (i : ℕ) (fix : Fix) → slice_get (x ∷ rest) i ≡ Some fix → AllFit (rela_fields starts fix)
  here_or x rest first others zero fix at = let same : x ≡ fix = cc in subst (λ (f : Fix). AllFit (rela_fields starts f)) same first
  here_or x rest first others (suc i) fix at = others i fix at

  each_fits : (fixes : List Fix) → ListedFit starts fixes → (i : ℕ) (fix : Fix) → slice_get (filter has_listed fixes) i ≡ Some fix → AllFit (rela_fields starts fix)
  each_fits [] fit i fix is = absurd cc
  each_fits (x ∷ fixes) (first, fit) i fix is =
      let rest = each_fits fixes fit in
      let P : Bool → Type 0 = λ here. has_listed x ≡ here → slice_get (if here then x ∷ filter has_listed fixes else filter has_listed fixes) i ≡ Some fix → AllFit (rela_fields starts fix) in
      let cases : (here : Bool) → P here = λ here. elim here as P [ true ↦ λ listed at. here_or x (filter has_listed fixes) (first listed) rest i fix at | false ↦ λ _ at. rest i fix at ] in
      cases (has_listed x) refl is

  pub relocs_read : (fixes : List Fix) → ListedFit starts fixes → (relocs : List Reloc) → AreRelocs (rela_bytes starts fixes) relocs → relocs ≡ map (said_reloc starts) (filter has_listed fixes)
  unfolding rela_bytes
  relocs_read fixes fit relocs are =
      let listed = filter has_listed fixes in
      let part = flat_map (listed_bytes starts) fixes in
      let same = listed_rows fixes in
      let count : length part / 24 ≡ length listed = let long = each row 24 long_row listed in let size = ap length same in omega (arith, long, size) in
      same_rows (said_reloc starts) listed relocs (are.count ∙ count) (λ i fix is.
      let inside : i < length relocs = let below = slice_get_within listed i fix is in omega (arith, below, are.count, count) in
      let (r, at) = at_index relocs i inside in
      let stand : StandAt part (24 * i) (row fix) = subst (λ (bytes : List ℕ). StandAt bytes (24 * i) (row fix)) (sym same) (rows row 24 long_row listed i fix is) in
      at ∙ ap Some (are.each i r at ∙ rela part (24 * i) starts fix (each_fits fixes fit i fix is) stand))

-- slots

long_slot : (place symbol : ℕ) → length (record_bytes (slot_fields place symbol)) ≡ 24
unfolding record_bytes slot_fields
long_slot place symbol = refl

long_slots : (place : ℕ) (symbols : List ℕ) → length (slots_from place symbols) ≡ 24 * length symbols
long_slots place [] = refl
long_slots place (symbol ∷ symbols) =
    let one = long_slot place symbol in
    let rest = long_slots (wrapped (place + 8)) symbols in
    omega (arith, length-append (record_bytes (slot_fields place symbol)) (slots_from (wrapped (place + 8)) symbols), one, rest)

slot_fits : (place symbol : ℕ) → place < 2 ^ 64 → symbol < 2 ^ 32 → AllFit (slot_fields place symbol)
unfolding slot_fields
slot_fits place symbol low few = (low, (omega arith, (few, (omega arith, tt))))

slots_long : (place : ℕ) (symbols : List ℕ) → length (slots_at place symbols) ≡ length symbols
slots_long place [] = refl
slots_long place (symbol ∷ symbols) = ap suc (slots_long (wrapped (place + 8)) symbols)

each_slot : (bytes : List ℕ) (at place : ℕ) (symbols : List ℕ) → StandAt bytes at (slots_from place symbols) → place < 2 ^ 64 → AreSymbolNumbers symbols
    → (i : ℕ) (r : Reloc) → slice_get (slots_at place symbols) i ≡ Some r → reloc_at bytes (at + 24 * i) ≡ r
each_slot bytes at place [] stand low few i r is = absurd cc
each_slot bytes at place (symbol ∷ symbols) stand low (first, few) zero r is =
    let record_here = record_bytes (slot_fields place symbol) in
    let rest = slots_from (wrapped (place + 8)) symbols in
    let same : at + 24 * 0 ≡ at + 0 = omega arith in
    let here = within bytes (record_here ++ rest) record_here at 0 stand (stands_front record_here rest) in
    ap (reloc_at bytes) same ∙ slot bytes (at + 0) place symbol (slot_fits place symbol low first) here
    ∙ some_is (record { place = place; kind = 5; symbol = symbol; addend = pos 0 }) r is
each_slot bytes at place (symbol ∷ symbols) stand low (first, few) (suc i) r is =
    let record_here = record_bytes (slot_fields place symbol) in
    let rest = slots_from (wrapped (place + 8)) symbols in
    let later = within bytes (record_here ++ rest) rest at (length record_here) stand (behind record_here rest) in
    let same : at + 24 * suc i ≡ at + length record_here + 24 * i = let one = long_slot place symbol in omega (arith, one) in
    let next : wrapped (place + 8) < 2 ^ 64 = omega arith in
    ap (reloc_at bytes) same ∙ each_slot bytes (at + length record_here) (wrapped (place + 8)) symbols later next few i r is

pub slots_read : (place : ℕ) (symbols : List ℕ) → place < 2 ^ 64 → AreSymbolNumbers symbols → (relocs : List Reloc) → AreRelocs (slots_from place symbols) relocs
    → relocs ≡ slots_at place symbols
slots_read place symbols low few relocs are =
    let bytes = slots_from place symbols in
    let count : length bytes / 24 ≡ length symbols = let long = long_slots place symbols in omega (arith, long) in
    let size = slots_long place symbols in
    let whole : StandAt bytes 0 bytes = λ k byte is. (let same : k ≡ 0 + k = omega arith in subst (λ n. slice_get bytes n ≡ Some byte) same is) in
    same_elements relocs (slots_at place symbols) (are.count ∙ count ∙ sym size) (λ i inside.
    let (r, there) = at_index (slots_at place symbols) i inside in
    let (other, at) = at_index relocs i (let n = are.count in omega (arith, inside, n, count, size)) in
    let place_is : 24 * i ≡ 0 + 24 * i = omega arith in
    at ∙ ap Some (are.each i other at ∙ ap (reloc_at bytes) place_is ∙ each_slot bytes 0 place symbols whole low few i r there) ∙ sym there)
