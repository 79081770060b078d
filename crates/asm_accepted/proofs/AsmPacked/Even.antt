-- Where the parts of packed places start: at even addresses, as far as their offsets are.
use Rattle.std.proofs.Common.{◌≡◌, ◌∙◌, ap, sym, subst, refl, ℕ, ◌+◌, ◌*◌, ◌%◌, ◌<◌, ◌==◌, Bool, true, false, nat_lt, if◌then◌else◌, max, List, length, arith, inl, inr}
use Rattle.std.specs.List.{count_by}
use Rattle.std.proofs.lemmas.Bool.{ne_eqb}
use Rattle.asm_write.specs.declared.part.Part.TheVariants as parts
use Rattle.asm_write.specs.Sizes.{plain_size, stands_in}
use Rattle.asm_write.specs.Starts.{align_of, padding, size_in, size_of, start_in, starts_of}
use Rattle.asm_laws.specs.ElfSpelled.Lemmas.Starting.{told}
use Rattle.asm_statement.specs.declared.directive.Section.TheVariants as sections
use Rattle.asm_statement.specs.declared.line.Line.{Line}
use Rattle.asm_layout.specs.Contents.{contents_of}
use Rattle.asm_layout.specs.Fixes.{fixes_of, phase}
use Rattle.asm_layout.specs.Places.{filled}
use Rattle.asm_layout.specs.Places.{padding as padding_in}
use Rattle.asm_layout.specs.Spots.{section_align, sections_of}
use Rattle.asm_laws.specs.AsmWhole.Aligned.{AreAligned}
use Rattle.asm_accepted.proofs.AsmPacked.Parity.{IsUnit, section_unit, some_unit}
use Rattle.asm_accepted.proofs.AsmPacked.Starts.{aligned_start, even_multiple, lands, start_behind}

none : (address : ℕ) → padding address 1 ≡ 0
none address = omega arith

-- behind an even address a part starts at an even one
behind_even : (address align start : ℕ) → address % 2 ≡ 0 → IsUnit align → start ≡ address + padding address align → start % align ≡ 0 → start % 2 ≡ 0
behind_even address align start even (inl one) is multiple =
    let pad : padding address align ≡ 0 = ap (padding address) one ∙ none address in
    omega (arith, even, is, pad)
behind_even address align start even (inr (some, half)) is multiple = even_multiple start align multiple half

if_even : (b : Bool) (n : ℕ) → n % 2 ≡ 0 → (if b then n else 0) % 2 ≡ 0
if_even true n even = even
if_even false n even = refl

none_in : (address : ℕ) → padding_in address 1 ≡ 0
none_in address = omega arith

by_align : (offset align relro tdata full size : ℕ) → IsUnit align → relro % 2 ≡ 0 → size ≡ full → tdata ≡ relro + size + padding (relro + size) align → tdata % align ≡ 0
    → (full + padding_in full align + offset) % 8 ≡ 0 → (tdata + offset) % 2 ≡ 0
by_align offset align relro tdata full size (inl one) even long behind multiple eight =
    let pad : padding (relro + size) align ≡ 0 = ap (padding (relro + size)) one ∙ none (relro + size) in
    let other : padding_in full align ≡ 0 = ap (padding_in full) one ∙ none_in full in
    omega (arith, even, long, behind, pad, other, eight)
by_align offset align relro tdata full size (inr (some, half)) even long behind multiple eight =
    let first = even_multiple tdata align multiple half in
    let second = even_multiple (full + padding_in full align) align (lands full align some) half in
    omega (arith, first, second, eight)

module _ (lines : List Line) (all : AreAligned lines) where
  pub eight_got : start_in (starts_of (contents_of lines)) parts.Got % 8 ≡ 0
  unfolding align_of
  eight_got = aligned_start (contents_of lines) parts.Got refl (omega arith)

  pub eight_preinit : start_in (starts_of (contents_of lines)) parts.PreinitArray % 8 ≡ 0
  unfolding align_of
  eight_preinit = aligned_start (contents_of lines) parts.PreinitArray refl (omega arith)

  pub eight_init : start_in (starts_of (contents_of lines)) parts.InitArray % 8 ≡ 0
  unfolding align_of
  eight_init = aligned_start (contents_of lines) parts.InitArray refl (omega arith)

  pub eight_fini : start_in (starts_of (contents_of lines)) parts.FiniArray % 8 ≡ 0
  unfolding align_of
  eight_fini = aligned_start (contents_of lines) parts.FiniArray refl (omega arith)

  size_fini : size_in (starts_of (contents_of lines)) parts.FiniArray ≡ 8 * count_by (stands_in parts.FiniArray) (fixes_of lines)
  unfolding size_of plain_size contents_of
  size_fini = told (contents_of lines) parts.FiniArray

  page_got_plt : start_in (starts_of (contents_of lines)) parts.GotPlt % 4096 ≡ 0
  unfolding align_of
  page_got_plt = aligned_start (contents_of lines) parts.GotPlt refl (omega arith)

  size_got_plt : size_in (starts_of (contents_of lines)) parts.GotPlt % 2 ≡ 0
  unfolding size_of plain_size
  size_got_plt =
      let slots = length (contents_of lines).slots in
      ap (λ k. k % 2) (told (contents_of lines) parts.GotPlt) ∙ if_even (nat_lt 0 slots) (16 + 8 * slots) (omega arith)

  pub size_relro : size_in (starts_of (contents_of lines)) parts.Relro ≡ filled sections.Relro lines
  unfolding size_of plain_size contents_of sections_of
  size_relro = told (contents_of lines) parts.Relro

  pub size_tdata : size_in (starts_of (contents_of lines)) parts.Tdata ≡ filled sections.Tdata lines
  unfolding size_of plain_size contents_of sections_of
  size_tdata = told (contents_of lines) parts.Tdata

  pub size_data : size_in (starts_of (contents_of lines)) parts.Data ≡ filled sections.Data lines
  unfolding size_of plain_size contents_of sections_of
  size_data = told (contents_of lines) parts.Data

  align_relro : align_of (contents_of lines) parts.Relro ≡ section_align lines sections.Relro
  unfolding align_of contents_of sections_of
  align_relro = refl

  align_data : align_of (contents_of lines) parts.Data ≡ section_align lines sections.Data
  unfolding align_of contents_of sections_of
  align_data = refl

  align_tdata : 0 < filled sections.Tdata lines → align_of (contents_of lines) parts.Tdata ≡ section_align lines sections.Tdata
  unfolding align_of contents_of sections_of
  align_tdata some =
      let other : (filled sections.Tdata lines == 0) ≡ false = ne_eqb (filled sections.Tdata lines) 0 (λ none. absurd (omega (arith, none, some))) in
      ap (λ b. if b then max (section_align lines sections.Tdata) (section_align lines sections.Tbss) else section_align lines sections.Tdata) other

  pub relro_even : start_in (starts_of (contents_of lines)) parts.Relro % 2 ≡ 0
  relro_even =
      let contents = contents_of lines in
      let before = start_in (starts_of contents) parts.FiniArray + size_in (starts_of contents) parts.FiniArray in
      let begin = eight_fini in
      let long = size_fini in
      let unit = section_unit lines all sections.Relro in
      let own : IsUnit (align_of contents parts.Relro) = subst IsUnit (sym align_relro) unit in
      behind_even before (align_of contents parts.Relro) (start_in (starts_of contents) parts.Relro) (omega (arith, begin, long)) own (start_behind contents parts.FiniArray parts.Relro refl refl)
      (aligned_start contents parts.Relro refl (some_unit (align_of contents parts.Relro) own))

  pub data_even : start_in (starts_of (contents_of lines)) parts.Data % 2 ≡ 0
  data_even =
      let contents = contents_of lines in
      let before = start_in (starts_of contents) parts.GotPlt + size_in (starts_of contents) parts.GotPlt in
      let begin = page_got_plt in
      let long = size_got_plt in
      let unit = section_unit lines all sections.Data in
      let own : IsUnit (align_of contents parts.Data) = subst IsUnit (sym align_data) unit in
      behind_even before (align_of contents parts.Data) (start_in (starts_of contents) parts.Data) (omega (arith, begin, long)) own (start_behind contents parts.GotPlt parts.Data refl refl)
      (aligned_start contents parts.Data refl (some_unit (align_of contents parts.Data) own))

  -- an offset in .tdata is counted from where .relro starts
  pub tdata_even : (offset : ℕ) → 0 < filled sections.Tdata lines → (phase lines parts.Tdata + offset) % 8 ≡ 0
      → (start_in (starts_of (contents_of lines)) parts.Tdata + offset) % 2 ≡ 0
  tdata_even offset some eight =
      let contents = contents_of lines in
      let align = section_align lines sections.Tdata in
      let same = align_tdata some in
      let unit = section_unit lines all sections.Tdata in
      let multiple : start_in (starts_of contents) parts.Tdata % align ≡ 0
      = subst (λ a. start_in (starts_of contents) parts.Tdata % a ≡ 0) same (aligned_start contents parts.Tdata refl (some_unit (align_of contents parts.Tdata) (subst IsUnit (sym same) unit))) in
      let behind = start_behind contents parts.Relro parts.Tdata refl refl ∙ ap (λ a. start_in (starts_of contents) parts.Relro + size_in (starts_of contents) parts.Relro
      + padding (start_in (starts_of contents) parts.Relro + size_in (starts_of contents) parts.Relro) a) same in
      by_align offset align (start_in (starts_of contents) parts.Relro) (start_in (starts_of contents) parts.Tdata) (filled sections.Relro lines) (size_in (starts_of contents) parts.Relro) unit
      relro_even size_relro behind multiple eight
