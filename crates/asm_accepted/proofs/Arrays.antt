-- An array of functions has a place for each of its entries, and no other part of the object has places in it.
use Rattle.std.proofs.Common.{◌≡◌, ◌∙◌, ap, sym, subst, refl, ℕ, suc, ◌+◌, ◌*◌, ◌==◌, Bool, true, false, nat_lt, if◌then◌else◌, List, [], ◌∷◌, ◌++◌, length, arith}
use Rattle.std.specs.Prelude.{Option, Some, None}
use Rattle.std.specs.List.{count_by}
use Rattle.std.proofs.lemmas.Bool.Decides.{nat_tests}
use Rattle.std.proofs.lemmas.List.Sums.{sum_by-append, sum_by-cons}
use Rattle.asm_write.specs.declared.contents.Fix.{Fix}
use Rattle.asm_write.specs.declared.contents.Spot.{Spot}
use Rattle.asm_write.specs.declared.part.Part.{Part}
use Rattle.asm_write.specs.declared.part.Part.TheVariants as parts
use Rattle.asm_write.specs.Parts.{number_of, same_part}
use Rattle.asm_write.specs.Sizes.{count_in, plain_size, stands_in}
use Rattle.asm_write.specs.Starts.{size_in, size_of, starts_of}
use Rattle.asm_laws.specs.ElfSpelled.Lemmas.Starting.{told}
use Rattle.asm_laws.specs.ElfSpelled.Said.{span_if}
use Rattle.asm_accepted.specs.ElfAccepted.Said.{said_array}
use Rattle.asm_statement.specs.declared.directive.Array.{Array}
use Rattle.asm_statement.specs.declared.directive.Array.TheVariants as arrays
use Rattle.asm_statement.specs.declared.directive.Directive.TheVariants as directives
use Rattle.asm_statement.specs.declared.directive.Doubleword.TheVariants as doublewords
use Rattle.asm_statement.specs.declared.directive.Section.{Section}
use Rattle.asm_statement.specs.declared.directive.Section.TheVariants as sections
use Rattle.asm_statement.specs.declared.line.Line.{Line}
use Rattle.asm_statement.specs.declared.line.Statement.{Statement}
use Rattle.asm_statement.specs.declared.line.Statement.TheVariants as statements
use Rattle.asm_layout.specs.declared.uses.GotKind.TheVariants as gots
use Rattle.asm_layout.specs.declared.uses.GotUse.{GotUse}
use Rattle.asm_layout.specs.Contents.{contents_of}
use Rattle.asm_layout.specs.Fixes.{array_fixes, fixes_of, got_fix, got_fixes, line_fixes, section_fixes, statement_fixes}
use Rattle.asm_layout.specs.Parts.{start_of}
use Rattle.asm_layout.specs.Places.{is_section, place_at}
use Rattle.asm_layout.specs.Spots.{part_of, spot_of}
use Rattle.asm_layout.specs.Tables.{entries, got_words}
use Rattle.asm_layout.specs.Uses.{got_uses}
use Rattle.asm_laws.specs.Lemmas.Each.{Each, both}
use Rattle.asm_laws.specs.Lemmas.Filled.{is_same}
use Rattle.asm_accepted.specs.AsmRecord.Record.{array_of}

-- Places of one part

abbrev Of : Part → List Fix → Type 0
Of part fixes = Each (λ fix. fix.spot.part ≡ part) fixes

abbrev counted : Part → List Fix → ℕ
counted part fixes = count_by (stands_in part) fixes

abbrev one_if : Bool → ℕ
one_if b = if b then 1 else 0

one_more : (part : Part) (fix : Fix) (fixes : List Fix) → counted part (fix ∷ fixes) ≡ one_if (stands_in part fix) + counted part fixes
one_more part fix fixes = sum_by-cons (λ fix. if stands_in part fix then 1 else 0) fix fixes

none_of : (part other : Part) → same_part part other ≡ false → (fixes : List Fix) → Of other fixes → counted part fixes ≡ 0
none_of part other differ [] of = refl
none_of part other differ (fix ∷ fixes) (first, of) =
    let one : one_if (stands_in part fix) ≡ 0 = ap (λ (p : Part). one_if (same_part part p)) first ∙ ap one_if differ in
    let sum = one_more part fix fixes in
    let rest = none_of part other differ fixes of in
    omega (arith, one, sum, rest)

itself : (n : ℕ) → (n == n) ≡ true
itself n = grind (arith, nat_tests)

all_of : (part : Part) (fixes : List Fix) → Of part fixes → counted part fixes ≡ length fixes
all_of part [] of = refl
all_of part (fix ∷ fixes) (first, of) =
    let one : one_if (stands_in part fix) ≡ 1 = ap (λ (p : Part). one_if (same_part part p)) first ∙ ap one_if (itself (number_of part)) in
    let sum = one_more part fix fixes in
    let rest = all_of part fixes of in
    omega (arith, one, sum, rest)

counted_both : (part : Part) (one other : List Fix) → counted part (one ++ other) ≡ counted part one + counted part other
counted_both part one other = sum_by-append (λ fix. if stands_in part fix then 1 else 0) one other

module _ (lines : List Line) where
  of_got : (offset : ℕ) (uses : List GotUse) → Of parts.Got (got_fixes lines offset uses)
  of_got offset [] = tt
  of_got offset (got ∷ uses) =
      let short = of_got (offset + 8 * 1) uses in
      let long = of_got (offset + 8 * 2) uses in
      elim got.kind as (λ kind. Of parts.Got (got_fix lines offset got.name kind ++ got_fixes lines (offset + 8 * got_words kind) uses)) [
        | gots.Address ↦ (refl, short)
        | gots.Pair ↦ (refl, (refl, long))
        | gots.Offset ↦ (refl, short)
      ]

  of_array : (part : Part) (offset : ℕ) (names : List (List ℕ)) → Of part (array_fixes lines part offset names)
  of_array part offset [] = tt
  of_array part offset (name ∷ names) = (refl, of_array part (offset + 8) names)

  long_array : (part : Part) (offset : ℕ) (names : List (List ℕ)) → length (array_fixes lines part offset names) ≡ length names
  long_array part offset [] = refl
  long_array part offset (name ∷ names) = ap suc (long_array part (offset + 8) names)

  of_statement : (spot : Spot) (statement : Option Statement) → Of spot.part (statement_fixes lines spot statement)
  of_statement spot (Some (statements.Directive (directives.Dword (doublewords.Address name addend)))) = (refl, tt)
  of_statement spot (Some (statements.Directive (directives.Copy name size))) = (refl, tt)
  of_statement spot _ = tt

  of_section : (section : Section) (k : ℕ) (rest : List Line) → Of (part_of section) (section_fixes lines section k rest)
  of_section section k [] = tt
  of_section section k (line ∷ rest) =
      let place = place_at lines k in
      let P : Bool → Type 0 = λ b. is_section section place.section ≡ b → Of (part_of section) (if b then statement_fixes lines (spot_of place) line.statement else []) in
      let own : P true = λ is. subst (λ s. Of (part_of s) (statement_fixes lines (spot_of place) line.statement)) (sym (is_same section place.section is)) (of_statement (spot_of place) line.statement) in
      let cases : (b : Bool) → P b = λ b. elim b as P [ true ↦ own | false ↦ λ _. tt ] in
      both (λ fix. fix.spot.part ≡ part_of section) (line_fixes lines section place line) (section_fixes lines section (k + 1) rest) (cases (is_section section place.section) refl) (of_section section (k + 1) rest)

  -- no section's places stand in an array
  no_section : (part : Part) (own : Section) → same_part part (part_of own) ≡ false → counted part (section_fixes lines own 0 lines) ≡ 0
  no_section part own differ = none_of part (part_of own) differ (section_fixes lines own 0 lines) (of_section own 0 lines)

  no_array : (part other : Part) → same_part part other ≡ false → (array : Array) → counted part (array_fixes lines other 0 (entries array lines)) ≡ 0
  no_array part other differ array = none_of part other differ (array_fixes lines other 0 (entries array lines)) (of_array other 0 (entries array lines))

  own_array : (part : Part) (array : Array) → counted part (array_fixes lines part 0 (entries array lines)) ≡ length (entries array lines)
  own_array part array = all_of part (array_fixes lines part 0 (entries array lines)) (of_array part 0 (entries array lines)) ∙ long_array part 0 (entries array lines)

  -- how many a part has, by where they come from
  abbrev in_arrays : Part → ℕ
  in_arrays part =
      counted part (array_fixes lines parts.PreinitArray 0 (entries arrays.Preinit lines)) + counted part (array_fixes lines parts.InitArray 0 (entries arrays.Init lines))
      + counted part (array_fixes lines parts.FiniArray 0 (entries arrays.Fini lines))

  by_source : (part : Part) → same_part part parts.Got ≡ false → same_part part parts.Relro ≡ false → same_part part parts.Tdata ≡ false → same_part part parts.Data ≡ false
      → same_part part parts.Bss ≡ false → counted part (fixes_of lines) ≡ in_arrays part
  unfolding fixes_of
  by_source part not_got not_relro not_tdata not_data not_bss =
      let got = got_fixes lines 0 (got_uses lines) in
      let preinit = array_fixes lines parts.PreinitArray 0 (entries arrays.Preinit lines) in
      let init = array_fixes lines parts.InitArray 0 (entries arrays.Init lines) in
      let fini = array_fixes lines parts.FiniArray 0 (entries arrays.Fini lines) in
      let relro = section_fixes lines sections.Relro 0 lines in
      let tdata = section_fixes lines sections.Tdata 0 lines in
      let content = section_fixes lines sections.Data 0 lines in
      let bss = section_fixes lines sections.Bss 0 lines in
      let one = counted_both part (got ++ preinit ++ init ++ fini ++ relro ++ tdata ++ content) bss in
      let two = counted_both part (got ++ preinit ++ init ++ fini ++ relro ++ tdata) content in
      let three = counted_both part (got ++ preinit ++ init ++ fini ++ relro) tdata in
      let four = counted_both part (got ++ preinit ++ init ++ fini) relro in
      let five = counted_both part (got ++ preinit ++ init) fini in
      let six = counted_both part (got ++ preinit) init in
      let seven = counted_both part got preinit in
      let in_got = none_of part parts.Got not_got got (of_got 0 (got_uses lines)) in
      let in_relro = no_section part sections.Relro not_relro in
      let in_tdata = no_section part sections.Tdata not_tdata in
      let in_content = no_section part sections.Data not_data in
      let in_bss = no_section part sections.Bss not_bss in
      omega (arith, one, two, three, four, five, six, seven, in_got, in_relro, in_tdata, in_content, in_bss)

  preinit_count : counted parts.PreinitArray (fixes_of lines) ≡ length (entries arrays.Preinit lines)
  preinit_count =
      let all = by_source parts.PreinitArray refl refl refl refl refl in
      let own = own_array parts.PreinitArray arrays.Preinit in
      let one = no_array parts.PreinitArray parts.InitArray refl arrays.Init in
      let other = no_array parts.PreinitArray parts.FiniArray refl arrays.Fini in
      omega (arith, all, own, one, other)

  init_count : counted parts.InitArray (fixes_of lines) ≡ length (entries arrays.Init lines)
  init_count =
      let all = by_source parts.InitArray refl refl refl refl refl in
      let own = own_array parts.InitArray arrays.Init in
      let one = no_array parts.InitArray parts.PreinitArray refl arrays.Preinit in
      let other = no_array parts.InitArray parts.FiniArray refl arrays.Fini in
      omega (arith, all, own, one, other)

  fini_count : counted parts.FiniArray (fixes_of lines) ≡ length (entries arrays.Fini lines)
  fini_count =
      let all = by_source parts.FiniArray refl refl refl refl refl in
      let own = own_array parts.FiniArray arrays.Fini in
      let one = no_array parts.FiniArray parts.PreinitArray refl arrays.Preinit in
      let other = no_array parts.FiniArray parts.InitArray refl arrays.Init in
      omega (arith, all, own, one, other)

  -- so its range is that of the entries
  span_is : (start size count n : ℕ) → count ≡ n → size ≡ 8 * count → span_if (nat_lt 0 count) start size ≡ (if nat_lt 0 n then Some (record { start = start; size = 8 * n }) else None)
  span_is start size count n same long =
      ap (λ k. span_if (nat_lt 0 k) start size) same ∙ ap (span_if (nat_lt 0 n) start) (long ∙ ap (λ k. 8 * k) same) ∙ chosen (nat_lt 0 n) (8 * n)
    where
      chosen : (b : Bool) (bytes : ℕ) → span_if b start bytes ≡ (if b then Some (record { start = start; size = bytes }) else None)
      chosen true bytes = refl
      chosen false bytes = refl

  pub preinit_is : said_array (contents_of lines) parts.PreinitArray ≡ array_of lines arrays.Preinit parts.PreinitArray
  unfolding size_of plain_size contents_of
  preinit_is =
      span_is (start_of lines parts.PreinitArray) (size_in (starts_of (contents_of lines)) parts.PreinitArray) (count_in (contents_of lines) parts.PreinitArray)
      (length (entries arrays.Preinit lines)) preinit_count (told (contents_of lines) parts.PreinitArray)

  pub init_is : said_array (contents_of lines) parts.InitArray ≡ array_of lines arrays.Init parts.InitArray
  unfolding size_of plain_size contents_of
  init_is =
      span_is (start_of lines parts.InitArray) (size_in (starts_of (contents_of lines)) parts.InitArray) (count_in (contents_of lines) parts.InitArray)
      (length (entries arrays.Init lines)) init_count (told (contents_of lines) parts.InitArray)

  pub fini_is : said_array (contents_of lines) parts.FiniArray ≡ array_of lines arrays.Fini parts.FiniArray
  unfolding size_of plain_size contents_of
  fini_is =
      span_is (start_of lines parts.FiniArray) (size_in (starts_of (contents_of lines)) parts.FiniArray) (count_in (contents_of lines) parts.FiniArray)
      (length (entries arrays.Fini lines)) fini_count (told (contents_of lines) parts.FiniArray)
