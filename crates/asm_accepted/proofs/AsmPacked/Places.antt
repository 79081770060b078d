-- Each place that is packed is even, and lies in its part.
use Rattle.std.proofs.Common.{◌≡◌, ◌∙◌, ap, sym, subst, refl, ℕ, suc, ◌+◌, ◌*◌, ◌%◌, ◌^◌, ◌<◌, ◌≤◌, ◌==◌, ◌&&◌, Bool, true, false, if◌then◌else◌, List, [], ◌∷◌, ◌++◌, length, take, arith, append_assoc, append-nil, length-append}
use Rattle.std.specs.Prelude.{Option, Some, slice_get}
use Rattle.std.specs.List.{count_by}
use Rattle.std.proofs.lemmas.Bool.Decides.{nat_tests}
use Rattle.std.proofs.lemmas.List.Sums.{sum_by-append, sum_by-cons}
use Rattle.asm_write.specs.declared.contents.Fix.{Fix}
use Rattle.asm_write.specs.declared.contents.FixKind.TheVariants as kinds
use Rattle.asm_write.specs.declared.contents.Spot.{Spot}
use Rattle.asm_write.specs.declared.contents.Way.TheVariants as ways
use Rattle.asm_write.specs.declared.part.Part.{Part}
use Rattle.asm_write.specs.declared.part.Part.TheVariants as parts
use Rattle.asm_write.specs.Parts.{number_of}
use Rattle.asm_write.specs.Sizes.{has_packed, is_packed, plain_size, stands_in}
use Rattle.asm_write.specs.Starts.{size_in, size_of, start_in, starts_of, wrapped}
use Rattle.asm_laws.specs.ElfSpelled.Lemmas.Starting.{told}
use Rattle.asm_statement.specs.declared.directive.Array.TheVariants as arrays
use Rattle.asm_statement.specs.declared.directive.Directive.TheVariants as directives
use Rattle.asm_statement.specs.declared.directive.Doubleword.TheVariants as doublewords
use Rattle.asm_statement.specs.declared.directive.Section.{Section}
use Rattle.asm_statement.specs.declared.directive.Section.TheVariants as sections
use Rattle.asm_statement.specs.declared.line.Line.{Line}
use Rattle.asm_statement.specs.declared.line.Statement.{Statement}
use Rattle.asm_statement.specs.declared.line.Statement.TheVariants as statements
use Rattle.asm_layout.specs.declared.place.Place.{Place}
use Rattle.asm_layout.specs.declared.uses.GotKind.TheVariants as gots
use Rattle.asm_layout.specs.declared.uses.GotUse.{GotUse}
use Rattle.asm_layout.specs.Contents.{contents_of}
use Rattle.asm_layout.specs.Faults.{HasNoFault, for_statement, holds_addresses, statement_may_stand}
use Rattle.asm_layout.specs.Fixes.{address_fix, address_way, array_fix, array_fixes, fixes_of, got_fix, got_fixes, is_at_doubleword, line_fixes, phase, section_fixes, statement_fixes, table_spot, tls_fix}
use Rattle.asm_layout.specs.Names.{is_executable, is_preemptible, kind_of}
use Rattle.asm_layout.specs.Places.{directive_size, filled, is_section, place_after, place_at, section_after, size_at}
use Rattle.asm_layout.specs.Spots.{part_of, spot_of}
use Rattle.asm_layout.specs.Tables.{entries, got_words, is_relr}
use Rattle.asm_layout.specs.Uses.{got_uses}
use Rattle.asm_laws.specs.AsmWhole.Aligned.{AreAligned}
use Rattle.asm_laws.specs.Lemmas.Each.{Each, both}
use Rattle.asm_laws.specs.Lemmas.Filled.{one_more}
use Rattle.asm_laws.specs.Lemmas.Passed.{got_at, passes}
use Rattle.asm_accepted.proofs.AsmPacked.Even.{data_even, eight_fini, eight_got, eight_init, eight_preinit, relro_even, size_data, size_relro, size_tdata, tdata_even}

-- How many places a part has

abbrev counted : Part → List Fix → ℕ
counted part fixes = count_by (stands_in part) fixes

count_both : (part : Part) (one other : List Fix) → counted part (one ++ other) ≡ counted part one + counted part other
count_both part one other = sum_by-append (λ fix. if stands_in part fix then 1 else 0) one other

count_one : (part : Part) (fix : Fix) (fixes : List Fix) → stands_in part fix ≡ true → counted part (fix ∷ fixes) ≡ suc (counted part fixes)
count_one part fix fixes there =
    let sum = sum_by-cons (λ fix. if stands_in part fix then 1 else 0) fix fixes in
    let to_count : Bool → ℕ = λ b. if b then 1 else 0 in
    let one : to_count (stands_in part fix) ≡ to_count true = ap to_count there in
    omega (arith, sum, one)

itself : (n : ℕ) → (n == n) ≡ true
itself n = grind (arith, nat_tests)

array_counted : (lines : List Line) (part : Part) (offset : ℕ) (names : List (List ℕ)) → counted part (array_fixes lines part offset names) ≡ length names
array_counted lines part offset [] = refl
array_counted lines part offset (name ∷ names) =
    count_one part (array_fix lines part offset name) (array_fixes lines part (offset + 8) names) (itself (number_of part)) ∙ ap suc (array_counted lines part (offset + 8) names)

got_counted : (lines : List Line) (offset : ℕ) (uses : List GotUse) → counted parts.Got (got_fixes lines offset uses) ≡ length (got_fixes lines offset uses)
got_counted lines offset [] = refl
got_counted lines offset (got ∷ uses) = elim got.kind as (λ kind.
    counted parts.Got (got_fix lines offset got.name kind ++ got_fixes lines (offset + 8 * got_words kind) uses) ≡ length (got_fix lines offset got.name kind ++ got_fixes lines (offset + 8 * got_words kind) uses)) [
      | gots.Address ↦
          count_one parts.Got (address_fix lines (table_spot parts.Got offset) got.name 0) (got_fixes lines (offset + 8 * 1) uses) refl ∙ ap suc (got_counted lines (offset + 8 * 1) uses)
      | gots.Pair ↦
          let other = tls_fix lines kinds.Offset (offset + 8) got.name in
          let rest = got_fixes lines (offset + 8 * 2) uses in
          count_one parts.Got (tls_fix lines kinds.Module offset got.name) (other ∷ rest) refl ∙ ap suc (count_one parts.Got other rest refl ∙ ap suc (got_counted lines (offset + 8 * 2) uses))
      | gots.Offset ↦
          count_one parts.Got (tls_fix lines kinds.ThreadOffset offset got.name) (got_fixes lines (offset + 8 * 1) uses) refl ∙ ap suc (got_counted lines (offset + 8 * 1) uses)
    ]

-- What a packed place is

pub record IsPacked (lines : List Line) (fix : Fix) : Type 0 where
  pub address : fix.kind ≡ kinds.Address
  pub inside : fix.spot.offset + 8 ≤ size_in (starts_of (contents_of lines)) fix.spot.part
  pub even : (start_in (starts_of (contents_of lines)) fix.spot.part + fix.spot.offset) % 2 ≡ 0

abbrev pub IfPacked : List Line → Fix → Type 0
IfPacked lines fix = has_packed fix ≡ true → IsPacked lines fix

-- a place that is packed if it stands at a doubleword does so
at_doubleword : (lines : List Line) (spot : Spot) (name : List ℕ) → is_packed (address_way lines spot name) ≡ true → (phase lines spot.part + spot.offset) % 8 ≡ 0
at_doubleword lines spot name is =
    let at = by_name (is_preemptible lines name) (is_executable (kind_of lines)) (is_relr lines) (is_at_doubleword lines spot) is in
    eight (phase lines spot.part + spot.offset) at
  where
    eight : (n : ℕ) → (n % 8 == 0) ≡ true → n % 8 ≡ 0
    eight n is = grind (arith, nat_tests)

    by_name : (foreign final asked at : Bool) → is_packed (if foreign then ways.Listed else if final then ways.Plain else if asked && at then ways.Packed else ways.Listed) ≡ true → at ≡ true
    by_name true final asked at is = absurd cc
    by_name false true asked at is = absurd cc
    by_name false false false at is = absurd cc
    by_name false false true true is = refl
    by_name false false true false is = absurd cc

unwrapped : (n : ℕ) → n < 2 ^ 62 → wrapped n ≡ n
unwrapped n low = omega (arith, low)

module _ (lines : List Line) (all : AreAligned lines) (low : (part : Part) → size_in (starts_of (contents_of lines)) part < 2 ^ 62) where
  -- tables have a doubleword for each of their places
  size_got : size_in (starts_of (contents_of lines)) parts.Got ≡ 8 * counted parts.Got (fixes_of lines)
  unfolding size_of plain_size contents_of
  size_got = told (contents_of lines) parts.Got

  size_preinit : size_in (starts_of (contents_of lines)) parts.PreinitArray ≡ 8 * counted parts.PreinitArray (fixes_of lines)
  unfolding size_of plain_size contents_of
  size_preinit = told (contents_of lines) parts.PreinitArray

  size_init : size_in (starts_of (contents_of lines)) parts.InitArray ≡ 8 * counted parts.InitArray (fixes_of lines)
  unfolding size_of plain_size contents_of
  size_init = told (contents_of lines) parts.InitArray

  size_fini : size_in (starts_of (contents_of lines)) parts.FiniArray ≡ 8 * counted parts.FiniArray (fixes_of lines)
  unfolding size_of plain_size contents_of
  size_fini = told (contents_of lines) parts.FiniArray

  -- The global offset table

  got_packed : (offset : ℕ) (uses : List GotUse) → offset + 8 * length (got_fixes lines offset uses) ≤ size_in (starts_of (contents_of lines)) parts.Got
      → Each (IfPacked lines) (got_fixes lines offset uses)
  got_packed offset [] inside = tt
  got_packed offset (got ∷ uses) inside =
      let begin = eight_got lines all in
      let small = low parts.Got in
      let word : (rest : List Fix) → offset + 8 * suc (length rest) ≤ size_in (starts_of (contents_of lines)) parts.Got → IfPacked lines (address_fix lines (record { part = parts.Got; offset = wrapped offset }) got.name 0)
      = λ rest room is.
      let same = unwrapped offset (omega (arith, room, small)) in
      let at = at_doubleword lines (record { part = parts.Got; offset = wrapped offset }) got.name is in
      record { address = refl; inside = omega (arith, room, same); even = omega (arith, at, begin, same) } in
      (elim got.kind as (λ kind. offset + 8 * length (got_fix lines offset got.name kind ++ got_fixes lines (offset + 8 * got_words kind) uses) ≤ size_in (starts_of (contents_of lines)) parts.Got
      → Each (IfPacked lines) (got_fix lines offset got.name kind ++ got_fixes lines (offset + 8 * got_words kind) uses)) [
        | gots.Address ↦ λ room. (word (got_fixes lines (offset + 8 * 1) uses) room, got_packed (offset + 8 * 1) uses (omega (arith, room)))
        | gots.Pair ↦ λ room. ((λ is. absurd cc), ((λ is. absurd cc), got_packed (offset + 8 * 2) uses (omega (arith, room))))
        | gots.Offset ↦ λ room. ((λ is. absurd cc), got_packed (offset + 8 * 1) uses (omega (arith, room)))
      ]) inside

  -- An array

  array_packed : (part : Part) → start_in (starts_of (contents_of lines)) part % 8 ≡ 0 → (offset : ℕ) → offset % 8 ≡ 0 → (names : List (List ℕ))
      → offset + 8 * length names ≤ size_in (starts_of (contents_of lines)) part → Each (IfPacked lines) (array_fixes lines part offset names)
  array_packed part begin offset at [] inside = tt
  array_packed part begin offset at (name ∷ names) inside =
      let small = low part in
      let same = unwrapped offset (omega (arith, inside, small)) in (
        (λ is. record { address = refl; inside = omega (arith, inside, same); even = omega (arith, at, begin, same) }),
        array_packed part begin (offset + 8) (omega (arith, at)) names (omega (arith, inside)),
      )

  -- A section

  filled_more : (section : Section) (before rest : List Line) → filled section before ≤ filled section (before ++ rest)
  filled_more section before [] = let same = ap (filled section) (append-nil before) in omega (arith, same)
  filled_more section before (line ∷ rest) =
      let one = one_more section before line in
      let step : filled section before ≤ filled section (before ++ line ∷ [])
      = subst (λ n. filled section before ≤ n) (sym one) (grown (is_section section (section_after before)) (filled section before) (size_at (filled section before) line.statement)) in
      let more = filled_more section (before ++ line ∷ []) rest in
      let same = ap (filled section) (append_assoc before (line ∷ []) rest) in
      omega (arith, step, more, same)
    where
      grown : (b : Bool) (n m : ℕ) → n ≤ (if b then n + m else n)
      grown true n m = omega arith
      grown false n m = omega arith

  section_size : (section : Section) → holds_addresses section ≡ true → size_in (starts_of (contents_of lines)) (part_of section) ≡ filled section lines
  section_size sections.Relro is = size_relro lines all
  section_size sections.Data is = size_data lines all
  section_size sections.Tdata is = size_tdata lines all
  section_size sections.Text is = absurd cc
  section_size sections.Rodata is = absurd cc
  section_size sections.Bss is = absurd cc
  section_size sections.Tbss is = absurd cc

  section_even : (section : Section) (offset : ℕ) → holds_addresses section ≡ true → 0 < filled section lines → (phase lines (part_of section) + offset) % 8 ≡ 0
      → (start_in (starts_of (contents_of lines)) (part_of section) + offset) % 2 ≡ 0
  section_even sections.Relro offset is some at = let begin = relro_even lines all in omega (arith, begin, at)
  section_even sections.Data offset is some at = let begin = data_even lines all in omega (arith, begin, at)
  section_even sections.Tdata offset is some at = tdata_even lines all offset some at
  section_even sections.Text offset is some at = absurd cc
  section_even sections.Rodata offset is some at = absurd cc
  section_even sections.Bss offset is some at = absurd cc
  section_even sections.Tbss offset is some at = absurd cc

  -- a statement at a place, where its section is filled to, and further behind it
  statement_packed : (place : Place) (statement : Option Statement) → for_statement (statement_may_stand place.section) statement ≡ true
      → place.offset + size_at place.offset statement ≤ filled place.section lines → Each (IfPacked lines) (statement_fixes lines (spot_of place) statement)
  unfolding directive_size
  statement_packed place (Some (statements.Directive (directives.Dword (doublewords.Address name addend)))) stands more = (
    (λ is.
        let at = at_doubleword lines (spot_of place) name is in
        let long = section_size place.section stands in
        record { address = refl; inside = omega (arith, long, more); even = section_even place.section place.offset stands (omega (arith, more)) at }),
    tt,
  )
  statement_packed place (Some (statements.Directive (directives.Copy name size))) stands more = ((λ is. absurd cc), tt)
  statement_packed place _ stands more = tt

  module _ (faultless : HasNoFault lines) where
    section_packed : (section : Section) (before rest : List Line) (k : ℕ) → k ≡ length before → lines ≡ before ++ rest → Each (IfPacked lines) (section_fixes lines section k rest)
    section_packed section before [] k count whole = tt
    section_packed section before (line ∷ rest) k count whole =
        let here : slice_get lines k ≡ Some line = ap (slice_get lines) count ∙ ap (λ (all : List Line). slice_get all (length before)) whole ∙ got_at before line rest in
        let (fits, known, stands) = parts_of (passes lines k line faultless here) in
        let place = place_at lines k in
        let at : place ≡ place_after before = ap place_after (ap (λ n. take n lines) count ∙ ap (λ ls. take (length before) ls) whole ∙ take_front before (line ∷ rest)) in
        let longer : k + 1 ≡ length (before ++ line ∷ []) = omega (arith, count, length-append before (line ∷ [])) in
        let further : lines ≡ (before ++ line ∷ []) ++ rest = whole ∙ sym (append_assoc before (line ∷ []) rest) in
        let P : Bool → Type 0 = λ b. is_section section place.section ≡ b → Each (IfPacked lines) (if b then statement_fixes lines (spot_of place) line.statement else []) in
        let own : P true = λ is. statement_packed place line.statement stands
        (subst (λ (p : Place). p.offset + size_at p.offset line.statement ≤ filled p.section lines) (sym at) (room before line rest further)) in
        let cases : (b : Bool) → P b = λ b. elim b as P [ true ↦ own | false ↦ λ _. tt ] in
        both (IfPacked lines) (line_fixes lines section place line) (section_fixes lines section (k + 1) rest) (cases (is_section section place.section) refl)
        (section_packed section (before ++ line ∷ []) rest (k + 1) longer further)
      where
        parts_of : {A B C : Type 0} → A × (B × C) → A × B × C
        parts_of (a, (b, c)) = (a, b, c)

        take_front : {A : Type 0} (xs ys : List A) → take (length xs) (xs ++ ys) ≡ xs
        take_front [] ys = refl
        take_front (x ∷ xs) ys = ap (λ rest. x ∷ rest) (take_front xs ys)

        one_section : (section : Section) → is_section section section ≡ true
        one_section sections.Text = refl
        one_section _ = refl

        room : (before : List Line) (line : Line) (rest : List Line) → lines ≡ (before ++ line ∷ []) ++ rest
            → (place_after before).offset + size_at (place_after before).offset line.statement ≤ filled (place_after before).section lines
        room before line rest whole =
            let section = section_after before in
            let one = one_more section before line ∙ ap (λ b. if b then filled section before + size_at (filled section before) line.statement else filled section before) (one_section section) in
            let more = filled_more section (before ++ line ∷ []) rest in
            let same = ap (filled section) whole in
            omega (arith, one, more, same)

    pub all_packed : Each (IfPacked lines) (fixes_of lines)
    unfolding fixes_of
    all_packed =
        let starts = starts_of (contents_of lines) in
        let got = got_fixes lines 0 (got_uses lines) in
        let preinit = array_fixes lines parts.PreinitArray 0 (entries arrays.Preinit lines) in
        let init = array_fixes lines parts.InitArray 0 (entries arrays.Init lines) in
        let fini = array_fixes lines parts.FiniArray 0 (entries arrays.Fini lines) in
        let relro = section_fixes lines sections.Relro 0 lines in
        let tdata = section_fixes lines sections.Tdata 0 lines in
        let content = section_fixes lines sections.Data 0 lines in
        let bss = section_fixes lines sections.Bss 0 lines in
        let room : (part : Part) → size_in starts part ≡ 8 * counted part (got ++ preinit ++ init ++ fini ++ relro ++ tdata ++ content ++ bss)
        → 8 * (counted part got + counted part preinit + counted part init + counted part fini) ≤ size_in starts part = λ part long.
        let one = count_both part (got ++ preinit ++ init ++ fini ++ relro ++ tdata ++ content) bss in
        let two = count_both part (got ++ preinit ++ init ++ fini ++ relro ++ tdata) content in
        let three = count_both part (got ++ preinit ++ init ++ fini ++ relro) tdata in
        let four = count_both part (got ++ preinit ++ init ++ fini) relro in
        let five = count_both part (got ++ preinit ++ init) fini in
        let six = count_both part (got ++ preinit) init in
        let seven = count_both part got preinit in
        omega (arith, long, one, two, three, four, five, six, seven) in
        let of_got = room parts.Got size_got in
        let of_preinit = room parts.PreinitArray size_preinit in
        let of_init = room parts.InitArray size_init in
        let of_fini = room parts.FiniArray size_fini in
        let in_got = got_counted lines 0 (got_uses lines) in
        let in_preinit = array_counted lines parts.PreinitArray 0 (entries arrays.Preinit lines) in
        let in_init = array_counted lines parts.InitArray 0 (entries arrays.Init lines) in
        let in_fini = array_counted lines parts.FiniArray 0 (entries arrays.Fini lines) in
        both (IfPacked lines) _ bss
        (both (IfPacked lines) _ content
        (both (IfPacked lines) _ tdata
        (both (IfPacked lines) _ relro
        (both (IfPacked lines) _ fini
        (both (IfPacked lines) _ init
        (both (IfPacked lines) got preinit
        (got_packed 0 (got_uses lines) (omega (arith, of_got, in_got)))
        (array_packed parts.PreinitArray (eight_preinit lines all) 0 refl (entries arrays.Preinit lines) (omega (arith, of_preinit, in_preinit))))
        (array_packed parts.InitArray (eight_init lines all) 0 refl (entries arrays.Init lines) (omega (arith, of_init, in_init))))
        (array_packed parts.FiniArray (eight_fini lines all) 0 refl (entries arrays.Fini lines) (omega (arith, of_fini, in_fini))))
        (section_packed sections.Relro [] lines 0 refl refl))
        (section_packed sections.Tdata [] lines 0 refl refl))
        (section_packed sections.Data [] lines 0 refl refl))
        (section_packed sections.Bss [] lines 0 refl refl)
