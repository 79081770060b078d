-- Indexes of versions have 15 bits, since a line is refused whose version has a greater one; an accepted object defines few versions.
use Rattle.std.proofs.Common.{◌≡◌, ◌∙◌, ap, sym, subst, refl, ℕ, zero, suc, ◌+◌, ◌^◌, ◌<◌, ◌≤◌, ◌&&◌, Bool, true, false, if◌then◌else◌, List, [], ◌∷◌, ◌++◌, length, map, filter, take, arith, append_assoc, inl, inr, ltb-true}
use Rattle.std.specs.Prelude.{Option, Some, None, option_map, slice_get, unwrap_or}
use Rattle.std.specs.Option.{option_map_or}
use Rattle.std.specs.Str.{bytes_eq}
use Rattle.std.proofs.Math.Seq.{take-append_seam}
use Rattle.std.proofs.lemmas.List.Sums.{sum_by-append, sum_by-cons}
use Rattle.std.proofs.lemmas.Slice.Eq.{bytes_eq-Decides}
use Rattle.ld_base.specs.declared.object.Verdef.{Verdef}
use Rattle.ld_base.specs.declared.parts.Tag.{Tag}
use Rattle.elf_versions.specs.Source.{Source}
use Rattle.elf_versions.specs.Spells.{AreVerdefs}
use Rattle.asm_laws.specs.ElfSpelled.Lemmas.Rows.{at_index}
use Rattle.asm_statement.specs.declared.directive.Directive.TheVariants as directives
use Rattle.asm_statement.specs.declared.directive.Need.{Need}
use Rattle.asm_statement.specs.declared.line.Line.{Line}
use Rattle.asm_statement.specs.declared.line.Statement.{Statement}
use Rattle.asm_statement.specs.declared.line.Statement.TheVariants as statements
use Rattle.asm_layout.specs.Faults.{HasNoFault, directive_fits, for_statement, is_version_index, need_fits, statement_fits, version_fits}
use Rattle.asm_layout.specs.Uses.{need_of, needs}
use Rattle.asm_layout.specs.Versions.{file_versions, first_needed, is_of_file, needed_files, needed_number, version_count, versions_before}
use Rattle.asm_laws.specs.Lemmas.Each.{Each}
use Rattle.asm_laws.specs.Lemmas.Lists.{IfThere, mapped, needs_each, once}
use Rattle.asm_laws.specs.Lemmas.Passed.{got_at, passes}
use Rattle.asm_accepted.proofs.Distinct.{own_place}
use Rattle.asm_accepted.proofs.Versions.{IndexesFit}

-- an accepted object defines 32,768 versions at most
pub verdefs_few : (src : Source) (tags : List Tag) (read : List Verdef) → AreVerdefs src tags read → length read ≤ 2 ^ 15
verdefs_few src tags read (inl (none, empty)) = let long = ap length empty in omega (arith, long)
verdefs_few src tags read (inr (start, is, few, linked)) = let long = linked.count in omega (arith, few, long)

got_here : {A : Type 0} (front : List A) (x : A) (back : List A) → slice_get (front ++ x ∷ back) (length front) ≡ Some x
got_here [] x back = refl
got_here (y ∷ front) x back = got_here front x back

at_place : {A : Type 0} (P : A → Type 0) (xs : List A) (k : ℕ) (x : A) → Each P xs → slice_get xs k ≡ Some x → P x
at_place P [] k x all is = absurd cc
at_place P (y ∷ xs) zero x (first, all) is = let same : y ≡ x = cc in subst P same first
at_place P (y ∷ xs) (suc k) x (first, all) is = at_place P xs k x all is

module _ (lines : List Line) (faultless : HasNoFault lines) where
  abbrev NeedFits : Need → Type 0
  NeedFits need = need_fits lines need ≡ true

  second_true : (a b : Bool) → (a && b) ≡ true → b ≡ true
  second_true true b is = is
  second_true false b is = absurd cc

  statement_need : (k : ℕ) (statement : Option Statement) → for_statement (statement_fits lines k) statement ≡ true → IfThere NeedFits (need_of statement)
  statement_need k (Some (statements.Directive (directives.Need need))) fits =
      second_true (directive_fits (directives.Need need)) (version_fits lines (directives.Need need)) fits
  statement_need k None fits = tt
  statement_need k (Some (statements.Instruction instruction)) fits = tt
  statement_need k (Some (statements.Directive _)) fits = tt

  lines_need : (before rest : List Line) → lines ≡ before ++ rest → Each (λ line. IfThere NeedFits (need_of line.statement)) rest
  lines_need before [] whole = tt
  lines_need before (line ∷ rest) whole =
      let here : slice_get lines (length before) ≡ Some line = ap (λ (all : List Line). slice_get all (length before)) whole ∙ got_at before line rest in
      let (fits, others) = passes lines (length before) line faultless here in
      (statement_need (length before) line.statement fits, lines_need (before ++ line ∷ []) rest (whole ∙ sym (append_assoc before (line ∷ []) rest)))

  -- the needs of a file
  abbrev FileFits : List ℕ → List ℕ → Type 0
  FileFits file version = option_map_or (λ number. is_version_index (first_needed lines + number)) (needed_number lines file version) true ≡ true

  of_file : (file : List ℕ) (all : List Need) → Each NeedFits all → Each (λ need. FileFits file need.version) (filter (is_of_file file) all)
  of_file file [] fit = tt
  of_file file (need ∷ all) (first, fit) =
      let rest = of_file file all fit in
      let P : Bool → Type 0 = λ b. bytes_eq file need.file ≡ b → Each (λ need. FileFits file need.version) (if b then need ∷ filter (is_of_file file) all else filter (is_of_file file) all) in
      let cases : (b : Bool) → P b = λ b. elim b as P [
        | true ↦ λ is. (subst (λ f. FileFits f need.version) (sym ((bytes_eq-Decides file need.file).0 is)) first, rest)
        | false ↦ λ _. rest
      ] in
      cases (bytes_eq file need.file) refl

  file_fits : (file : List ℕ) → Each (FileFits file) (file_versions lines file)
  unfolding file_versions
  file_fits file =
      let some = filter (is_of_file file) (needs lines) in
      once (FileFits file) bytes_eq _ (mapped (λ need. FileFits file need.version) (FileFits file) (λ need. need.version) (λ need fits. fits) some
      (of_file file (needs lines) (needs_each NeedFits lines (lines_need [] lines refl))))

  -- a version's number is that of those before it
  number_at : (file : List ℕ) (k : ℕ) (version : List ℕ) → slice_get (file_versions lines file) k ≡ Some version → needed_number lines file version ≡ Some (versions_before lines file + k)
  unfolding needed_number file_versions
  number_at file k version is =
      ap (λ (o : Option ℕ). option_map (λ at. versions_before lines file + at) o) (own_place (map (λ need. need.version) (filter (is_of_file file) (needs lines))) k version is)

  low_index : (file : List ℕ) (k : ℕ) → k < length (file_versions lines file) → first_needed lines + (versions_before lines file + k) < 0x8000
  low_index file k inside =
      let (version, is) = at_index (file_versions lines file) k inside in
      let fits = at_place (FileFits file) (file_versions lines file) k version (file_fits file) is in
      ltb-true (first_needed lines + (versions_before lines file + k)) 0x8000
      (subst (λ (o : Option ℕ). option_map_or (λ number. is_version_index (first_needed lines + number)) o true ≡ true) (number_at file k version is) fits)

  -- so many versions are needed of the files before one
  before_file : (front : List (List ℕ)) (file : List ℕ) (back : List (List ℕ)) → needed_files lines ≡ front ++ file ∷ back → versions_before lines file ≡ version_count lines front
  unfolding needed_files
  before_file front file back whole =
      let files = needed_files lines in
      let here : slice_get files (length front) ≡ Some file = ap (λ (all : List (List ℕ)). slice_get all (length front)) whole ∙ got_here front file back in
      let own = own_place (map (λ need. need.file) (needs lines)) (length front) file here in
      let placed : versions_before lines file ≡ version_count lines (take (length front) files) = ap (λ (o : Option ℕ). version_count lines (take (unwrap_or o 0) files)) own in
      placed ∙ ap (λ (all : List (List ℕ)). version_count lines (take (length front) all)) whole ∙ ap (version_count lines) (take-append_seam front (file ∷ back))

  more : (front : List (List ℕ)) (file : List ℕ) → version_count lines (front ++ file ∷ []) ≡ version_count lines front + length (file_versions lines file)
  more front file =
      let all = sum_by-append (λ file. length (file_versions lines file)) front (file ∷ []) in
      let one = sum_by-cons (λ file. length (file_versions lines file)) file [] in
      omega (arith, all, one)

  from_file : (front files : List (List ℕ)) → needed_files lines ≡ front ++ files → IndexesFit lines (first_needed lines + version_count lines front) files
  from_file front [] whole = tt
  from_file front (file ∷ files) whole =
      let before = before_file front file files whole in
      let next = more front file in
      let same : first_needed lines + version_count lines (front ++ file ∷ []) ≡ first_needed lines + version_count lines front + length (file_versions lines file) = omega (arith, next) in (
        (λ k inside. (let low = low_index file k inside in omega (arith, low, before))),
        subst (λ n. IndexesFit lines n files) same (from_file (front ++ file ∷ []) files (whole ∙ sym (append_assoc front (file ∷ []) files))),
      )

  pub indexes_fit : IndexesFit lines (first_needed lines) (needed_files lines)
  indexes_fit =
      let none : first_needed lines + version_count lines [] ≡ first_needed lines = omega arith in
      subst (λ n. IndexesFit lines n (needed_files lines)) none (from_file [] (needed_files lines) refl)
