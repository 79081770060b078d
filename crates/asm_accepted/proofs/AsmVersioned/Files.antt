-- Of each file so few versions are needed that their number fits a field, since each has an index.
use Rattle.std.proofs.Common.{◌≡◌, ◌∙◌, ap, sym, subst, refl, ℕ, ◌+◌, ◌<◌, ◌≤◌, ◌&&◌, Bool, true, false, if◌then◌else◌, List, [], ◌∷◌, ◌++◌, length, map, filter, arith, append_assoc, length-append, inl, inr}
use Rattle.std.specs.Prelude.{Option, Some, None, option_map, position, slice_get}
use Rattle.std.specs.Option.{option_map_or}
use Rattle.std.specs.Str.{bytes_eq}
use Rattle.std.proofs.lemmas.Bool.Decides.{nat_tests}
use Rattle.std.proofs.lemmas.Slice.Eq.{bytes_eq-Decides}
use Rattle.asm_statement.specs.declared.directive.Directive.TheVariants as directives
use Rattle.asm_statement.specs.declared.directive.Need.{Need}
use Rattle.asm_statement.specs.declared.line.Line.{Line}
use Rattle.asm_statement.specs.declared.line.Statement.{Statement}
use Rattle.asm_statement.specs.declared.line.Statement.TheVariants as statements
use Rattle.asm_layout.specs.Faults.{HasNoFault, directive_fits, for_statement, is_version_index, need_fits, statement_fits, version_fits}
use Rattle.asm_layout.specs.Uses.{need_of, needs}
use Rattle.asm_layout.specs.Versions.{file_versions, first_needed, is_of_file, needed_number, versions_before}
use Rattle.asm_laws.specs.Lemmas.Each.{Each}
use Rattle.asm_laws.specs.Lemmas.Lists.{IfThere, mapped, needs_each, once}
use Rattle.asm_laws.specs.Lemmas.Passed.{got_at, passes}
use Rattle.asm_accepted.proofs.AsmVersioned.Distinct.{last_one, new_in, own_place}

module _ (lines : List Line) where
  abbrev NeedFits : Need → Type 0
  NeedFits need = need_fits lines need ≡ true

  second_true : (a b : Bool) → (a && b) ≡ true → b ≡ true
  second_true true b is = is
  second_true false b is = absurd cc

  statement_need : (k : ℕ) (statement : Option Statement) → for_statement (statement_fits lines k) statement ≡ true → IfThere NeedFits (need_of statement)
  statement_need k (Some (statements.Directive (directives.Need need))) fits =
      second_true (directive_fits (directives.Need need)) (version_fits lines (directives.Need need)) fits
  statement_need k None fits = tt
  statement_need k (Some (statements.Instruction instruction)) fits = tt
  statement_need k (Some (statements.Directive _)) fits = tt

  lines_need : HasNoFault lines → (before rest : List Line) → lines ≡ before ++ rest → Each (λ line. IfThere NeedFits (need_of line.statement)) rest
  lines_need faultless before [] whole = tt
  lines_need faultless before (line ∷ rest) whole =
      let here : slice_get lines (length before) ≡ Some line = ap (λ (all : List Line). slice_get all (length before)) whole ∙ got_at before line rest in
      let (fits, others) = passes lines (length before) line faultless here in
      (statement_need (length before) line.statement fits, lines_need faultless (before ++ line ∷ []) rest (whole ∙ sym (append_assoc before (line ∷ []) rest)))

  -- a version of a file has an index that fits
  abbrev pub VersionFits : List ℕ → List ℕ → Type 0
  VersionFits file version = option_map_or (λ number. is_version_index (first_needed lines + number)) (needed_number lines file version) true ≡ true

  kept_also : {A : Type 0} (P : A → Type 0) (test : A → Bool) (xs : List A) → Each P xs → Each (λ x. P x × (test x ≡ true)) (filter test xs)
  kept_also P test [] all = tt
  kept_also {A} P test (x ∷ xs) (first, all) =
      let rest = kept_also P test xs all in
      let M : Bool → Type 0 = λ b. test x ≡ b → Each (λ x. P x × (test x ≡ true)) (if b then x ∷ filter test xs else filter test xs) in
      let cases : (b : Bool) → M b = λ b. elim b as M [ true ↦ λ is. ((first, is), rest) | false ↦ λ _. rest ] in
      cases (test x) refl

  pub versions_fit : HasNoFault lines → (file : List ℕ) → Each (VersionFits file) (file_versions lines file)
  unfolding file_versions
  versions_fit faultless file =
      let all = needs_each NeedFits lines (lines_need faultless [] lines refl) in
      let some = kept_also NeedFits (is_of_file file) (needs lines) all in
      let fits : (need : Need) → NeedFits need × (is_of_file file need ≡ true) → VersionFits file need.version = λ need both.
      (let same : file ≡ need.file = (bytes_eq-Decides file need.file).0 both.1 in subst (λ f. VersionFits f need.version) (sym same) both.0) in
      once (VersionFits file) bytes_eq _ (mapped (λ need. NeedFits need × (is_of_file file need ≡ true)) (VersionFits file) (λ need. need.version) fits (filter (is_of_file file) (needs lines)) some)

  last_of : {A : Type 0} (P : A → Type 0) (front : List A) (last : A) → Each P (front ++ last ∷ []) → P last
  last_of P [] last (is, all) = is
  last_of P (x ∷ front) last (first, all) = last_of P front last all

  same_name : (name : List ℕ) → bytes_eq name name ≡ true
  same_name name = (bytes_eq-Decides name name).1 refl

  -- the number of a version that stands behind so many others of its file
  pub number_at : (file : List ℕ) (front : List (List ℕ)) (version : List ℕ) (back : List (List ℕ)) → file_versions lines file ≡ front ++ version ∷ back
      → needed_number lines file version ≡ Some (versions_before lines file + length front)
  unfolding needed_number file_versions
  number_at file front version back whole =
      let new = new_in bytes_eq (map (λ need. need.version) (filter (is_of_file file) (needs lines))) front version back whole in
      let found = own_place (bytes_eq version) front version back new (same_name version) in
      ap (λ (o : Option ℕ). option_map (λ at. versions_before lines file + at) o) (ap (position (bytes_eq version)) whole ∙ found)

  low_index : (n m : ℕ) → is_version_index (n + m) ≡ true → m < 0x8000
  low_index n m is = grind (arith, nat_tests)

  pub versions_few : HasNoFault lines → (file : List ℕ) → length (file_versions lines file) ≤ 0x8000
  versions_few faultless file = elim (last_one (file_versions lines file)) as (λ _. length (file_versions lines file) ≤ 0x8000) [
    | inl none ↦ let empty = ap length none in omega (arith, empty)
    | inr (front, last, whole) ↦
        let fits = last_of (VersionFits file) front last (subst (Each (VersionFits file)) whole (versions_fit faultless file)) in
        let number = number_at file front last [] whole in
        let index : is_version_index (first_needed lines + (versions_before lines file + length front)) ≡ true
        = subst (λ (o : Option ℕ). option_map_or (λ number. is_version_index (first_needed lines + number)) o true ≡ true) number fits in
        let low = low_index (first_needed lines) (versions_before lines file + length front) index in
        let long = ap length whole in
        let one = length-append front (last ∷ []) in
        omega (arith, low, long, one)
  ]
