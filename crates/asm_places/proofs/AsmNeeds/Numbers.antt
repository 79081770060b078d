-- The number of a needed version, by the place of its file.
use Rattle.std.proofs.Common.{◌≡◌, ℕ, Bool, true, false, ◌||◌, List, [], ◌∷◌, filter, get_or, map, Some, None, refl, sym, ap, ◌∙◌}
use Rattle.std.specs.Prelude.{position, if◌then◌else◌}
use Rattle.std.specs.Option.{is_some}
use Rattle.std.specs.Str.{bytes_eq}
use Rattle.std.proofs.lemmas.List.Quantifiers.{position-Some}
use Rattle.std.proofs.lemmas.Slice.Eq.{bytes_eq-Decides}
use Rattle.asm_statement.specs.declared.directive.Need.{Need}
use Rattle.asm_statement.specs.declared.line.Line.{Line}
use Rattle.asm_layout.specs.Once.{is_among}
use Rattle.asm_layout.specs.Uses.{distinct, distinct_names, needs}
use Rattle.asm_layout.specs.Versions.{is_of_file, needed_files, file_versions, needed_number}
use Rattle.asm_layout.proofs.Distinct.{any_distinct}
use Rattle.asm_layout.proofs.Firsts.{any_found}
use Rattle.asm_places.specs.AsmNeeds.Files.{number_within}

pub number_found : (lines : List Line) (file version : List ℕ) (at : ℕ) → Some at ≡ position (bytes_eq file) (needed_files lines)
    → number_within lines at (get_or (needed_files lines) at []) version ≡ needed_number lines file version
unfolding needed_number
number_found lines file version at is =
    let there : bytes_eq file (get_or (needed_files lines) at []) ≡ true = (position-Some (bytes_eq file) (needed_files lines) at [] (sym is)).1 in
    let same : file ≡ get_or (needed_files lines) at [] = (bytes_eq-Decides file (get_or (needed_files lines) at [])).0 there in
    rw (← same, ← is) refl

-- a file that is none of them has no versions
none_of : (file : List ℕ) (needs : List Need) → is_among (map (λ need. need.file) needs) file ≡ false → filter (is_of_file file) needs ≡ []
none_of file [] e = refl
none_of file (need ∷ needs) e =
    let P : Bool → Type 0 = λ b. (b || is_among (map (λ need. need.file) needs) file) ≡ false → (if b then need ∷ filter (is_of_file file) needs else filter (is_of_file file) needs) ≡ [] in
    let cases : (b : Bool) → P b = λ b. elim b as P [ true ↦ λ h. absurd (cc h) | false ↦ λ h. none_of file needs h ] in
    cases (bytes_eq file need.file) e

pub number_nowhere : (lines : List Line) (file version : List ℕ) → None ≡ position (bytes_eq file) (needed_files lines)
    → None ≡ needed_number lines file version
unfolding needed_number needed_files file_versions distinct
number_nowhere lines file version is =
    let files = map (λ (need : Need). need.file) (needs lines) in
    let absent : is_among files file ≡ false =
    sym (any_distinct files file) ∙ sym (any_found (bytes_eq file) (distinct_names files)) ∙ sym (ap is_some is) in
    rw (none_of file (needs lines) absent) refl
