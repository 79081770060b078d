-- What is kept of files is what the needs of lines ask of them.
use Rattle.std.proofs.Common.{◌≡◌, ℕ, zero, suc, ◌+◌, ◌<◌, List, [], ◌∷◌, length, get_or, map, take, refl, sym, ap, ◌∙◌, arith}
use Rattle.std.specs.Prelude.{fold}
use Rattle.std.proofs.lemmas.List.{ext_get_or, get_or-map, length-map}
use Rattle.asm_statement.specs.declared.directive.Need.{Need}
use Rattle.asm_statement.specs.declared.line.Line.{Line}
use Rattle.asm_layout.specs.Uses.{distinct_names, needs}
use Rattle.asm_layout.specs.Versions.{needed_files, file_versions, strong_versions, version_count}
use Rattle.asm_places.specs.declared.asm_needs.needed_file.NeededFile.{NeededFile}
use Rattle.asm_places.specs.AsmNeeds.Files.{file_of}
use Rattle.asm_places.specs.AsmNeeds.Filled.{nothing, part_of, ArePartOf, running_counts}

pub built_names : (lines : List Line) (own : List Need) (names : List (List ℕ)) → own ≡ needs lines → names ≡ distinct_names (map (λ need. need.file) own)
    → names ≡ needed_files lines
unfolding needed_files
built_names lines own names same is = is ∙ ap (λ (needs : List Need). distinct_names (map (λ need. need.file) needs)) same

part_in : (lines : List Line) (file : List ℕ) → part_of (needs lines) file ≡ file_of lines file
unfolding file_versions strong_versions
part_in lines file = refl

pub built_each : (lines : List Line) (own : List Need) (names : List (List ℕ)) (files : List NeededFile) → own ≡ needs lines → names ≡ needed_files lines
    → ArePartOf names own files → (k : ℕ) (d : NeededFile) → k < length (needed_files lines)
    → get_or files k d ≡ file_of lines (get_or (needed_files lines) k [])
built_each lines own names files same is are k d below =
    are.each k d (rw is below)
    ∙ ap (λ (needs : List Need). part_of needs (get_or names k [])) same
    ∙ ap (λ (names : List (List ℕ)). part_of (needs lines) (get_or names k [])) is
    ∙ part_in lines (get_or (needed_files lines) k [])

running_at : (count : List ℕ → ℕ) (before : ℕ) (names : List (List ℕ)) (k : ℕ) → k < length names
    → get_or (running_counts before (map count names)) k 0 ≡ fold (λ sum name. sum + count name) before (take k names)
running_at count before [] k below = absurd (omega arith)
running_at count before (name ∷ names) zero below = refl
running_at count before (name ∷ names) (suc k) below = running_at count (before + count name) names k (omega arith)

counted : (lines : List Line) (files : List NeededFile) → length files ≡ length (needed_files lines)
    → ((k : ℕ) (d : NeededFile) → k < length (needed_files lines) → get_or files k d ≡ file_of lines (get_or (needed_files lines) k []))
    → map (λ (file : NeededFile). length file.versions) files ≡ map (λ file. length (file_versions lines file)) (needed_files lines)
counted lines files all each =
    let count : NeededFile → ℕ = λ file. length file.versions in
    let count_of : List ℕ → ℕ = λ file. length (file_versions lines file) in
    let names = needed_files lines in
    ext_get_or 0 (map count files) (map count_of names) (length-map files count ∙ all ∙ sym (length-map names count_of))
    (λ k below.
    let fits : k < length files = rw (← length-map files count) below in
    let named : k < length names = rw (← all) fits in
    get_or-map count files k nothing 0 fits ∙ ap count (each k nothing named) ∙ sym (get_or-map count_of names k [] 0 named))

pub built_firsts : (lines : List Line) (files : List NeededFile) (firsts : List ℕ) → length files ≡ length (needed_files lines)
    → ((k : ℕ) (d : NeededFile) → k < length (needed_files lines) → get_or files k d ≡ file_of lines (get_or (needed_files lines) k []))
    → firsts ≡ running_counts 0 (map (λ (file : NeededFile). length file.versions) files)
    → (k : ℕ) → k < length (needed_files lines) → get_or firsts k 0 ≡ version_count lines (take k (needed_files lines))
built_firsts lines files firsts all each is k below =
    ap (λ (firsts : List ℕ). get_or firsts k 0) (is ∙ ap (running_counts 0) (counted lines files all each))
    ∙ running_at (λ file. length (file_versions lines file)) 0 (needed_files lines) k below

pub length-running_counts : (before : ℕ) (counts : List ℕ) → length (running_counts before counts) ≡ length counts
length-running_counts before [] = refl
length-running_counts before (count ∷ counts) = ap suc (length-running_counts (before + count) counts)
