-- Strings one behind another, and where those of each kind begin.
use Rattle.std.proofs.Common.{◌≡◌, ◌∙◌, ap, sym, ℕ, ◌+◌, ◌<◌, ◌^◌, List, [], ◌∷◌, ◌++◌, flat_map, get_or, length, map, refl, append_assoc, arith}
use Rattle.std.specs.Prelude.{Result, Ok, Err, OnOk}
use Rattle.std.proofs.lemmas.Grind.{flat_map-append}
use Rattle.std.proofs.lemmas.List.{ext_get_or, get_or-map, length-append, length-map}
use Rattle.std.proofs.lemmas.List.Folds.{flat_map-map}
use Rattle.std.proofs.lemmas.List.Sums.{sum_by-cons}
use Rattle.asm_write.specs.declared.contents.VersionRecord.{VersionRecord}
use Rattle.asm_statement.specs.declared.line.Line.{Line}
use Rattle.asm_layout.specs.Contents.{string_bytes}
use Rattle.asm_layout.specs.Versions.{base_record, file_versions, needed_files, records_for, strings_length, word}
use Rattle.asm_layout.proofs.Offsets.{cut_versions}
use Rattle.asm_places.specs.declared.asm_needs.needed_file.NeededFile.{NeededFile}
use Rattle.asm_places.specs.AsmNeeds.Files.{file_of}

-- what is so where an answer is one, and so something else
pub on_ok : {T E : Type 0} {P Q : Type 0} (r : Result T E) → OnOk r P → (P → Q) → OnOk r Q
on_ok (Ok value) is so = so is
on_ok (Err error) is so = tt

pub small : (n : ℕ) → n < 2 ^ 32 → word n ≡ n
small n below = omega arith

string_size : (name : List ℕ) → length (string_bytes name) ≡ length name + 1
unfolding string_bytes
string_size name = length-append name (0 ∷ [])

pub strings_size : (names : List (List ℕ)) → length (flat_map string_bytes names) ≡ strings_length names
strings_size [] = refl
strings_size (name ∷ names) =
    length-append (string_bytes name) (flat_map string_bytes names)
    ∙ ap (λ (n : ℕ). n + length (flat_map string_bytes names)) (string_size name)
    ∙ ap (λ (n : ℕ). length name + 1 + n) (strings_size names)
    ∙ sym (sum_by-cons (λ (name : List ℕ). length name + 1) name names)

pub grown : (out new : List ℕ) (at : ℕ) (names : List (List ℕ)) → length out ≡ at → new ≡ out ++ flat_map string_bytes names → length new ≡ at + strings_length names
grown out new at names size is =
    ap length is ∙ length-append out (flat_map string_bytes names) ∙ ap (λ (n : ℕ). n + length (flat_map string_bytes names)) size
    ∙ ap (λ (n : ℕ). at + n) (strings_size names)

pub joined : (f : List ℕ → List ℕ) (o : List ℕ) (a b c d e g h : List (List ℕ))
    → ((((((o ++ flat_map f a) ++ flat_map f b) ++ flat_map f c) ++ flat_map f d) ++ flat_map f e) ++ flat_map f g) ++ flat_map f h
    ≡ o ++ flat_map f ((((((a ++ b) ++ c) ++ d) ++ e) ++ g) ++ h)
joined f o a b c d e g h = simp (flat_map-append, append_assoc)

pub file_names : (lines : List Line) (files : List NeededFile) → length files ≡ length (needed_files lines)
    → ((k : ℕ) (d : NeededFile) → k < length (needed_files lines) → get_or files k d ≡ file_of lines (get_or (needed_files lines) k []))
    → flat_map (λ (file : NeededFile). file.versions) files ≡ flat_map (file_versions lines) (needed_files lines)
file_names lines files all each =
    let own : NeededFile → List (List ℕ) = λ file. file.versions in
    let names = needed_files lines in
    let none : NeededFile = record { versions = []; strong = [] } in
    let same : map own files ≡ map (file_versions lines) names =
    ext_get_or [] (map own files) (map (file_versions lines) names) (length-map files own ∙ all ∙ sym (length-map names (file_versions lines)))
    (λ k below.
    let fits : k < length files = rw (← length-map files own) below in
    let named : k < length names = rw (← all) fits in
    get_or-map own files k none [] fits ∙ ap own (each k none named) ∙ sym (get_or-map (file_versions lines) names k [] [] named)) in
    sym (flat_map-map (λ (list : List (List ℕ)). list) own files) ∙ ap (flat_map (λ (list : List (List ℕ)). list)) same
    ∙ flat_map-map (λ (list : List (List ℕ)). list) (file_versions lines) names

pub cut_own : (own : List ℕ) (own_at a : ℕ) (names : List (List ℕ)) → records_for own own_at (word a) names ≡ records_for own own_at a names
cut_own own own_at a [] = refl
cut_own own own_at a (name ∷ names) =
    ap (λ (rest : List VersionRecord). base_record own own_at (name ∷ names) ∷ rest) (cut_versions 2 a (name ∷ names))
