-- The records of needed versions, one more.
use Rattle.std.proofs.Common.{◌≡◌, ◌∙◌, ap, sym, ℕ, zero, suc, ◌+◌, ◌-◌, ◌*◌, ◌<◌, List, [], ◌∷◌, ◌++◌, drop, get_or, length, take, refl, append_assoc, add-one, length-drop, arith}
use Rattle.std.specs.Prelude.{fold}
use Rattle.std.proofs.Math.Seq.{drop-cons}
use Rattle.std.proofs.lemmas.List.{take_all, take_more}
use Rattle.std.proofs.lemmas.List.Sums.{fold-append, sum_by-cons}
use Rattle.asm_write.specs.declared.contents.NeedRecord.{NeedRecord}
use Rattle.asm_write.specs.declared.contents.NeededVersion.{NeededVersion}
use Rattle.sym_hash.specs.Hash.{sysv_hash}
use Rattle.asm_statement.specs.declared.line.Line.{Line}
use Rattle.asm_layout.specs.Versions.{half, word, next_need, need_records, needed_of, needed_records, file_versions, version_flags, version_count, strings_length}
use Rattle.asm_layout.proofs.Offsets.{behind_many, cut, cut_files, cut_needed_of, cut_needed}

-- what stands behind an element, as a slice, and with it
pub tail_slice : {X : Type 0} (xs : List X) (k : ℕ) → take (length xs - k) (drop k xs) ≡ drop k xs
tail_slice xs k = let size = length-drop k xs in take_all (length xs - k) (drop k xs) (omega (arith, size))

pub same_default : {X : Type 0} (xs : List X) (n : ℕ) (d e : X) → n < length xs → get_or xs n d ≡ get_or xs n e
same_default [] n d e below = absurd (omega arith)
same_default (x ∷ xs) zero d e below = refl
same_default (x ∷ xs) (suc n) d e below = same_default xs n d e (omega arith)

pub from_here : {X : Type 0} (xs : List X) (n : ℕ) (x : X) → n < length xs → x ≡ get_or xs n x → drop n xs ≡ x ∷ drop (n + 1) xs
from_here {X} xs n x below is =
    drop-cons xs n x below ∙ ap (λ (y : X). y ∷ drop (suc n) xs) (sym is) ∙ ap (λ (m : ℕ). x ∷ drop m xs) (sym (add-one n))

pub count_more : (lines : List Line) (files : List (List ℕ)) (n : ℕ) → n < length files
    → version_count lines (take (n + 1) files) ≡ version_count lines (take n files) + length (file_versions lines (get_or files n []))
count_more lines files n below =
    let count : ℕ → List ℕ → ℕ = λ sum file. sum + length (file_versions lines file) in
    ap (fold count 0) (take_more files n [] below) ∙ fold-append count 0 (take n files) (get_or files n [] ∷ [])

abbrev pub file_record : List Line → ℕ → ℕ → List ℕ → List (List ℕ) → NeedRecord
file_record lines before at name rest = record {
  count = half (length (file_versions lines name));
  name = word at;
  first = word (16 * length (name ∷ rest) + 16 * before);
  next = next_need rest;
}

pub files_more : (lines : List Line) (records whole : List NeedRecord) (one : NeedRecord) (before after at next : ℕ) (name : List ℕ) (rest : List (List ℕ))
    → one ≡ file_record lines before at name rest → next ≡ word (at + length name + 1) → after ≡ before + length (file_versions lines name)
    → records ++ need_records lines before at (name ∷ rest) ≡ whole → (records ++ one ∷ []) ++ need_records lines after next rest ≡ whole
files_more lines records whole one before after at next name rest is behind counted all =
    append_assoc records (one ∷ []) (need_records lines after next rest)
    ∙ ap (λ (first : NeedRecord). records ++ first ∷ need_records lines after next rest) is
    ∙ ap (λ (tail : List NeedRecord). records ++ file_record lines before at name rest ∷ tail)
    (ap (λ (m : ℕ). need_records lines m next rest) counted
    ∙ ap (λ (m : ℕ). need_records lines (before + length (file_versions lines name)) m rest) behind
    ∙ cut_files lines (before + length (file_versions lines name)) (at + length name + 1) rest)
    ∙ all

abbrev pub version_record : List Line → List ℕ → ℕ → ℕ → List ℕ → List (List ℕ) → NeededVersion
version_record lines file index at version rest = record {
  hash = sysv_hash version;
  flags = version_flags lines file version;
  index = half index;
  name = word at;
  next = next_need rest;
}

next_index : (index n : ℕ) → index + (n + 1) ≡ (index + n) + 1
next_index index n = omega arith

pub versions_more : (lines : List Line) (file : List ℕ) (records whole : List NeededVersion) (one : NeededVersion) (index n at next : ℕ) (version : List ℕ) (rest : List (List ℕ))
    → one ≡ version_record lines file (index + n) at version rest → next ≡ word (at + length version + 1)
    → records ++ needed_of lines file (index + n) at (version ∷ rest) ≡ whole → (records ++ one ∷ []) ++ needed_of lines file (index + (n + 1)) next rest ≡ whole
versions_more lines file records whole one index n at next version rest is behind all =
    append_assoc records (one ∷ []) (needed_of lines file (index + (n + 1)) next rest)
    ∙ ap (λ (first : NeededVersion). records ++ first ∷ needed_of lines file (index + (n + 1)) next rest) is
    ∙ ap (λ (tail : List NeededVersion). records ++ version_record lines file (index + n) at version rest ∷ tail)
    (ap (λ (m : ℕ). needed_of lines file m next rest) (next_index index n)
    ∙ ap (λ (m : ℕ). needed_of lines file ((index + n) + 1) m rest) behind
    ∙ cut_needed_of lines file ((index + n) + 1) (at + length version + 1) rest)
    ∙ all

sums : (at n rest : ℕ) → (at + n + 1) + rest ≡ at + ((n + 1) + rest)
sums at n rest = omega arith

pub offsets_more : (at next : ℕ) (name : List ℕ) (rest : List (List ℕ)) (whole : ℕ) → next ≡ word (at + length name + 1) → word (at + strings_length (name ∷ rest)) ≡ whole
    → word (next + strings_length rest) ≡ whole
offsets_more at next name rest whole behind all =
    behind_many next (at + length name + 1) (strings_length rest) (ap word behind ∙ cut (at + length name + 1))
    ∙ ap word (sums at (length name) (strings_length rest) ∙ ap (λ (n : ℕ). at + n) (sym (sum_by-cons (λ (name : List ℕ). length name + 1) name rest)))
    ∙ all

pub needed_more : (lines : List Line) (records new whole : List NeededVersion) (index after at next : ℕ) (name : List ℕ) (rest : List (List ℕ))
    → new ≡ records ++ needed_of lines name index at (file_versions lines name) → next ≡ word (at + strings_length (file_versions lines name))
    → after ≡ index + length (file_versions lines name) → records ++ needed_records lines index at (name ∷ rest) ≡ whole → new ++ needed_records lines after next rest ≡ whole
needed_more lines records new whole index after at next name rest is behind counted all =
    let versions = file_versions lines name in
    ap (λ (front : List NeededVersion). front ++ needed_records lines after next rest) is
    ∙ append_assoc records (needed_of lines name index at versions) (needed_records lines after next rest)
    ∙ ap (λ (tail : List NeededVersion). records ++ (needed_of lines name index at versions ++ tail))
    (ap (λ (m : ℕ). needed_records lines m next rest) counted
    ∙ ap (λ (m : ℕ). needed_records lines (index + length versions) m rest) behind
    ∙ cut_needed lines (index + length versions) (at + strings_length versions) rest)
    ∙ all
