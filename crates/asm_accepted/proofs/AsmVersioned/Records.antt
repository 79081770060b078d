-- The records of versions: their fields, and how each leads to the next.
use Rattle.std.proofs.Common.{◌≡◌, ◌∙◌, ap, sym, subst, refl, ℕ, zero, suc, ◌+◌, ◌-◌, ◌*◌, ◌/◌, ◌%◌, ◌^◌, ◌<◌, ◌≤◌, true, false, if◌then◌else◌, List, [], ◌∷◌, ◌++◌, length, map, fold, take, drop, arith, length-append}
use Rattle.std.specs.Prelude.{bit_and, bit_xor}
use Rattle.std.specs.List.{list_any}
use Rattle.std.specs.Str.{bytes_eq}
use Rattle.std.proofs.lemmas.Nat.{and_le_r}
use Rattle.asm_write.specs.declared.contents.NeedRecord.{NeedRecord}
use Rattle.asm_write.specs.declared.contents.NeededVersion.{NeededVersion}
use Rattle.asm_write.specs.declared.contents.SymbolEntry.{SymbolEntry}
use Rattle.asm_write.specs.declared.contents.VersionRecord.{VersionRecord}
use Rattle.asm_write.specs.Records.{need_fields, needed_fields, version_fields}
use Rattle.asm_laws.specs.ElfSpelled.Said.{AllBelow}
use Rattle.asm_accepted.specs.ElfVersioned.Linked.{AreByFile, EachFits, LeadOn}
use Rattle.sym_hash.specs.Hash.{sysv_fold, sysv_hash, sysv_step}
use Rattle.asm_statement.specs.declared.line.Line.{Line}
use Rattle.asm_layout.specs.declared.uses.Exported.{Exported}
use Rattle.asm_layout.specs.Symbols.{export_entries, hidden_bit, if_versioned, import_entries, need_index, own_index}
use Rattle.asm_layout.specs.Versions.{base_record, file_versions, has_versions, half, need_records, needed_of, needed_records, next_need, next_version, records_for, strings_length, strong_versions, version_flags, version_records, word}
use Rattle.asm_laws.specs.AsmBounds.Lemmas.Records.{files_long, of_file_long}

-- A hash has 32 bits

folded_low : (h : ℕ) (name : List ℕ) → h < 2 ^ 32 → fold sysv_step h name < 2 ^ 32
folded_low h [] low = low
folded_low h (byte ∷ name) low = folded_low (sysv_step h byte) name (step_low ((16 * h + byte) % 2 ^ 32))
  where
    step_low : (h : ℕ) → sysv_fold h < 2 ^ 32
    step_low h =
        let less = and_le_r (bit_xor h (bit_and h 0xf000_0000 / 2 ^ 24)) (0xffff_ffff - bit_and h 0xf000_0000) in
        omega (arith, less)

hash_low : (name : List ℕ) → sysv_hash name < 2 ^ 32
unfolding sysv_hash
hash_low name = folded_low 0 name (omega arith)

-- The version of a symbol

versioned_low : (lines : List Line) (index : ℕ) → if_versioned lines index < 2 ^ 16
versioned_low lines index = elim (has_versions lines) as (λ b. (if b then half index else 0) < 2 ^ 16) [ true ↦ omega arith | false ↦ omega arith ]

indexes_both : (one other : List SymbolEntry) → AllBelow (2 ^ 16) (map (λ symbol. symbol.version) one) → AllBelow (2 ^ 16) (map (λ symbol. symbol.version) other)
    → AllBelow (2 ^ 16) (map (λ symbol. symbol.version) (one ++ other))
indexes_both [] other first second = second
indexes_both (entry ∷ one) other (low, first) second = (low, indexes_both one other first second)

imports_low : (lines : List Line) (at : ℕ) (names : List (List ℕ)) → AllBelow (2 ^ 16) (map (λ symbol. symbol.version) (import_entries lines at names))
imports_low lines at [] = tt
imports_low lines at (name ∷ names) = (versioned_low lines (need_index lines name), imports_low lines (at + length name + 1) names)

exports_low : (lines : List Line) (at : ℕ) (all : List Exported) → AllBelow (2 ^ 16) (map (λ symbol. symbol.version) (export_entries lines at all))
exports_low lines at [] = tt
exports_low lines at (exported ∷ rest) =
    (versioned_low lines (own_index lines exported exported.version + hidden_bit exported.is_default), exports_low lines (at + length exported.name + 1) rest)

pub indexes_low : (lines : List Line) (at other : ℕ) (names : List (List ℕ)) (all : List Exported)
    → AllBelow (2 ^ 16) (map (λ symbol. symbol.version) (import_entries lines at names ++ export_entries lines other all))
indexes_low lines at other names all = indexes_both (import_entries lines at names) (export_entries lines other all) (imports_low lines at names) (exports_low lines other all)

-- Versions that are defined

next_low : (names : List (List ℕ)) → next_version names < 2 ^ 32
next_low [] = omega arith
next_low (name ∷ names) = omega arith

defined_fit : (index at : ℕ) (names : List (List ℕ)) → EachFits version_fields (version_records index at names)
unfolding version_fields
defined_fit index at [] = tt
defined_fit index at (name ∷ names) = (
  (omega arith, (omega arith, (omega arith, (omega arith, (hash_low name, (omega arith, (next_low names, (omega arith, (omega arith, tt))))))))),
  defined_fit (index + 1) (at + length name + 1) names,
)

pub records_fit : (own : List ℕ) (own_at at : ℕ) (names : List (List ℕ)) → EachFits version_fields (records_for own own_at at names)
unfolding version_fields
records_fit own own_at at [] = tt
records_fit own own_at at (name ∷ names) =
    ((omega arith, (omega arith, (omega arith, (omega arith, (hash_low own, (omega arith, (omega arith, (omega arith, (omega arith, tt))))))))), defined_fit 2 at (name ∷ names))

defined_lead : (index at : ℕ) (names : List (List ℕ)) → LeadOn (λ version. version.next) 28 (version_records index at names)
defined_lead index at [] i here inside is = absurd (omega (arith, inside))
defined_lead index at (name ∷ []) i here inside is = absurd (omega (arith, inside))
defined_lead index at (name ∷ next ∷ names) zero here inside is = let same : record { flags = 0; index = half index; hash = sysv_hash name; name = word at; next = 28 } ≡ here = cc in sym (ap (λ (v : VersionRecord). v.next) same)
defined_lead index at (name ∷ next ∷ names) (suc i) here inside is = defined_lead (index + 1) (at + length name + 1) (next ∷ names) i here (omega (arith, inside)) is

pub records_lead : (own : List ℕ) (own_at at : ℕ) (names : List (List ℕ)) → LeadOn (λ version. version.next) 28 (records_for own own_at at names)
records_lead own own_at at [] i here inside is = absurd (omega (arith, inside))
records_lead own own_at at (name ∷ names) zero here inside is = let same : base_record own own_at (name ∷ names) ≡ here = cc in sym (ap (λ (v : VersionRecord). v.next) same)
records_lead own own_at at (name ∷ names) (suc i) here inside is = defined_lead 2 at (name ∷ names) i here (omega (arith, inside)) is

-- Files, and the versions that are needed of them

need_low : (names : List (List ℕ)) → next_need names < 2 ^ 32
need_low [] = omega arith
need_low (name ∷ names) = omega arith

pub files_fit : (lines : List Line) (before at : ℕ) (files : List (List ℕ)) → EachFits need_fields (need_records lines before at files)
unfolding need_fields
files_fit lines before at [] = tt
files_fit lines before at (file ∷ files) =
    ((omega arith, (omega arith, (omega arith, (omega arith, (need_low files, tt))))), files_fit lines (before + length (file_versions lines file)) (at + length file + 1) files)

pub files_lead : (lines : List Line) (before at : ℕ) (files : List (List ℕ)) → LeadOn (λ file. file.next) 16 (need_records lines before at files)
files_lead lines before at [] i here inside is = absurd (omega (arith, inside))
files_lead lines before at (file ∷ []) i here inside is = absurd (omega (arith, inside))
files_lead lines before at (file ∷ next ∷ files) zero here inside is =
    let first : NeedRecord = record {
      count = half (length (file_versions lines file));
      name = word at;
      first = word (16 * length (file ∷ next ∷ files) + 16 * before);
      next = 16;
    } in
    let same : first ≡ here = cc in
    sym (ap (λ (need : NeedRecord). need.next) same)
files_lead lines before at (file ∷ next ∷ files) (suc i) here inside is =
    files_lead lines (before + length (file_versions lines file)) (at + length file + 1) (next ∷ files) i here (omega (arith, inside)) is

flags_low : (lines : List Line) (file version : List ℕ) → version_flags lines file version < 2 ^ 16
flags_low lines file version = elim (list_any (bytes_eq version) (strong_versions lines file)) as (λ b. (if b then 0 else 2) < 2 ^ 16) [ true ↦ omega arith | false ↦ omega arith ]

fits_both : (one other : List NeededVersion) → EachFits needed_fields one → EachFits needed_fields other → EachFits needed_fields (one ++ other)
fits_both [] other first second = second
fits_both (version ∷ one) other (fits, first) second = (fits, fits_both one other first second)

of_file_fit : (lines : List Line) (file : List ℕ) (index at : ℕ) (names : List (List ℕ)) → EachFits needed_fields (needed_of lines file index at names)
unfolding needed_fields
of_file_fit lines file index at [] = tt
of_file_fit lines file index at (version ∷ rest) =
    ((hash_low version, (flags_low lines file version, (omega arith, (omega arith, (need_low rest, tt))))), of_file_fit lines file (index + 1) (at + length version + 1) rest)

pub needed_fit : (lines : List Line) (index at : ℕ) (files : List (List ℕ)) → EachFits needed_fields (needed_records lines index at files)
needed_fit lines index at [] = tt
needed_fit lines index at (file ∷ files) =
    fits_both (needed_of lines file index at (file_versions lines file)) _ (of_file_fit lines file index at (file_versions lines file))
    (needed_fit lines (index + length (file_versions lines file)) (at + strings_length (file_versions lines file)) files)

of_file_lead : (lines : List Line) (file : List ℕ) (index at : ℕ) (names : List (List ℕ)) → LeadOn (λ version. version.next) 16 (needed_of lines file index at names)
of_file_lead lines file index at [] i here inside is = absurd (omega (arith, inside))
of_file_lead lines file index at (version ∷ []) i here inside is = absurd (omega (arith, inside))
of_file_lead lines file index at (version ∷ next ∷ rest) zero here inside is =
    let first : NeededVersion = record { hash = sysv_hash version; flags = version_flags lines file version; index = half index; name = word at; next = 16 } in
    let same : first ≡ here = cc in
    sym (ap (λ (v : NeededVersion). v.next) same)
of_file_lead lines file index at (version ∷ next ∷ rest) (suc i) here inside is =
    of_file_lead lines file (index + 1) (at + length version + 1) (next ∷ rest) i here (omega (arith, inside)) is

pub take_front : {A : Type 0} (xs ys : List A) (n : ℕ) → n ≡ length xs → take n (xs ++ ys) ≡ xs
take_front {A} xs ys n is = ap (λ k. take k (xs ++ ys)) is ∙ front xs ys
  where
    front : (xs ys : List A) → take (length xs) (xs ++ ys) ≡ xs
    front [] ys = refl
    front (x ∷ xs) ys = ap (λ (rest : List A). x ∷ rest) (front xs ys)

pub drop_front : {A : Type 0} (xs ys : List A) (n : ℕ) → n ≡ length xs → drop n (xs ++ ys) ≡ ys
drop_front {A} xs ys n is = ap (λ k. drop k (xs ++ ys)) is ∙ behind xs ys
  where
    behind : (xs ys : List A) → drop (length xs) (xs ++ ys) ≡ ys
    behind [] ys = refl
    behind (x ∷ xs) ys = behind xs ys

pub by_file : (lines : List Line) → ((file : List ℕ) → length (file_versions lines file) ≤ 0x8000) → (before index at other : ℕ) (files : List (List ℕ))
    → 16 * length files + 16 * (before + length (needed_records lines index other files)) < 2 ^ 32
    → AreByFile before (need_records lines before at files) (needed_records lines index other files)
by_file lines few before index at other [] low = refl
by_file lines few before index at other (file ∷ files) low =
    let names = file_versions lines file in
    let count = length names in
    let first = needed_of lines file index other names in
    let rest = needed_records lines (index + count) (other + strings_length names) files in
    let long = of_file_long lines file index other names in
    let all = length-append first rest in
    let fewer = few file in
    let counted : half count ≡ length first = omega (arith, long, fewer) in
    let behind = files_long lines (before + count) (at + length file + 1) files in
    let place : word (16 * length (file ∷ files) + 16 * before) ≡ 16 * suc (length (need_records lines (before + count) (at + length file + 1) files)) + 16 * before
    = omega (arith, low, behind) in
    let more : before + half count ≡ before + count = omega (arith, counted, long) in
    let later = by_file lines few (before + count) (index + count) (at + length file + 1) (other + strings_length names) files (omega (arith, low, all, long)) in
    let records = need_records lines (before + count) (at + length file + 1) files in (
      place,
      (
        omega (arith, all, counted),
        (
          subst (LeadOn (λ version. version.next) 16) (sym (take_front first rest (half count) counted)) (of_file_lead lines file index other names),
          subst (λ n. AreByFile n records (drop (half count) (first ++ rest))) (sym more)
              (subst (λ (versions : List NeededVersion). AreByFile (before + count) records versions) (sym (drop_front first rest (half count) counted)) later),
        ),
      ),
    )
