-- Offsets of strings count modulo 2^32: a list of records depends on no more of the first one.
use Rattle.std.proofs.Common.{◌≡◌, ℕ, ◌+◌, ◌*◌, List, [], ◌∷◌, ◌++◌, length, refl, ap, ◌∙◌, arith}
use Rattle.asm_write.specs.declared.contents.NeedRecord.{NeedRecord}
use Rattle.asm_write.specs.declared.contents.NeededVersion.{NeededVersion}
use Rattle.asm_write.specs.declared.contents.SymbolEntry.{SymbolEntry}
use Rattle.asm_write.specs.declared.contents.VersionRecord.{VersionRecord}
use Rattle.sym_hash.specs.Hash.{sysv_hash}
use Rattle.asm_statement.specs.declared.line.Line.{Line}
use Rattle.asm_layout.specs.declared.uses.Exported.{Exported}
use Rattle.asm_layout.specs.Contents.{offsets_from}
use Rattle.asm_layout.specs.Symbols.{import_entry, import_entries, export_entry, export_entries}
use Rattle.asm_layout.specs.Versions.{half, word, next_version, version_records, next_need, need_records, version_flags, needed_of, needed_records, file_versions, strings_length}

-- equal offsets stay equal behind a name
pub behind : (a b n : ℕ) → word a ≡ word b → word (a + n + 1) ≡ word (b + n + 1)
behind a b n e = omega (arith, e)

pub behind_many : (a b n : ℕ) → word a ≡ word b → word (a + n) ≡ word (b + n)
behind_many a b n e = omega (arith, e)

-- an offset is that of its lowest bits
pub cut : (a : ℕ) → word (word a) ≡ word a
cut a = omega arith

pub same_offsets : (a b : ℕ) (names : List (List ℕ)) → word a ≡ word b → offsets_from a names ≡ offsets_from b names
same_offsets a b [] e = refl
same_offsets a b (name ∷ names) e =
    rw e (ap (λ (rest : List ℕ). word b ∷ rest) (same_offsets (a + length name + 1) (b + length name + 1) names (behind a b (length name) e)))

pub same_versions : (index a b : ℕ) (names : List (List ℕ)) → word a ≡ word b → version_records index a names ≡ version_records index b names
same_versions index a b [] e = refl
same_versions index a b (name ∷ names) e =
    rw e (ap (λ (rest : List VersionRecord). (record { flags = 0; index = half index; hash = sysv_hash name; name = word b; next = next_version names }) ∷ rest)
    (same_versions (index + 1) (a + length name + 1) (b + length name + 1) names (behind a b (length name) e)))

pub same_imports : (lines : List Line) (a b : ℕ) (names : List (List ℕ)) → word a ≡ word b → import_entries lines a names ≡ import_entries lines b names
same_imports lines a b [] e = refl
same_imports lines a b (name ∷ names) e =
    rw e (ap (λ (rest : List SymbolEntry). import_entry lines b name ∷ rest)
    (same_imports lines (a + length name + 1) (b + length name + 1) names (behind a b (length name) e)))

pub same_exports : (lines : List Line) (a b : ℕ) (exports : List Exported) → word a ≡ word b → export_entries lines a exports ≡ export_entries lines b exports
same_exports lines a b [] e = refl
same_exports lines a b (exported ∷ exports) e =
    rw e (ap (λ (rest : List SymbolEntry). export_entry lines b exported ∷ rest)
    (same_exports lines (a + length exported.name + 1) (b + length exported.name + 1) exports (behind a b (length exported.name) e)))

pub same_files : (lines : List Line) (before a b : ℕ) (files : List (List ℕ)) → word a ≡ word b → need_records lines before a files ≡ need_records lines before b files
same_files lines before a b [] e = refl
same_files lines before a b (file ∷ files) e =
    rw e (ap (λ (rest : List NeedRecord). (record {
      count = half (length (file_versions lines file));
      name = word b;
      first = word (16 * length (file ∷ files) + 16 * before);
      next = next_need files;
    }) ∷ rest)
    (same_files lines (before + length (file_versions lines file)) (a + length file + 1) (b + length file + 1) files (behind a b (length file) e)))

pub same_needed_of : (lines : List Line) (file : List ℕ) (index a b : ℕ) (versions : List (List ℕ)) → word a ≡ word b
    → needed_of lines file index a versions ≡ needed_of lines file index b versions
same_needed_of lines file index a b [] e = refl
same_needed_of lines file index a b (version ∷ rest) e =
    rw e (ap (λ (records : List NeededVersion). (record {
      hash = sysv_hash version;
      flags = version_flags lines file version;
      index = half index;
      name = word b;
      next = next_need rest;
    }) ∷ records)
    (same_needed_of lines file (index + 1) (a + length version + 1) (b + length version + 1) rest (behind a b (length version) e)))

pub same_needed : (lines : List Line) (index a b : ℕ) (files : List (List ℕ)) → word a ≡ word b
    → needed_records lines index a files ≡ needed_records lines index b files
same_needed lines index a b [] e = refl
same_needed lines index a b (file ∷ files) e =
    let versions = file_versions lines file in
    ap (λ (front : List NeededVersion). front ++ needed_records lines (index + length versions) (a + strings_length versions) files)
    (same_needed_of lines file index a b versions e)
    ∙ ap (λ (rest : List NeededVersion). needed_of lines file index b versions ++ rest)
    (same_needed lines (index + length versions) (a + strings_length versions) (b + strings_length versions) files (behind_many a b (strings_length versions) e))

-- so an offset may be cut to its lowest bits
pub cut_offsets : (a : ℕ) (names : List (List ℕ)) → offsets_from (word a) names ≡ offsets_from a names
cut_offsets a names = same_offsets (word a) a names (cut a)

pub cut_versions : (index a : ℕ) (names : List (List ℕ)) → version_records index (word a) names ≡ version_records index a names
cut_versions index a names = same_versions index (word a) a names (cut a)

pub cut_imports : (lines : List Line) (a : ℕ) (names : List (List ℕ)) → import_entries lines (word a) names ≡ import_entries lines a names
cut_imports lines a names = same_imports lines (word a) a names (cut a)

pub cut_exports : (lines : List Line) (a : ℕ) (exports : List Exported) → export_entries lines (word a) exports ≡ export_entries lines a exports
cut_exports lines a exports = same_exports lines (word a) a exports (cut a)

pub cut_files : (lines : List Line) (before a : ℕ) (files : List (List ℕ)) → need_records lines before (word a) files ≡ need_records lines before a files
cut_files lines before a files = same_files lines before (word a) a files (cut a)

pub cut_needed_of : (lines : List Line) (file : List ℕ) (index a : ℕ) (versions : List (List ℕ))
    → needed_of lines file index (word a) versions ≡ needed_of lines file index a versions
cut_needed_of lines file index a versions = same_needed_of lines file index (word a) a versions (cut a)

pub cut_needed : (lines : List Line) (index a : ℕ) (files : List (List ℕ)) → needed_records lines index (word a) files ≡ needed_records lines index a files
cut_needed lines index a files = same_needed lines index (word a) a files (cut a)
