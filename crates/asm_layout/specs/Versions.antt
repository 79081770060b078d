-- The versions that the object defines and needs (Drepper, "ELF Symbol Versioning").
use Rattle.std.specs.Prelude.{ℕ, ◌+◌, ◌*◌, ◌%◌, ◌^◌, ◌||◌, ◌&&◌, not, Bool, nat_lt, if◌then◌else◌, List, [], ◌∷◌, ◌++◌, map, filter, take, length, sum_by}
use Rattle.std.specs.Prelude.{Option, option_map, unwrap_or, position}
use Rattle.std.specs.Str.{bytes_eq}
use Rattle.std.specs.List.{list_any}
use Rattle.asm_write.specs.declared.contents.NeedRecord.{NeedRecord}
use Rattle.asm_write.specs.declared.contents.NeededVersion.{NeededVersion}
use Rattle.asm_write.specs.declared.contents.VersionRecord.{VersionRecord}
use Rattle.sym_hash.specs.Hash.{sysv_hash}
use Rattle.asm_statement.specs.declared.directive.Need.{Need}
use Rattle.asm_statement.specs.declared.line.Line.{Line}
use Rattle.asm_layout.specs.Uses.{needs, distinct_names}
use Rattle.asm_layout.specs.Tables.{versions}

-- a number of 16 bits, and one of 32
abbrev pub half : ℕ → ℕ
half number = number % 2 ^ 16

abbrev pub word : ℕ → ℕ
word number = number % 2 ^ 32

-- the files of which versions are needed, by their first need, and the versions that are needed of one, each once
unfoldable pub needed_files : List Line → List (List ℕ)
needed_files lines = distinct_names (map (λ need. need.file) (needs lines))

abbrev pub is_of_file : List ℕ → Need → Bool
is_of_file file need = bytes_eq file need.file

unfoldable pub file_versions : List Line → List ℕ → List (List ℕ)
file_versions lines file = distinct_names (map (λ need. need.version) (filter (is_of_file file) (needs lines)))

-- how many versions are needed of files
abbrev pub version_count : List Line → List (List ℕ) → ℕ
version_count lines files = sum_by (λ file. length (file_versions lines file)) files

abbrev pub has_versions : List Line → Bool
has_versions lines = nat_lt 0 (length (versions lines)) || nat_lt 0 (length (needs lines))

-- indexes: 1 is the object's own, then come the versions that it defines, then those that it needs, file by file
abbrev pub defined_number : List Line → List ℕ → ℕ
defined_number lines version = 2 + unwrap_or (position (bytes_eq version) (versions lines)) 0

abbrev pub defined_index : List Line → List ℕ → ℕ
defined_index lines version = half (defined_number lines version)

-- how many versions are needed of the files before one, and the number of a needed version among all of them, from 0
abbrev pub versions_before : List Line → List ℕ → ℕ
versions_before lines file = version_count lines (take (unwrap_or (position (bytes_eq file) (needed_files lines)) 0) (needed_files lines))

unfoldable pub needed_number : List Line → List ℕ → List ℕ → Option ℕ
needed_number lines file version = option_map (λ at. versions_before lines file + at) (position (bytes_eq version) (file_versions lines file))

abbrev pub first_needed : List Line → ℕ
first_needed lines = 2 + length (versions lines)

abbrev pub needed_index : List Line → List ℕ → List ℕ → ℕ
needed_index lines file version = half (first_needed lines + unwrap_or (needed_number lines file version) 0)

-- the versions that are defined, from an index and the offset of the first name on; the record of the next stands 28 bytes behind
abbrev pub next_version : List (List ℕ) → ℕ
next_version [] = 0
next_version (name ∷ names) = 28

abbrev pub version_records : ℕ → ℕ → List (List ℕ) → List VersionRecord
version_records index at [] = []
version_records index at (name ∷ names) =
    record { flags = 0; index = half index; hash = sysv_hash name; name = word at; next = next_version names } ∷
    version_records (index + 1) (at + length name + 1) names

-- the base, with VER_FLG_BASE: it has the object's own name, which is empty where it has none
abbrev pub base_record : List ℕ → ℕ → List (List ℕ) → VersionRecord
base_record own at names = record { flags = 1; index = 1; hash = sysv_hash own; name = word at; next = next_version names }

abbrev pub records_for : List ℕ → ℕ → ℕ → List (List ℕ) → List VersionRecord
records_for own own_at at [] = []
records_for own own_at at (name ∷ names) = base_record own own_at (name ∷ names) ∷ version_records 2 at (name ∷ names)

-- the files: the records of all files stand before those of versions, 16 bytes each
abbrev pub next_need : List (List ℕ) → ℕ
next_need [] = 0
next_need (name ∷ names) = 16

abbrev pub need_records : List Line → ℕ → ℕ → List (List ℕ) → List NeedRecord
need_records lines before at [] = []
need_records lines before at (file ∷ files) =
    record {
      count = half (length (file_versions lines file));
      name = word at;
      first = word (16 * length (file ∷ files) + 16 * before);
      next = next_need files;
    } ∷ need_records lines (before + length (file_versions lines file)) (at + length file + 1) files

-- VER_FLG_WEAK (2) where every need of the version is weak, so that none of them is strong
abbrev pub is_strong_need : List ℕ → Need → Bool
is_strong_need file need = bytes_eq file need.file && not need.is_weak

unfoldable pub strong_versions : List Line → List ℕ → List (List ℕ)
strong_versions lines file = distinct_names (map (λ need. need.version) (filter (is_strong_need file) (needs lines)))

abbrev pub version_flags : List Line → List ℕ → List ℕ → ℕ
version_flags lines file version = if list_any (bytes_eq version) (strong_versions lines file) then 0 else 2

abbrev pub needed_of : List Line → List ℕ → ℕ → ℕ → List (List ℕ) → List NeededVersion
needed_of lines file index at [] = []
needed_of lines file index at (version ∷ rest) =
    record {
      hash = sysv_hash version;
      flags = version_flags lines file version;
      index = half index;
      name = word at;
      next = next_need rest;
    } ∷ needed_of lines file (index + 1) (at + length version + 1) rest

abbrev pub strings_length : List (List ℕ) → ℕ
strings_length names = sum_by (λ name. length name + 1) names

abbrev pub needed_records : List Line → ℕ → ℕ → List (List ℕ) → List NeededVersion
needed_records lines index at [] = []
needed_records lines index at (file ∷ files) =
    needed_of lines file index at (file_versions lines file)
    ++ needed_records lines (index + length (file_versions lines file)) (at + strings_length (file_versions lines file)) files
