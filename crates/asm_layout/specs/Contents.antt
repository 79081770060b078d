-- What the object of a source holds, before anything has an address.
use Rattle.std.specs.Prelude.{ℕ, ◌+◌, if◌then◌else◌, List, [], ◌∷◌, ◌++◌, map, flat_map, length, Option, Some, None, option_to_list, unwrap_or}
use Rattle.ld_base.specs.declared.object.Kind.{Kind}
use Rattle.ld_base.specs.declared.object.Kind.TheVariants.{Exec, Dyn}
use Rattle.asm_write.specs.declared.contents.Contents.{Contents}
use Rattle.sym_hash.specs.Hash.{gnu_hash, sysv_hash}
use Rattle.asm_statement.specs.declared.directive.Directive.TheVariants as directives
use Rattle.asm_statement.specs.declared.line.Statement.{Statement}
use Rattle.asm_statement.specs.declared.line.Statement.TheVariants as statements
use Rattle.asm_statement.specs.declared.line.Line.{Line}
use Rattle.asm_layout.specs.Fixes.{fixes_of}
use Rattle.asm_write.specs.HashBuild.Hashed.{gnu_of, sysv_of}
use Rattle.asm_layout.specs.Names.{kind_of, is_executable}
use Rattle.asm_layout.specs.Spots.{label_spot, sections_of}
use Rattle.asm_layout.specs.Symbols.{sorted_exports, first_export, symbol_index, import_entries, export_entries}
use Rattle.asm_layout.specs.Tables.{soname, needed, hash_of, has_gnu, has_sysv, flags_of, versions}
use Rattle.asm_layout.specs.Uses.{slots, imports}
use Rattle.asm_layout.specs.Versions.{needed_files, file_versions, has_versions, records_for, need_records, needed_records, first_needed, strings_length, word}
-- where a program begins: at the label of .entry, the last one, or at `_start` where there is such a label
use Rattle.std.specs.Prelude.{fold, codes}

abbrev pub entry_given : Option (List ℕ) → Option Statement → Option (List ℕ)
entry_given entry (Some (statements.Directive (directives.Entry name))) = Some name
entry_given entry _ = entry

unfoldable pub entry_name : List Line → List ℕ
entry_name lines = unwrap_or (fold (λ entry line. entry_given entry line.statement) None lines) (codes "_start")

-- the names in the strings, in order
abbrev pub export_names : List Line → List (List ℕ)
export_names lines = map (λ exported. exported.name) (sorted_exports lines)

abbrev pub needed_names : List Line → List (List ℕ)
needed_names lines = flat_map (file_versions lines) (needed_files lines)

abbrev pub string_names : List Line → List (List ℕ)
string_names lines =
    option_to_list (soname lines) ++ needed lines ++ imports lines ++ export_names lines ++ versions lines ++ needed_files lines ++ needed_names lines

-- one zero byte, then each name with a zero byte behind it
unfoldable pub string_bytes : List ℕ → List ℕ
string_bytes name = name ++ 0 ∷ []

unfoldable pub strings_of : List Line → List ℕ
strings_of lines = 0 ∷ flat_map string_bytes (string_names lines)

-- where the names of each kind begin
abbrev pub needed_at : List Line → ℕ
needed_at lines = 1 + strings_length (option_to_list (soname lines))

abbrev pub imports_at : List Line → ℕ
imports_at lines = needed_at lines + strings_length (needed lines)

abbrev pub exports_at : List Line → ℕ
exports_at lines = imports_at lines + strings_length (imports lines)

abbrev pub versions_at : List Line → ℕ
versions_at lines = exports_at lines + strings_length (export_names lines)

abbrev pub files_at : List Line → ℕ
files_at lines = versions_at lines + strings_length (versions lines)

abbrev pub needed_versions_at : List Line → ℕ
needed_versions_at lines = files_at lines + strings_length (needed_files lines)

abbrev pub offsets_from : ℕ → List (List ℕ) → List ℕ
offsets_from at [] = []
offsets_from at (name ∷ names) = word at ∷ offsets_from (at + length name + 1) names

abbrev pub soname_offset : Option (List ℕ) → Option ℕ
soname_offset None = None
soname_offset (Some name) = Some 1

abbrev pub elf_kind : List Line → Kind
elf_kind lines = if is_executable (kind_of lines) then Exec else Dyn

unfoldable pub contents_of : List Line → Contents
contents_of lines = record {
  kind = elf_kind lines;
  entry = label_spot lines (entry_name lines);
  strings = strings_of lines;
  soname = soname_offset (soname lines);
  needed = offsets_from (needed_at lines) (needed lines);
  flags = flags_of lines;
  symbols = import_entries lines (imports_at lines) (imports lines) ++ export_entries lines (exports_at lines) (sorted_exports lines);
  gnu = if has_gnu (hash_of lines) then Some (gnu_of (word (first_export lines)) (map (λ exported. gnu_hash exported.name) (sorted_exports lines))) else None;
  sysv = if has_sysv (hash_of lines) then Some (sysv_of (word (first_export lines)) (map (λ exported. sysv_hash exported.name) (sorted_exports lines)))
      else None;
  has_versions = has_versions lines;
  versions = records_for (unwrap_or (soname lines) []) (unwrap_or (soname_offset (soname lines)) 0) (versions_at lines) (versions lines);
  files = need_records lines 0 (files_at lines) (needed_files lines);
  needed_versions = needed_records lines (first_needed lines) (needed_versions_at lines) (needed_files lines);
  slots = map (symbol_index lines) (slots lines);
  fixes = fixes_of lines;
  sections = sections_of lines;
}
