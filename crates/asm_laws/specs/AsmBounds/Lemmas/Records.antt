-- Records, one for each name.
use Rattle.std.proofs.Common.{◌≡◌, ap, refl, ℕ, suc, ◌+◌, ◌≤◌, List, [], ◌∷◌, length, flat_map, arith, length-append}
use Rattle.asm_statement.specs.declared.line.Line.{Line}
use Rattle.asm_layout.specs.declared.uses.Exported.{Exported}
use Rattle.asm_layout.specs.Contents.{offsets_from}
use Rattle.asm_layout.specs.Symbols.{export_entries, import_entries}
use Rattle.asm_layout.specs.Versions.{file_versions, need_records, needed_of, needed_records, records_for, strings_length, version_records}

pub imports_long : (lines : List Line) (at : ℕ) (names : List (List ℕ)) → length (import_entries lines at names) ≡ length names
imports_long lines at [] = refl
imports_long lines at (name ∷ names) = ap suc (imports_long lines (at + length name + 1) names)

pub exports_long : (lines : List Line) (at : ℕ) (all : List Exported) → length (export_entries lines at all) ≡ length all
exports_long lines at [] = refl
exports_long lines at (exported ∷ rest) = ap suc (exports_long lines (at + length exported.name + 1) rest)

pub offsets_long : (at : ℕ) (names : List (List ℕ)) → length (offsets_from at names) ≡ length names
offsets_long at [] = refl
offsets_long at (name ∷ names) = ap suc (offsets_long (at + length name + 1) names)

pub versions_long : (index at : ℕ) (names : List (List ℕ)) → length (version_records index at names) ≡ length names
versions_long index at [] = refl
versions_long index at (name ∷ names) = ap suc (versions_long (index + 1) (at + length name + 1) names)

-- the base stands before the versions
pub records_few : (own : List ℕ) (own_at at : ℕ) (names : List (List ℕ)) → length (records_for own own_at at names) ≤ 1 + length names
records_few own own_at at [] = omega arith
records_few own own_at at (name ∷ names) = let rest = versions_long 2 at (name ∷ names) in omega (arith, rest)

pub files_long : (lines : List Line) (before at : ℕ) (files : List (List ℕ)) → length (need_records lines before at files) ≡ length files
files_long lines before at [] = refl
files_long lines before at (file ∷ files) = ap suc (files_long lines (before + length (file_versions lines file)) (at + length file + 1) files)

pub of_file_long : (lines : List Line) (file : List ℕ) (index at : ℕ) (names : List (List ℕ)) → length (needed_of lines file index at names) ≡ length names
of_file_long lines file index at [] = refl
of_file_long lines file index at (version ∷ rest) = ap suc (of_file_long lines file (index + 1) (at + length version + 1) rest)

pub needed_long : (lines : List Line) (index at : ℕ) (files : List (List ℕ))
    → length (needed_records lines index at files) ≡ length (flat_map (file_versions lines) files)
needed_long lines index at [] = refl
needed_long lines index at (file ∷ files) =
    let names = file_versions lines file in
    let first = of_file_long lines file index at names in
    let next = at + strings_length names in
    let rest = needed_long lines (index + length names) next files in
    let one = length-append (needed_of lines file index at names) (needed_records lines (index + length names) next files) in
    let other = length-append names (flat_map (file_versions lines) files) in
    omega (arith, first, rest, one, other)
