-- The names in the strings of an object are those that its lines say.
use Rattle.std.proofs.Common.{ℕ, true, false, if◌then◌else◌, List, [], ◌∷◌, filter, flat_map, fold, length}
use Rattle.std.specs.Prelude.{Option, Some, None, option_to_list}
use Rattle.std.specs.List.{All, Contains}
use Rattle.std.specs.Str.{bytes_eq}
use Rattle.std.proofs.lemmas.List.Elements.{All-contains_itself}
use Rattle.asm_write.specs.HashBuild.Hashed.{bucket_count}
use Rattle.sym_hash.specs.Hash.{gnu_hash}
use Rattle.asm_statement.specs.declared.directive.Directive.TheVariants as directives
use Rattle.asm_statement.specs.declared.directive.Doubleword.TheVariants as doublewords
use Rattle.asm_statement.specs.declared.directive.Export.TheVariants as visibilities
use Rattle.asm_statement.specs.declared.directive.Need.{Need}
use Rattle.asm_statement.specs.declared.line.Line.{Line}
use Rattle.asm_statement.specs.declared.line.Statement.{Statement}
use Rattle.asm_statement.specs.declared.line.Statement.TheVariants as statements
use Rattle.asm_layout.specs.declared.uses.Exported.{Exported}
use Rattle.asm_layout.specs.Contents.{export_names, needed_names, string_names}
use Rattle.asm_layout.specs.Expansions.{Operand, Code, Entry, operand_of}
use Rattle.asm_layout.specs.Labels.{is_label}
use Rattle.asm_layout.specs.Names.{is_foreign}
use Rattle.asm_layout.specs.Symbols.{sorted_exports}
use Rattle.asm_layout.specs.Tables.{library_needed, needed, soname, soname_given, version_defined, versions}
use Rattle.asm_layout.specs.Uses.{exported_by, exports, foreign_name, if_foreign, if_labelled, imports, is_copy_label, label_symbol, mention, need_of, needs, own_symbol, same_export}
use Rattle.asm_layout.specs.Versions.{file_versions, is_of_file, needed_files}
use Rattle.asm_laws.specs.Said.{IsSaid, line_names, operand_names, said_names, statement_names}
use Rattle.asm_laws.specs.Lemmas.Each.{Each, all, both, each}
use Rattle.asm_laws.specs.Lemmas.Lists.{IfThere, as_list, bucketed, filtered, first, gathered, joined, mapped, needs_each, once, second}

module _ (P : List ℕ → Type 0) where
  Says : Line → Type 0
  Says line = Each P (line_names line)

  -- what a line says, but for its label
  stated : (line : Line) → Says line → Each P (statement_names line.statement)
  unfolding Says
  stated line says = second P (option_to_list line.label) (statement_names line.statement) says

  -- The object's own name, the libraries, the versions

  own_given : (given : Option (List ℕ)) (statement : Option Statement) → IfThere P given → Each P (statement_names statement) → IfThere P (soname_given given statement)
  own_given given (Some (statements.Directive (directives.Soname name))) there (first, says) = first
  own_given given _ there says = there

  own_folded : (given : Option (List ℕ)) (lines : List Line) → IfThere P given → Each Says lines → IfThere P (fold (λ given line. soname_given given line.statement) given lines)
  own_folded given [] there all = there
  own_folded given (line ∷ lines) there (first, all) =
      own_folded (soname_given given line.statement) lines (own_given given line.statement there (stated line first)) all

  own_said : (lines : List Line) → Each Says lines → IfThere P (soname lines)
  unfolding soname
  own_said lines all = own_folded None lines tt all

  library_given : (statement : Option Statement) → Each P (statement_names statement) → IfThere P (library_needed statement)
  library_given (Some (statements.Directive (directives.Needed name))) (first, says) = first
  library_given _ says = tt

  libraries_said : (lines : List Line) → Each Says lines → Each P (needed lines)
  unfolding needed
  libraries_said lines all = gathered Says P (λ line. library_needed line.statement) (λ line says. library_given line.statement (stated line says)) lines all

  version_given : (statement : Option Statement) → Each P (statement_names statement) → IfThere P (version_defined statement)
  version_given (Some (statements.Directive (directives.Version name))) (first, says) = first
  version_given _ says = tt

  versions_said : (lines : List Line) → Each Says lines → Each P (versions lines)
  unfolding versions
  versions_said lines all = once P bytes_eq _ (gathered Says P (λ line. version_defined line.statement) (λ line says. version_given line.statement (stated line says)) lines all)

  -- Undefined symbols

  operand_given : (operand : Operand) → Each P (operand_names operand) → IfThere P (foreign_name operand)
  operand_given (Code name) (first, says) = first
  operand_given (Entry kind name) (first, says) = first
  operand_given _ says = tt

  mention_given : (statement : Option Statement) → Each P (statement_names statement) → IfThere P (mention statement)
  mention_given None says = tt
  mention_given (Some (statements.Instruction instruction)) says = operand_given (operand_of instruction) says
  mention_given (Some (statements.Directive (directives.Dword (doublewords.Number number)))) says = tt
  mention_given (Some (statements.Directive (directives.Dword (doublewords.Address name addend)))) (first, says) = first
  mention_given (Some (statements.Directive (directives.Need need))) (first, says) = first
  mention_given (Some (statements.Directive (directives.Weak name))) (first, says) = first
  mention_given (Some (statements.Directive _)) says = tt

  foreign_given : (lines : List Line) (name : Option (List ℕ)) → IfThere P name → IfThere P (if_foreign lines name)
  foreign_given lines None there = tt
  foreign_given lines (Some name) there =
      elim (is_foreign lines name) as (λ b. IfThere P (if b then Some name else None)) [ true ↦ there | false ↦ tt ]

  imports_said : (lines : List Line) → Each Says lines → Each P (imports lines)
  unfolding imports
  imports_said lines all = once P bytes_eq _
      (gathered Says P (λ line. if_foreign lines (mention line.statement)) (λ line says. foreign_given lines (mention line.statement) (mention_given line.statement (stated line says))) lines all)

  -- Exported symbols

  Named : Exported → Type 0
  Named exported = P exported.name

  label_given : (lines : List Line) (name : List ℕ) → P name → IfThere Named (label_symbol lines name)
  unfolding Named
  label_given lines name there =
      elim (is_copy_label lines name) as (λ b. IfThere Named (if b then None else Some (own_symbol lines name))) [ true ↦ tt | false ↦ there ]

  export_given : (lines : List Line) (statement : Option Statement) → Each P (statement_names statement) → IfThere Named (exported_by lines statement)
  unfolding Named
  export_given lines (Some (statements.Directive (directives.Export visibilities.Global name))) (first, says) = label_given lines name first
  export_given lines (Some (statements.Directive (directives.Weak name))) (first, says) = label_given lines name first
  export_given lines (Some (statements.Directive (directives.Copy name size))) (first, says) = first
  export_given lines (Some (statements.Directive (directives.Symver symver))) (label, (name, says)) = name
  export_given lines _ says = tt

  labelled_given : (lines : List Line) (exported : Option Exported) → IfThere Named exported → IfThere Named (if_labelled lines exported)
  labelled_given lines None there = tt
  labelled_given lines (Some exported) there =
      elim (is_label lines exported.label) as (λ b. IfThere Named (if b then Some exported else None)) [ true ↦ there | false ↦ tt ]

  exports_said : (lines : List Line) → Each Says lines → Each P (export_names lines)
  unfolding exports sorted_exports Named
  exports_said lines all =
      mapped Named P (λ exported. exported.name) (λ exported named. named) (sorted_exports lines)
      (bucketed Named (λ exported. gnu_hash exported.name) (bucket_count (length (exports lines))) (exports lines)
      (once Named same_export _ (gathered Says Named (λ line. if_labelled lines (exported_by lines line.statement))
      (λ line says. labelled_given lines (exported_by lines line.statement) (export_given lines line.statement (stated line says))) lines all)))

  -- Versions that are needed

  Needs : Need → Type 0
  Needs need = P need.version × P need.file

  need_given : (statement : Option Statement) → Each P (statement_names statement) → IfThere Needs (need_of statement)
  unfolding Needs
  need_given (Some (statements.Directive (directives.Need need))) (name, (version, (file, says))) = (version, file)
  need_given _ says = tt

  each_need : (lines : List Line) → Each Says lines → Each (λ line. IfThere Needs (need_of line.statement)) lines
  each_need [] all = tt
  each_need (line ∷ lines) (first, all) = (need_given line.statement (stated line first), each_need lines all)

  needs_said : (lines : List Line) → Each Says lines → Each Needs (needs lines)
  needs_said lines all = needs_each Needs lines (each_need lines all)

  files_said : (lines : List Line) → Each Says lines → Each P (needed_files lines)
  unfolding needed_files Needs
  files_said lines all = once P bytes_eq _ (mapped Needs P (λ need. need.file) (λ need there. there.1) (needs lines) (needs_said lines all))

  needed_said : (lines : List Line) → Each Says lines → Each P (needed_names lines)
  unfolding file_versions Needs
  needed_said lines all = joined P (file_versions lines)
      (λ file. once P bytes_eq _ (mapped Needs P (λ need. need.version) (λ need there. there.0) (filter (is_of_file file) (needs lines)) (filtered Needs (is_of_file file) (needs lines) (needs_said lines all))))
      (needed_files lines)

  all_said : (lines : List Line) → Each Says lines → Each P (string_names lines)
  all_said lines all =
      both P _ (needed_names lines)
      (both P _ (needed_files lines)
      (both P _ (versions lines)
      (both P _ (export_names lines)
      (both P _ (imports lines)
      (both P (option_to_list (soname lines)) (needed lines) (as_list P (soname lines) (own_said lines all)) (libraries_said lines all))
      (imports_said lines all))
      (exports_said lines all))
      (versions_said lines all))
      (files_said lines all))
      (needed_said lines all)

-- each of a list is in it
itself : {A : Type 0} (xs : List A) → Each (Contains xs) xs
itself xs = each (Contains xs) xs (All-contains_itself xs)

parted : {X A : Type 0} (P : A → Type 0) (f : X → List A) (xs : List X) → Each P (flat_map f xs) → Each (λ x. Each P (f x)) xs
parted P f [] all = tt
parted P f (x ∷ xs) all = (first P (f x) (flat_map f xs) all, parted P f xs (second P (f x) (flat_map f xs) all))

pub strings_said : (lines : List Line) → All (IsSaid lines) (string_names lines)
unfolding Says
strings_said lines = all (IsSaid lines) (string_names lines) (all_said (IsSaid lines) lines (parted (IsSaid lines) line_names lines (itself (said_names lines))))
