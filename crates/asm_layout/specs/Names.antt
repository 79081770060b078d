-- Which names another object may define in place of this one.
use Rattle.std.specs.Prelude.{ℕ, Bool, true, false, not, ◌||◌, ◌&&◌, List, fold, Option, Some, codes}
use Rattle.std.specs.Str.{bytes_eq}
use Rattle.std.specs.List.{list_any}
use Rattle.asm_statement.specs.declared.directive.ObjectKind.{ObjectKind}
use Rattle.asm_statement.specs.declared.directive.ObjectKind.TheVariants as kinds
use Rattle.asm_statement.specs.declared.directive.Export.TheVariants as visibilities
use Rattle.asm_statement.specs.declared.directive.Directive.TheVariants as directives
use Rattle.asm_statement.specs.declared.line.Statement.{Statement}
use Rattle.asm_statement.specs.declared.line.Statement.TheVariants as statements
use Rattle.asm_statement.specs.declared.line.Line.{Line}
use Rattle.asm_layout.specs.Labels.{is_label}

-- the kind that a line gives the object; of several the last counts
abbrev pub kind_given : ObjectKind → Option Statement → ObjectKind
kind_given kind (Some (statements.Directive (directives.Kind given))) = given
kind_given kind _ = kind

unfoldable pub kind_of : List Line → ObjectKind
kind_of lines = fold (λ kind line. kind_given kind line.statement) kinds.Library lines

abbrev pub is_library : ObjectKind → Bool
is_library kinds.Library = true
is_library kinds.Program = false
is_library kinds.Executable = false

abbrev pub is_executable : ObjectKind → Bool
is_executable kinds.Library = false
is_executable kinds.Program = false
is_executable kinds.Executable = true

-- a line that exports a name: .global or .weak
abbrev pub statement_exports : List ℕ → Option Statement → Bool
statement_exports name (Some (statements.Directive (directives.Export visibilities.Global exported))) = bytes_eq name exported
statement_exports name (Some (statements.Directive (directives.Weak exported))) = bytes_eq name exported
statement_exports name _ = false

-- a line that keeps a name for the object's own references: .hidden or .protected
abbrev pub statement_keeps : List ℕ → Option Statement → Bool
statement_keeps name (Some (statements.Directive (directives.Export visibilities.Hidden kept))) = bytes_eq name kept
statement_keeps name (Some (statements.Directive (directives.Export visibilities.Protected kept))) = bytes_eq name kept
statement_keeps name _ = false

abbrev pub is_exported : List Line → List ℕ → Bool
is_exported lines name = list_any (λ line. statement_exports name line.statement) lines

abbrev pub is_kept : List Line → List ℕ → Bool
is_kept lines name = list_any (λ line. statement_keeps name line.statement) lines

-- the label that stands for the start of .got.plt
abbrev pub got_plt_name : List ℕ
got_plt_name = codes "_GOTPLT_"

abbrev pub is_got_plt : List ℕ → Bool
is_got_plt name = bytes_eq name got_plt_name

-- a name that is no label: another object has to define it
abbrev pub is_foreign : List Line → List ℕ → Bool
is_foreign lines name = not (is_label lines name) && not (is_got_plt name)

-- a name that another object may define: a foreign one, or a label of a library that is exported and not kept
unfoldable pub is_preemptible : List Line → List ℕ → Bool
is_preemptible lines name =
    is_foreign lines name || (is_label lines name && is_library (kind_of lines) && is_exported lines name && not (is_kept lines name))
