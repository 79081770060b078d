-- What the code and the data need of names, each thing once and by first use.
use Rattle.std.specs.Prelude.{ℕ, Bool, true, false, ◌&&◌, if◌then◌else◌, List, [], ◌∷◌, ◌++◌, filter_map, find, fold}
use Rattle.std.specs.Prelude.{Option, Some, None, option_map}
use Rattle.std.specs.Str.{bytes_eq}
use Rattle.std.specs.List.{list_any}
use Rattle.std.specs.Option.{option_eq, is_some}
use Rattle.std.proofs.Math.Bool.{beq}
use Rattle.asm_statement.specs.declared.directive.Directive.{Directive}
use Rattle.asm_statement.specs.declared.directive.Directive.TheVariants as directives
use Rattle.asm_statement.specs.declared.directive.Doubleword.{Doubleword}
use Rattle.asm_statement.specs.declared.directive.Doubleword.TheVariants as doublewords
use Rattle.asm_statement.specs.declared.directive.Export.TheVariants as visibilities
use Rattle.asm_statement.specs.declared.directive.Need.{Need}
use Rattle.asm_statement.specs.declared.directive.Symver.{Symver}
use Rattle.asm_statement.specs.declared.line.Statement.{Statement}
use Rattle.asm_statement.specs.declared.line.Statement.TheVariants as statements
use Rattle.asm_statement.specs.declared.line.Line.{Line}
use Rattle.asm_layout.specs.declared.uses.GotKind.{GotKind}
use Rattle.asm_layout.specs.declared.uses.GotKind.TheVariants as gots
use Rattle.asm_layout.specs.declared.uses.GotUse.{GotUse}
use Rattle.asm_layout.specs.declared.uses.Exported.{Exported}
use Rattle.asm_layout.specs.Expansions.{Operand, Registers, Immediate, Upper, Word, Label, Code, Entry, operand_of}
use Rattle.asm_layout.specs.Labels.{is_label}
use Rattle.asm_layout.specs.Names.{is_foreign, is_preemptible}

-- each element that no earlier one equals
abbrev pub distinct_after : {A : Type 0} → (A → A → Bool) → List A → List A → List A
distinct_after same seen [] = []
distinct_after same seen (x ∷ xs) =
    if list_any (same x) seen then distinct_after same seen xs else x ∷ distinct_after same (seen ++ x ∷ []) xs

unfoldable pub distinct : {A : Type 0} → (A → A → Bool) → List A → List A
distinct same xs = distinct_after same [] xs

abbrev pub distinct_names : List (List ℕ) → List (List ℕ)
distinct_names names = distinct bytes_eq names

-- the name whose code an instruction goes to
abbrev pub code_name : Operand → Option (List ℕ)
code_name (Code name) = Some name
code_name Registers = None
code_name (Immediate number) = None
code_name (Upper number) = None
code_name (Word number) = None
code_name (Label name) = None
code_name (Entry kind name) = None

-- what an instruction takes from the global offset table
abbrev pub entry_of : Operand → Option GotUse
entry_of (Entry kind name) = Some (record { kind = kind; name = name })
entry_of Registers = None
entry_of (Immediate number) = None
entry_of (Upper number) = None
entry_of (Word number) = None
entry_of (Label name) = None
entry_of (Code name) = None

-- the name that an instruction mentions so that another object may define it
abbrev pub foreign_name : Operand → Option (List ℕ)
foreign_name (Code name) = Some name
foreign_name (Entry kind name) = Some name
foreign_name Registers = None
foreign_name (Immediate number) = None
foreign_name (Upper number) = None
foreign_name (Word number) = None
foreign_name (Label name) = None

-- what a line's instruction needs
abbrev pub line_operand : Option Statement → Operand
line_operand (Some (statements.Instruction instruction)) = operand_of instruction
line_operand (Some (statements.Directive directive)) = Registers
line_operand None = Registers

-- the name that a line calls or goes to by way of a slot, where another object may define it
abbrev pub callee : Option Statement → Option (List ℕ)
callee statement = code_name (line_operand statement)

abbrev pub if_preemptible : List Line → Option (List ℕ) → Option (List ℕ)
if_preemptible lines None = None
if_preemptible lines (Some name) = if is_preemptible lines name then Some name else None

-- the names that have a slot, in the order of their slots
unfoldable pub slots : List Line → List (List ℕ)
slots lines = distinct_names (filter_map (λ line. if_preemptible lines (callee line.statement)) lines)

-- what a line takes from the global offset table
abbrev pub got_use : Option Statement → Option GotUse
got_use statement = entry_of (line_operand statement)

abbrev pub same_kind : GotKind → GotKind → Bool
same_kind gots.Address gots.Address = true
same_kind gots.Pair gots.Pair = true
same_kind gots.Offset gots.Offset = true
same_kind _ _ = false

abbrev pub same_use : GotUse → GotUse → Bool
same_use one other = same_kind one.kind other.kind && bytes_eq one.name other.name

-- what stands in the global offset table, in order
unfoldable pub got_uses : List Line → List GotUse
got_uses lines = distinct same_use (filter_map (λ line. got_use line.statement) lines)

-- the name that a statement mentions so that another object may define it
abbrev pub dword_mention : Doubleword → Option (List ℕ)
dword_mention (doublewords.Number number) = None
dword_mention (doublewords.Address name addend) = Some name

abbrev pub directive_mention : Directive → Option (List ℕ)
directive_mention (directives.Dword value) = dword_mention value
directive_mention (directives.Need need) = Some need.name
directive_mention (directives.Weak name) = Some name
directive_mention _ = None

abbrev pub mention : Option Statement → Option (List ℕ)
mention None = None
mention (Some (statements.Directive directive)) = directive_mention directive
mention (Some (statements.Instruction instruction)) = foreign_name (operand_of instruction)

abbrev pub if_foreign : List Line → Option (List ℕ) → Option (List ℕ)
if_foreign lines None = None
if_foreign lines (Some name) = if is_foreign lines name then Some name else None

-- the undefined symbols, by first mention
unfoldable pub imports : List Line → List (List ℕ)
imports lines = distinct_names (filter_map (λ line. if_foreign lines (mention line.statement)) lines)

-- what references need of versions: of the lines of one name the last counts, and its place is that of the first
abbrev pub directive_need : Directive → Option Need
directive_need (directives.Need need) = Some need
directive_need _ = None

abbrev pub need_of : Option Statement → Option Need
need_of None = None
need_of (Some (statements.Directive directive)) = directive_need directive
need_of (Some (statements.Instruction instruction)) = None

abbrev pub with_need : List Need → Need → List Need
with_need [] need = need ∷ []
with_need (first ∷ needs) need = if bytes_eq need.name first.name then need ∷ needs else first ∷ with_need needs need

unfoldable pub needs : List Line → List Need
needs lines = fold with_need [] (filter_map (λ line. need_of line.statement) lines)

-- the version of a label that has one by what references to it need: that of a copy
abbrev pub copies : List ℕ → Option Statement → Bool
copies name (Some (statements.Directive (directives.Copy copy size))) = bytes_eq name copy
copies name _ = false

abbrev pub is_copy_label : List Line → List ℕ → Bool
is_copy_label lines name = list_any (λ line. copies name line.statement) lines

abbrev pub needed_version : List Line → List ℕ → Option (List ℕ)
needed_version lines name = option_map (λ need. need.version) (find (λ need. bytes_eq name need.name) (needs lines))

abbrev pub own_version : List Line → List ℕ → Option (List ℕ)
own_version lines name = if is_copy_label lines name then needed_version lines name else None

-- the symbol that a statement exports: a label by its own name, a label under a name and a version that the object defines, a copy
abbrev pub own_symbol : List Line → List ℕ → Exported
own_symbol lines name = record {
  label = name;
  name = name;
  version = own_version lines name;
  is_needed = is_some (own_version lines name);
  is_default = true;
}

abbrev pub version_symbol : Symver → Exported
version_symbol symver = record {
  label = symver.label;
  name = symver.name;
  version = Some symver.version;
  is_needed = false;
  is_default = symver.is_default;
}

-- a copy is exported by its own line alone
abbrev pub label_symbol : List Line → List ℕ → Option Exported
label_symbol lines name = if is_copy_label lines name then None else Some (own_symbol lines name)

abbrev pub exported_by_directive : List Line → Directive → Option Exported
exported_by_directive lines (directives.Export visibilities.Global name) = label_symbol lines name
exported_by_directive lines (directives.Weak name) = label_symbol lines name
exported_by_directive lines (directives.Copy name size) = Some (own_symbol lines name)
exported_by_directive lines (directives.Symver symver) = Some (version_symbol symver)
exported_by_directive lines _ = None

abbrev pub exported_by : List Line → Option Statement → Option Exported
exported_by lines None = None
exported_by lines (Some (statements.Directive directive)) = exported_by_directive lines directive
exported_by lines (Some (statements.Instruction instruction)) = None

-- a symbol of a label; a name that is none exports nothing
abbrev pub if_labelled : List Line → Option Exported → Option Exported
if_labelled lines None = None
if_labelled lines (Some exported) = if is_label lines exported.label then Some exported else None

abbrev pub same_export : Exported → Exported → Bool
same_export one other =
    bytes_eq one.label other.label
    && (bytes_eq one.name other.name && (option_eq bytes_eq one.version other.version
    && (beq one.is_needed other.is_needed && beq one.is_default other.is_default)))

-- the symbols that other objects may find, in the order of the lines that first export them
unfoldable pub exports : List Line → List Exported
exports lines = distinct same_export (filter_map (λ line. if_labelled lines (exported_by lines line.statement)) lines)
