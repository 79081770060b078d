-- The names that lines say.
use Rattle.std.specs.Prelude.{ℕ, List, [], ◌∷◌, ◌++◌, Option, Some, None, flat_map, option_to_list}
use Rattle.std.specs.List.{Contains}
use Rattle.asm_statement.specs.declared.directive.Directive.{Directive}
use Rattle.asm_statement.specs.declared.directive.Directive.TheVariants as directives
use Rattle.asm_statement.specs.declared.directive.Doubleword.{Doubleword}
use Rattle.asm_statement.specs.declared.directive.Doubleword.TheVariants as doublewords
use Rattle.asm_statement.specs.declared.line.Line.{Line}
use Rattle.asm_statement.specs.declared.line.Statement.{Statement}
use Rattle.asm_statement.specs.declared.line.Statement.TheVariants as statements
use Rattle.asm_layout.specs.Expansions.{Operand, Registers, Immediate, Upper, Word, Label, Code, Entry, operand_of}

abbrev pub doubleword_names : Doubleword → List (List ℕ)
doubleword_names (doublewords.Number number) = []
doubleword_names (doublewords.Address name addend) = name ∷ []

abbrev pub directive_names : Directive → List (List ℕ)
directive_names (directives.Soname name) = name ∷ []
directive_names (directives.Needed name) = name ∷ []
directive_names (directives.Entry name) = name ∷ []
directive_names (directives.Export export name) = name ∷ []
directive_names (directives.Weak name) = name ∷ []
directive_names (directives.Version name) = name ∷ []
directive_names (directives.Entries array name) = name ∷ []
directive_names (directives.Symver symver) = symver.label ∷ symver.name ∷ symver.version ∷ []
directive_names (directives.Need need) = need.name ∷ need.version ∷ need.file ∷ []
directive_names (directives.Dword value) = doubleword_names value
directive_names (directives.Copy name size) = name ∷ []
directive_names _ = []

abbrev pub operand_names : Operand → List (List ℕ)
operand_names Registers = []
operand_names (Immediate number) = []
operand_names (Upper number) = []
operand_names (Word number) = []
operand_names (Label name) = name ∷ []
operand_names (Code name) = name ∷ []
operand_names (Entry kind name) = name ∷ []

abbrev pub statement_names : Option Statement → List (List ℕ)
statement_names None = []
statement_names (Some (statements.Directive directive)) = directive_names directive
statement_names (Some (statements.Instruction instruction)) = operand_names (operand_of instruction)

abbrev pub line_names : Line → List (List ℕ)
line_names line = option_to_list line.label ++ statement_names line.statement

-- the names that lines say, line by line; a name is among them
abbrev pub said_names : List Line → List (List ℕ)
said_names lines = flat_map line_names lines

abbrev pub IsSaid : List Line → List ℕ → Type 0
IsSaid lines name = Contains (said_names lines) name
