-- What the sources of a generated set say, line by line: their text is that of generated_sources.
use Rattle.std.specs.Prelude.{ℕ, false, ◌+◌, ◌*◌, ◌/◌, ◌%◌, nat_lt, if◌then◌else◌, List, [], ◌∷◌, ◌++◌, flat_map, Some, None, codes}
use Rattle.std.specs.Fmt.{decimal}
use Rattle.std.specs.List.{range_with_len}
use Rattle.rv_isa.specs.declared.operation.RegOp.TheVariants as ops
use Rattle.asm_statement.specs.declared.number.Number.{Number}
use Rattle.asm_statement.specs.declared.directive.ObjectKind.TheVariants as kinds
use Rattle.asm_statement.specs.declared.directive.Export.TheVariants as exports
use Rattle.asm_statement.specs.declared.directive.Directive.{Directive}
use Rattle.asm_statement.specs.declared.directive.Directive.TheVariants as directives
use Rattle.asm_statement.specs.declared.instruction.PlainOp.TheVariants as plains
use Rattle.asm_statement.specs.declared.instruction.Instruction.{Instruction}
use Rattle.asm_statement.specs.declared.instruction.Instruction.TheVariants as instructions
use Rattle.asm_statement.specs.declared.line.Statement.TheVariants as statements
use Rattle.asm_statement.specs.declared.line.Line.{Line}
use Rattle.lib_gen.specs.GeneratedSources.Shape.{call_count, function_count}

abbrev pub says : Directive → Line
says directive = record { label = None; statement = Some (statements.Directive directive) }

abbrev pub does : Instruction → Line
does instruction = record { label = None; statement = Some (statements.Instruction instruction) }

abbrev pub at_label : List ℕ → Instruction → Line
at_label name instruction = record { label = Some name; statement = Some (statements.Instruction instruction) }

-- behind the last line feed
abbrev pub nothing : Line
nothing = record { label = None; statement = None }

abbrev pub number : ℕ → Number
number n = record { is_negative = false; magnitude = Some n }

-- names

unfoldable pub library_name : ℕ → List ℕ
library_name i = codes "lib" ++ (decimal i ++ codes ".so")

unfoldable pub function_name : ℕ → ℕ → List ℕ
function_name i j = codes "f_" ++ (decimal i ++ (codes "_" ++ decimal j))

-- a library; a0 is register 10 (RISC-V psABI, "Integer Register Convention")

abbrev pub needed_said : ℕ → ℕ → List Line
needed_said libraries d = if nat_lt d libraries then says (directives.Needed (library_name d)) ∷ [] else []

abbrev pub function_said : ℕ → ℕ → List Line
function_said i j = says (directives.Export exports.Global (function_name i j)) ∷ at_label (function_name i j) (instructions.Tail (codes "g")) ∷ []

abbrev pub last_said : ℕ → List Line
last_said i =
    says (directives.Export exports.Global (codes "g")) ∷ at_label (codes "g") (instructions.Li 10 (number (i + 1)))
    ∷ does (instructions.Plain plains.Ret) ∷ []

unfoldable pub library_said : ℕ → ℕ → ℕ → List Line
library_said libraries functions i =
    (says (directives.Soname (library_name i)) ∷ [])
    ++ (needed_said libraries (2 * i + 1) ++ (needed_said libraries (2 * i + 2)
    ++ (flat_map (function_said i) (range_with_len 0 functions) ++ last_said i)))

-- the program; s0 is register 8, a7 17

abbrev pub call_said : ℕ → ℕ → List Line
call_said functions x = does (instructions.Call (function_name (x / functions) (x % functions))) ∷ does (instructions.Op ops.Add 8 8 10) ∷ []

abbrev pub calls_said : (functions number calls : ℕ) → List Line
calls_said functions number calls = flat_map (λ place. call_said functions ((place + number) % calls)) (range_with_len 0 calls)

abbrev pub first_said : List Line
first_said =
    says (directives.Kind kinds.Program) ∷ says (directives.Needed (codes "lib0.so"))
    ∷ at_label (codes "_start") (instructions.Li 8 (number 0)) ∷ []

abbrev pub exit_said : List Line
exit_said = does (instructions.Mv 10 8) ∷ does (instructions.Li 17 (number 93)) ∷ does (instructions.Plain plains.Ecall) ∷ []

unfoldable pub program_said : ℕ → List Line
program_said number = first_said ++ (calls_said (function_count number) number (call_count number) ++ exit_said)

-- each source ends in a line feed

abbrev pub library_lines : ℕ → ℕ → ℕ → List Line
library_lines libraries functions i = library_said libraries functions i ++ nothing ∷ []

abbrev pub program_lines : ℕ → List Line
program_lines number = program_said number ++ nothing ∷ []
