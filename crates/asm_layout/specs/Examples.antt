-- Two sources and what they denote, worked by hand: a program that calls another object's function, and a library with a constructor and a thread-local word.
use Rattle.std.specs.Prelude.{ℕ, false, List, [], ◌∷◌, Some, None, codes}
use Rattle.asm_statement.specs.declared.number.Number.{Number}
use Rattle.asm_statement.specs.declared.directive.ObjectKind.TheVariants as kinds
use Rattle.asm_statement.specs.declared.directive.Export.TheVariants as visibilities
use Rattle.asm_statement.specs.declared.directive.Array.TheVariants as arrays
use Rattle.asm_statement.specs.declared.directive.Section.TheVariants as sections
use Rattle.asm_statement.specs.declared.directive.Doubleword.TheVariants as doublewords
use Rattle.asm_statement.specs.declared.directive.Directive.{Directive}
use Rattle.asm_statement.specs.declared.directive.Directive.TheVariants as directives
use Rattle.asm_statement.specs.declared.instruction.PlainOp.TheVariants as plains
use Rattle.asm_statement.specs.declared.instruction.AddressOp.TheVariants as addresses
use Rattle.asm_statement.specs.declared.instruction.Instruction.{Instruction}
use Rattle.asm_statement.specs.declared.instruction.Instruction.TheVariants as instructions
use Rattle.asm_statement.specs.declared.line.Statement.TheVariants as statements
use Rattle.asm_statement.specs.declared.line.Line.{Line}
use Rattle.asm_write.specs.declared.contents.Contents.{Contents}
use Rattle.asm_write.specs.declared.starts.Starts.{Starts}
use Rattle.asm_write.specs.Starts.{starts_of}
use Rattle.asm_layout.specs.Contents.{contents_of}

abbrev pub number : ℕ → Number
number n = record { is_negative = false; magnitude = Some n }

abbrev pub says : Directive → Line
says directive = record { label = None; statement = Some (statements.Directive directive) }

abbrev pub does : Instruction → Line
does instruction = record { label = None; statement = Some (statements.Instruction instruction) }

abbrev pub at_label : List ℕ → Line → Line
at_label name line = record line { label = Some name }

-- .kind prog
-- .needed libf.so
-- _start: call f
--         call g
--         ret
-- g:      li a0, 5
--         ret
-- .data
-- p: .dword f
--    .dword p+8
abbrev pub program : List Line
program =
    says (directives.Kind kinds.Program) ∷ says (directives.Needed (codes "libf.so")) ∷
    at_label (codes "_start") (does (instructions.Call (codes "f"))) ∷ does (instructions.Call (codes "g")) ∷ does (instructions.Plain plains.Ret) ∷
    at_label (codes "g") (does (instructions.Li 10 (number 5))) ∷ does (instructions.Plain plains.Ret) ∷
    says (directives.Section sections.Data) ∷
    at_label (codes "p") (says (directives.Dword (doublewords.Address (codes "f") (number 0)))) ∷
    says (directives.Dword (doublewords.Address (codes "p") (number 8))) ∷ []

-- .soname l
-- .global f
-- .init f
-- .relr
-- .tdata
-- v: .dword 7
-- .text
-- f: la.tls.ie a0, v
--    ret
abbrev pub library : List Line
library =
    says (directives.Soname (codes "l")) ∷ says (directives.Export visibilities.Global (codes "f")) ∷ says (directives.Entries arrays.Init (codes "f")) ∷
    says directives.Relr ∷ says (directives.Section sections.Tdata) ∷ at_label (codes "v") (says (directives.Dword (doublewords.Number (number 7)))) ∷
    says (directives.Section sections.Text) ∷ at_label (codes "f") (does (instructions.Address addresses.LaTlsIe 10 (codes "v"))) ∷
    does (instructions.Plain plains.Ret) ∷ []

-- what the library's object holds, and where its parts start
abbrev pub library_contents : Contents
library_contents = contents_of library

abbrev pub library_starts : Starts
library_starts = starts_of library_contents

-- a: nop, twice; li a0, 0x100000000; j nowhere; a nop in .data
abbrev pub twice : List Line
twice = at_label (codes "a") (does (instructions.Plain plains.Nop)) ∷ at_label (codes "a") (does (instructions.Plain plains.Nop)) ∷ []

abbrev pub too_great : List Line
too_great = does (instructions.Li 10 (number 0x100000000)) ∷ []

abbrev pub nowhere : List Line
nowhere = does (instructions.Jump (codes "nowhere")) ∷ []

abbrev pub misplaced : List Line
misplaced = says (directives.Section sections.Data) ∷ does (instructions.Plain plains.Nop) ∷ []
