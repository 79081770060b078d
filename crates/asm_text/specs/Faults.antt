-- What a fault tells.
use Rattle.std.specs.Prelude.{ℕ, ◌≡◌, List, Err}
use Rattle.asm_grammar.specs.Reading.{read_line, read_lines, statements_of}
use Rattle.asm_grammar.specs.Grammar.{BreaksSource}
use Rattle.asm_statement.specs.declared.fault.AsmFault.{AsmFault}
use Rattle.asm_statement.specs.declared.fault.AsmFault.TheVariants.{At, Memory}

-- how the source breaks the grammar, where memory wasn't wanting
abbrev pub TellsOf : List ℕ → AsmFault → Type 0
TellsOf source Memory = Unit {0}
TellsOf source (At line cause) = BreaksSource source line cause

-- the same of a line, of lines and of a source as they are read, which the code is proved against
abbrev pub TellsOfLine : ℕ → List ℕ → AsmFault → Type 0
TellsOfLine number line Memory = Unit {0}
TellsOfLine number line (At other cause) = (other ≡ number) × (read_line line ≡ Err cause)

abbrev pub TellsOfLines : List (List ℕ) → AsmFault → Type 0
TellsOfLines lines Memory = Unit {0}
TellsOfLines lines (At line cause) = read_lines 1 lines ≡ Err (line, cause)

abbrev pub TellsOfSource : List ℕ → AsmFault → Type 0
TellsOfSource source Memory = Unit {0}
TellsOfSource source (At line cause) = statements_of source ≡ Err (line, cause)
