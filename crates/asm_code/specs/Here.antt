-- What the instruction of a line is at an address.
use Rattle.std.specs.Prelude.{ℕ, Bool, ◌&&◌, List, Option}
use Rattle.rv_isa.specs.declared.instr.Instr.{Instr}
use Rattle.asm_statement.specs.declared.instruction.Instruction.{Instruction}
use Rattle.asm_statement.specs.declared.line.Line.{Line}
use Rattle.asm_layout.specs.Expansions.{expansion, operand_of}
use Rattle.asm_layout.specs.Words.{instrs_of, operand_value}
use Rattle.asm_layout.specs.Faults.{number_fits, all_have_form}

-- the instructions of the machine that it stands for there
abbrev pub instrs_here : List Line → ℕ → Instruction → Option (List Instr)
instrs_here lines here instruction = instrs_of (expansion instruction) (operand_value lines here (operand_of instruction))

-- whether its number and its distance fit there
abbrev pub fits_here : List Line → ℕ → Instruction → Bool
fits_here lines here instruction = number_fits (operand_of instruction) && all_have_form (instrs_here lines here instruction)
