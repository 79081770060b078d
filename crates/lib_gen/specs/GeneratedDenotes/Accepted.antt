-- Sources that the assembler doesn't refuse.
use Rattle.std.specs.Prelude.{◌≡◌, ℕ, List}
use Rattle.asm_statement.specs.declared.fault.AsmFault.{AsmFault}
use Rattle.asm_statement.specs.declared.fault.AsmFault.TheVariants.{Memory}
use Rattle.asm_layout.specs.AsmDenotes.Denotes.{Denotes, TellsOf}

-- a source denotes an object
abbrev pub HasObject : List ℕ → Type 0
HasObject source = (bytes : List ℕ) × Denotes source bytes

-- the one fault that may be told of a source is want of memory
abbrev pub IsUnrefused : List ℕ → Type 0
IsUnrefused source = (fault : AsmFault) → TellsOf source fault → fault ≡ Memory
