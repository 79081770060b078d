-- The operands of instructions, a line a form of them.
use Rattle.std.specs.Prelude.{ℕ, true, false, if◌then◌else◌, List, [], ◌∷◌, length, map, ◌==◌, Option, Some, None}
use Rattle.std.specs.Option.{option_map}
use Rattle.std.specs.Str.{byte}
use Rattle.asm_statement.specs.AsmWords.Text.{◌>>=◌, trimmed, cut, parts_of}
use Rattle.asm_statement.specs.AsmWords.Names.{name}
use Rattle.asm_statement.specs.AsmWords.Number.{number}
use Rattle.asm_statement.specs.AsmWords.Registers.{register}
use Rattle.asm_statement.specs.AsmWords.Kinds.{fence_set}
use Rattle.asm_statement.specs.declared.asm_words.mnemonics.TargetForm.{TargetForm}
use Rattle.asm_statement.specs.declared.asm_words.mnemonics.AddressForm.{AddressForm}
use Rattle.asm_statement.specs.declared.asm_words.mnemonics.TargetForm.TheVariants as targets
use Rattle.asm_statement.specs.declared.asm_words.mnemonics.AddressForm.TheVariants as labels
use Rattle.asm_statement.specs.declared.asm_words.mnemonics.MemoryForm.{MemoryForm}
use Rattle.asm_statement.specs.declared.asm_words.mnemonics.MemoryForm.TheVariants as memories
use Rattle.asm_statement.specs.declared.asm_words.mnemonics.RegisterForm.{RegisterForm}
use Rattle.asm_statement.specs.declared.asm_words.mnemonics.RegisterForm.TheVariants as registers
use Rattle.asm_statement.specs.declared.asm_words.mnemonics.Form.{Form}
use Rattle.asm_statement.specs.declared.asm_words.mnemonics.Form.TheVariants as forms
use Rattle.asm_statement.specs.declared.number.Number.{Number}
use Rattle.asm_statement.specs.declared.instruction.Fence.{Fence}
use Rattle.asm_statement.specs.declared.instruction.FenceSet.{FenceSet}
use Rattle.asm_statement.specs.declared.instruction.Instruction.{Instruction}
use Rattle.asm_statement.specs.declared.instruction.Instruction.TheVariants as the

abbrev pub zero : Number
zero = record { is_negative = false; magnitude = Some 0 }

-- what stands between commas, without the blanks around it; nothing where there is nothing
abbrev pub operands_of : List ℕ → List (List ℕ)
operands_of text = if length text == 0 then [] else map trimmed (parts_of text)

-- what stands before parentheses at a text's end, and in them
unfoldable pub parenthesised : List ℕ → Option (List ℕ × List ℕ)
parenthesised text = do
  front ← cut (byte "(") text
  inner ← cut (byte ")") front.1
  if length (trimmed inner.1) == 0 then Some (trimmed front.0, trimmed inner.0) else None

-- an offset, 0 where it is left out
abbrev pub offset : List ℕ → Option Number
offset text = if length text == 0 then Some zero else number text

-- N(rs), or (rs)
unfoldable pub address : List ℕ → Option (Number × ℕ)
address text = do
  parts ← parenthesised text
  distance ← offset parts.0
  base ← register parts.1
  Some (distance, base)

-- (rs)
unfoldable pub base : List ℕ → Option ℕ
base text = do
  parts ← parenthesised text
  if length parts.0 == 0 then register parts.1 else None

-- the target of jalr: a register, or an address
abbrev pub jump_target : List ℕ → Option (Number × ℕ)
jump_target text = register_target (register text)
  where
    register_target : Option ℕ → Option (Number × ℕ)
    register_target None = address text
    register_target (Some rs1) = Some (zero, rs1)

-- rd
abbrev pub one_register : List (List ℕ) → Option ℕ
one_register (rd ∷ []) = register rd
one_register _ = None

-- rd, rs
abbrev pub two_registers : List (List ℕ) → Option (ℕ × ℕ)
two_registers (first ∷ second ∷ []) = do
  one ← register first
  two ← register second
  Some (one, two)
two_registers _ = None

-- rd, rs1, rs2
abbrev pub three_registers : List (List ℕ) → Option (ℕ × ℕ × ℕ)
three_registers (first ∷ second ∷ third ∷ []) = do
  rd ← register first
  rs1 ← register second
  rs2 ← register third
  Some (rd, rs1, rs2)
three_registers _ = None

-- rd, rs1, N
abbrev pub registers_number : List (List ℕ) → Option (ℕ × ℕ × Number)
registers_number (first ∷ second ∷ third ∷ []) = do
  rd ← register first
  rs1 ← register second
  value ← number third
  Some (rd, rs1, value)
registers_number _ = None

-- rd, N
abbrev pub register_number : List (List ℕ) → Option (ℕ × Number)
register_number (first ∷ second ∷ []) = do
  rd ← register first
  value ← number second
  Some (rd, value)
register_number _ = None

-- rd, N(rs1)
abbrev pub register_address : List (List ℕ) → Option (ℕ × Number × ℕ)
register_address (first ∷ second ∷ []) = do
  one ← register first
  place ← address second
  Some (one, place.0, place.1)
register_address _ = None

-- rd, (rs1)
abbrev pub register_base : List (List ℕ) → Option (ℕ × ℕ)
register_base (first ∷ second ∷ []) = do
  rd ← register first
  rs1 ← base second
  Some (rd, rs1)
register_base _ = None

-- rd, rs2, (rs1)
abbrev pub registers_base : List (List ℕ) → Option (ℕ × ℕ × ℕ)
registers_base (first ∷ second ∷ third ∷ []) = do
  rd ← register first
  rs2 ← register second
  rs1 ← base third
  Some (rd, rs1, rs2)
registers_base _ = None

-- rd, rs1 or rd, N(rs1) or rd, rs1, N
abbrev pub jump : List (List ℕ) → Option (ℕ × ℕ × Number)
jump (first ∷ second ∷ []) = do
  rd ← register first
  target ← jump_target second
  Some (rd, target.1, target.0)
jump operands = registers_number operands

abbrev pub everything : FenceSet
everything = record { input = true; output = true; reads = true; writes = true }

-- what is ordered before, and what after; all where nothing is said
abbrev pub fence : List (List ℕ) → Option Fence
fence [] = Some (record { before = everything; after = everything })
fence (first ∷ second ∷ []) = do
  before ← fence_set first
  after ← fence_set second
  Some (record { before = before; after = after })
fence _ = None

-- LABEL
abbrev pub one_name : List (List ℕ) → Option (List ℕ)
one_name (target ∷ []) = name target
one_name _ = None

-- rd, LABEL
abbrev pub register_name : List (List ℕ) → Option (ℕ × List ℕ)
register_name (first ∷ second ∷ []) = do
  rd ← register first
  target ← name second
  Some (rd, target)
register_name _ = None

-- rs1, rs2, LABEL
abbrev pub registers_name : List (List ℕ) → Option (ℕ × ℕ × List ℕ)
registers_name (first ∷ second ∷ third ∷ []) = do
  rs1 ← register first
  rs2 ← register second
  target ← name third
  Some (rs1, rs2, target)
registers_name _ = None

-- instructions of registers and numbers
unfoldable pub of_registers : RegisterForm → List (List ℕ) → Option Instruction
of_registers (registers.Plain op) operands = if length operands == 0 then Some (the.Plain op) else None
of_registers (registers.Upper op) operands = option_map (λ p. the.Upper op p.0 p.1) (register_number operands)
of_registers registers.Li operands = option_map (λ p. the.Li p.0 p.1) (register_number operands)
of_registers (registers.Imm op) operands = option_map (λ p. the.Imm op p.0 p.1 p.2) (registers_number operands)
of_registers (registers.Op op) operands = option_map (λ p. the.Op op p.0 p.1 p.2) (three_registers operands)
of_registers registers.Jalr operands = option_map (λ p. the.Jalr p.0 p.1 p.2) (jump operands)
of_registers registers.Mv operands = option_map (λ p. the.Mv p.0 p.1) (two_registers operands)
of_registers registers.Jr operands = option_map the.Jr (one_register operands)
of_registers registers.Fence operands = option_map the.Fence (fence operands)

-- instructions that reach memory
unfoldable pub of_memory : MemoryForm → List (List ℕ) → Option Instruction
of_memory (memories.Load op) operands = option_map (λ p. the.Load op p.0 p.2 p.1) (register_address operands)
of_memory (memories.Store op) operands = option_map (λ p. the.Store op p.2 p.0 p.1) (register_address operands)
of_memory (memories.Amo op access) operands = option_map (λ p. the.Amo op access p.0 p.1 p.2) (registers_base operands)
of_memory (memories.Lr access) operands = option_map (λ p. the.Lr access p.0 p.1) (register_base operands)
of_memory (memories.Sc access) operands = option_map (λ p. the.Sc access p.0 p.1 p.2) (registers_base operands)

-- instructions of a name
abbrev pub targeted : TargetForm → List ℕ → Instruction
targeted targets.Jump target = the.Jump target
targeted targets.Call target = the.Call target
targeted targets.Tail target = the.Tail target

-- instructions of a register and a name
abbrev pub addressed : AddressForm → ℕ × List ℕ → Instruction
addressed labels.Jal p = the.Jal p.0 p.1
addressed (labels.BranchZero op) p = the.BranchZero op p.0 p.1
addressed (labels.Address op) p = the.Address op p.0 p.1

-- an instruction of a form with its operands
unfoldable pub instruction : Form → List (List ℕ) → Option Instruction
instruction (forms.Target form) operands = option_map (targeted form) (one_name operands)
instruction (forms.Address form) operands = option_map (addressed form) (register_name operands)
instruction (forms.Branch op) operands = option_map (λ p. the.Branch op p.0 p.1 p.2) (registers_name operands)
instruction (forms.Memory form) operands = of_memory form operands
instruction (forms.Register form) operands = of_registers form operands
