-- Mnemonics: Unprivileged ISA 20191213, chapters 24 and 25; `lga`, `la.tls.gd` and `la.tls.ie` are of the RISC-V Assembly Programmer's Manual.
use Rattle.std.specs.Prelude.{ℕ, Bool, true, false, List, [], ◌∷◌, Option, Some, codes}
use Rattle.std.specs.Option.{option_map, option_or}
use Rattle.std.specs.Str.{byte}
use Rattle.asm_statement.specs.AsmWords.Table.{named}
use Rattle.asm_statement.specs.AsmWords.Text.{cut, ◌>>=◌}
use Rattle.asm_statement.specs.declared.instruction.Access.{Access}
use Rattle.asm_statement.specs.declared.instruction.Width.{Width}
use Rattle.asm_statement.specs.declared.instruction.Width.TheVariants as widths
use Rattle.asm_statement.specs.declared.instruction.PlainOp.TheVariants as plains
use Rattle.asm_statement.specs.declared.instruction.UpperOp.TheVariants as uppers
use Rattle.asm_statement.specs.declared.instruction.ZeroBranchOp.TheVariants as zeros
use Rattle.asm_statement.specs.declared.instruction.AddressOp.TheVariants as addresses
use Rattle.rv_isa.specs.declared.operation.BranchOp.TheVariants as branches
use Rattle.rv_isa.specs.declared.operation.LoadOp.TheVariants as loads
use Rattle.rv_isa.specs.declared.operation.StoreOp.TheVariants as stores
use Rattle.rv_isa.specs.declared.operation.ImmOp.TheVariants as imms
use Rattle.rv_isa.specs.declared.operation.RegOp.TheVariants as ops
use Rattle.rv_isa.specs.declared.operation.AmoOp.TheVariants as amos
use Rattle.asm_statement.specs.declared.asm_words.mnemonics.Atomic.{Atomic}
use Rattle.asm_statement.specs.declared.asm_words.mnemonics.Atomic.TheVariants as atomics
use Rattle.asm_statement.specs.declared.asm_words.mnemonics.TargetForm.TheVariants as targets
use Rattle.asm_statement.specs.declared.asm_words.mnemonics.AddressForm.TheVariants as labels
use Rattle.asm_statement.specs.declared.asm_words.mnemonics.MemoryForm.{MemoryForm}
use Rattle.asm_statement.specs.declared.asm_words.mnemonics.MemoryForm.TheVariants as memories
use Rattle.asm_statement.specs.declared.asm_words.mnemonics.RegisterForm.TheVariants as registers
use Rattle.asm_statement.specs.declared.asm_words.mnemonics.Form.{Form}
use Rattle.asm_statement.specs.declared.asm_words.mnemonics.Form.TheVariants as forms

-- the mnemonics of one word
abbrev pub word_form_rows : List (List ℕ × Form)
word_form_rows =
    (codes "ecall", forms.Register (registers.Plain plains.Ecall)) ∷ (codes "ebreak", forms.Register (registers.Plain plains.Ebreak)) ∷
    (codes "nop", forms.Register (registers.Plain plains.Nop)) ∷ (codes "ret", forms.Register (registers.Plain plains.Ret)) ∷
    (codes "j", forms.Target targets.Jump) ∷ (codes "call", forms.Target targets.Call) ∷ (codes "tail", forms.Target targets.Tail) ∷
    (codes "lui", forms.Register (registers.Upper uppers.Lui)) ∷
    (codes "auipc", forms.Register (registers.Upper uppers.Auipc)) ∷ (codes "li", forms.Register registers.Li) ∷ (codes "jal", forms.Address labels.Jal) ∷
    (codes "beqz", forms.Address (labels.BranchZero zeros.Beqz)) ∷
    (codes "bnez", forms.Address (labels.BranchZero zeros.Bnez)) ∷ (codes "la", forms.Address (labels.Address addresses.La)) ∷
    (codes "lga", forms.Address (labels.Address addresses.Lga)) ∷ (codes "la.tls.gd", forms.Address (labels.Address addresses.LaTlsGd)) ∷
    (codes "la.tls.ie", forms.Address (labels.Address addresses.LaTlsIe)) ∷ (codes "jalr", forms.Register registers.Jalr) ∷
    (codes "mv", forms.Register registers.Mv) ∷ (codes "jr", forms.Register registers.Jr) ∷
    (codes "fence", forms.Register registers.Fence) ∷ (codes "beq", forms.Branch branches.Beq) ∷ (codes "bne", forms.Branch branches.Bne) ∷
    (codes "blt", forms.Branch branches.Blt) ∷
    (codes "bge", forms.Branch branches.Bge) ∷ (codes "bltu", forms.Branch branches.Bltu) ∷ (codes "bgeu", forms.Branch branches.Bgeu) ∷
    (codes "lb", forms.Memory (memories.Load loads.Lb)) ∷
    (codes "lh", forms.Memory (memories.Load loads.Lh)) ∷ (codes "lw", forms.Memory (memories.Load loads.Lw)) ∷
    (codes "ld", forms.Memory (memories.Load loads.Ld)) ∷ (codes "lbu", forms.Memory (memories.Load loads.Lbu)) ∷
    (codes "lhu", forms.Memory (memories.Load loads.Lhu)) ∷ (codes "lwu", forms.Memory (memories.Load loads.Lwu)) ∷
    (codes "sb", forms.Memory (memories.Store stores.Sb)) ∷ (codes "sh", forms.Memory (memories.Store stores.Sh)) ∷
    (codes "sw", forms.Memory (memories.Store stores.Sw)) ∷ (codes "sd", forms.Memory (memories.Store stores.Sd)) ∷
    (codes "addi", forms.Register (registers.Imm imms.Addi)) ∷ (codes "slti", forms.Register (registers.Imm imms.Slti)) ∷
    (codes "sltiu", forms.Register (registers.Imm imms.Sltiu)) ∷ (codes "xori", forms.Register (registers.Imm imms.Xori)) ∷
    (codes "ori", forms.Register (registers.Imm imms.Ori)) ∷ (codes "andi", forms.Register (registers.Imm imms.Andi)) ∷
    (codes "slli", forms.Register (registers.Imm imms.Slli)) ∷ (codes "srli", forms.Register (registers.Imm imms.Srli)) ∷
    (codes "srai", forms.Register (registers.Imm imms.Srai)) ∷ (codes "addiw", forms.Register (registers.Imm imms.Addiw)) ∷
    (codes "slliw", forms.Register (registers.Imm imms.Slliw)) ∷ (codes "srliw", forms.Register (registers.Imm imms.Srliw)) ∷
    (codes "sraiw", forms.Register (registers.Imm imms.Sraiw)) ∷ (codes "add", forms.Register (registers.Op ops.Add)) ∷
    (codes "sub", forms.Register (registers.Op ops.Sub)) ∷ (codes "sll", forms.Register (registers.Op ops.Sll)) ∷
    (codes "slt", forms.Register (registers.Op ops.Slt)) ∷ (codes "sltu", forms.Register (registers.Op ops.Sltu)) ∷
    (codes "xor", forms.Register (registers.Op ops.Xor)) ∷ (codes "srl", forms.Register (registers.Op ops.Srl)) ∷
    (codes "sra", forms.Register (registers.Op ops.Sra)) ∷ (codes "or", forms.Register (registers.Op ops.Or)) ∷
    (codes "and", forms.Register (registers.Op ops.And)) ∷ (codes "mul", forms.Register (registers.Op ops.Mul)) ∷
    (codes "mulh", forms.Register (registers.Op ops.Mulh)) ∷ (codes "mulhsu", forms.Register (registers.Op ops.Mulhsu)) ∷
    (codes "mulhu", forms.Register (registers.Op ops.Mulhu)) ∷ (codes "div", forms.Register (registers.Op ops.Div)) ∷
    (codes "divu", forms.Register (registers.Op ops.Divu)) ∷ (codes "rem", forms.Register (registers.Op ops.Rem)) ∷
    (codes "remu", forms.Register (registers.Op ops.Remu)) ∷ (codes "addw", forms.Register (registers.Op ops.Addw)) ∷
    (codes "subw", forms.Register (registers.Op ops.Subw)) ∷ (codes "sllw", forms.Register (registers.Op ops.Sllw)) ∷
    (codes "srlw", forms.Register (registers.Op ops.Srlw)) ∷ (codes "sraw", forms.Register (registers.Op ops.Sraw)) ∷
    (codes "mulw", forms.Register (registers.Op ops.Mulw)) ∷ (codes "divw", forms.Register (registers.Op ops.Divw)) ∷
    (codes "divuw", forms.Register (registers.Op ops.Divuw)) ∷ (codes "remw", forms.Register (registers.Op ops.Remw)) ∷
    (codes "remuw", forms.Register (registers.Op ops.Remuw)) ∷
    []

unfoldable pub word_form : List ℕ → Option Form
word_form word = named word word_form_rows

-- the mnemonics of instructions that reach memory in one step, before their first point
abbrev pub atomic_part_rows : List (List ℕ × Atomic)
atomic_part_rows =
    (codes "lr", atomics.Lr) ∷ (codes "sc", atomics.Sc) ∷ (codes "amoadd", atomics.Amo amos.Add) ∷ (codes "amoswap", atomics.Amo amos.Swap) ∷
    (codes "amoxor", atomics.Amo amos.Xor) ∷ (codes "amoor", atomics.Amo amos.Or) ∷ (codes "amoand", atomics.Amo amos.And) ∷
    (codes "amomin", atomics.Amo amos.Min) ∷
    (codes "amomax", atomics.Amo amos.Max) ∷ (codes "amominu", atomics.Amo amos.Minu) ∷ (codes "amomaxu", atomics.Amo amos.Maxu) ∷
    []

unfoldable pub atomic_part : List ℕ → Option Atomic
atomic_part word = named word atomic_part_rows

-- how they reach it, after that point: the width, whether it acquires, and whether it releases
abbrev pub access_rows : List (List ℕ × (Width × Bool × Bool))
access_rows =
    (codes "w", (widths.Word, false, false)) ∷ (codes "d", (widths.Doubleword, false, false)) ∷
    (codes "w.aq", (widths.Word, true, false)) ∷ (codes "d.aq", (widths.Doubleword, true, false)) ∷
    (codes "w.rl", (widths.Word, false, true)) ∷ (codes "d.rl", (widths.Doubleword, false, true)) ∷
    (codes "w.aqrl", (widths.Word, true, true)) ∷ (codes "d.aqrl", (widths.Doubleword, true, true)) ∷
    []

unfoldable pub access : List ℕ → Option Access
access word = option_map (λ how. record { width = how.0; aq = how.1; rl = how.2 }) (named word access_rows)

-- the instruction that reaches memory so
abbrev pub atomic_form : Atomic → Access → MemoryForm
atomic_form atomics.Lr access = memories.Lr access
atomic_form atomics.Sc access = memories.Sc access
atomic_form (atomics.Amo op) access = memories.Amo op access

unfoldable pub pointed_form : List ℕ → Option Form
pointed_form word = do
  parts ← cut (byte ".") word
  what ← atomic_part parts.0
  how ← access parts.1
  Some (forms.Memory (atomic_form what how))

-- a mnemonic
unfoldable pub mnemonic : List ℕ → Option Form
mnemonic word = option_or (word_form word) (pointed_form word)
