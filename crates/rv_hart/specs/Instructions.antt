-- What each instruction does to a hart, and the access that it makes (Unprivileged ISA 20191213,
-- chapters 2, 5, 7 and 8).
use Rattle.std.specs.Prelude.{◌≡◌, ℕ, ◌+◌, ◌*◌, ◌/◌, ◌%◌, ◌^◌, ◌<◌, Bool, true, false, not, ◌&&◌, Option, Some, None, ℤ, slice_index, int_lt, nat_lt, ◌==◌}
use Rattle.std.specs.Prelude.{if◌then◌else◌, IfSome}
use Rattle.std.specs.Int.{w8, w16, w32, w64, cast_signed, cast_unsigned}
use Rattle.rv_isa.specs.declared.operation.BranchOp.{BranchOp}
use Rattle.rv_isa.specs.declared.operation.BranchOp.TheVariants.{Beq, Bne, Blt, Bge, Bltu, Bgeu}
use Rattle.rv_isa.specs.declared.operation.LoadOp.{LoadOp}
use Rattle.rv_isa.specs.declared.operation.LoadOp.TheVariants.{Lb, Lh, Lw, Ld, Lbu, Lhu, Lwu}
use Rattle.rv_isa.specs.declared.operation.StoreOp.{StoreOp}
use Rattle.rv_isa.specs.declared.operation.StoreOp.TheVariants.{Sb, Sh, Sw, Sd}
use Rattle.rv_isa.specs.declared.instr.Instr.{Instr}
use Rattle.rv_isa.specs.declared.instr.Instr.TheVariants.{Lui, Auipc, Jal, Jalr, Branch, Load, Store, Imm, Op, Amo as AmoInstr, Lr, Sc, Fence}
use Rattle.rv_isa.specs.declared.instr.Instr.TheVariants.{Ecall as EcallInstr, Ebreak}
use Rattle.rv_isa.specs.Encoding.{IsInstr, IsAtomicSize}
use Rattle.rv_hart.specs.declared.hart.Held.{Held}
use Rattle.rv_hart.specs.declared.action.Access.{Access}
use Rattle.rv_hart.specs.declared.action.Access.TheVariants.{Nothing, Read, Write, Amo, Reserve, Conditional, Ecall, Break, Bad, Misaligned}
use Rattle.rv_hart.specs.declared.action.Action.{Action}
use Rattle.rv_hart.specs.declared.action.Answer.{Answer}
use Rattle.rv_hart.specs.declared.action.Answer.TheVariants.{Nothing as NoAnswer, Value, Held as HeldAnswer, Stored}
use Rattle.rv_hart.specs.Buses.{IsSize}
use Rattle.rv_hart.specs.Arithmetic.{low_bytes, reg_result, imm_result}
use Rattle.rv_hart.specs.Registers.{Registers, written, next, result_in, passed, jumped}

-- ---- the parts of instructions

-- an address at a distance from another
abbrev pub offset_by : ℕ → ℤ → ℕ
offset_by address offset = (address + cast_unsigned w64 offset) % 2 ^ 64

-- the target of a jalr: its lowest bit is cleared
abbrev pub jalr_target : ℕ → ℤ → ℕ
jalr_target address offset = offset_by address offset / 2 * 2

abbrev pub is_taken : BranchOp → ℕ → ℕ → Bool
is_taken Beq a b = a == b
is_taken Bne a b = not (a == b)
is_taken Blt a b = int_lt (cast_signed w64 a) (cast_signed w64 b)
is_taken Bge a b = not (int_lt (cast_signed w64 a) (cast_signed w64 b))
is_taken Bltu a b = nat_lt a b
is_taken Bgeu a b = not (nat_lt a b)

abbrev pub load_size : LoadOp → ℕ
load_size Lb = 1
load_size Lh = 2
load_size Lw = 4
load_size Ld = 8
load_size Lbu = 1
load_size Lhu = 2
load_size Lwu = 4

-- what a load puts into rd, of the bytes that it found
abbrev pub loaded : LoadOp → ℕ → ℕ
loaded Lb value = cast_unsigned w64 (cast_signed w8 value)
loaded Lh value = cast_unsigned w64 (cast_signed w16 value)
loaded Lw value = cast_unsigned w64 (cast_signed w32 value)
loaded Ld value = value
loaded Lbu value = value
loaded Lhu value = value
loaded Lwu value = value

abbrev pub store_size : StoreOp → ℕ
store_size Sb = 1
store_size Sh = 2
store_size Sw = 4
store_size Sd = 8

-- what an atomic access puts into rd, of the bytes that it found
abbrev pub atomic_loaded : ℕ → ℕ → ℕ
atomic_loaded size value = if size == 4 then cast_unsigned w64 (cast_signed w32 value) else value

-- an SC puts 0 into rd where it stored, else 1
abbrev pub sc_code : Answer → ℕ
sc_code (Stored true) = 0
sc_code _ = 1

-- the reservation is of this address and this size
abbrev pub is_held : Option Held → ℕ → ℕ → Bool
is_held None address size = false
is_held (Some held) address size = (held.address == address) && (held.size == size)

abbrev pub held_version : Option Held → ℕ
held_version None = 0
held_version (Some held) = held.version

-- ---- the access that an instruction makes

abbrev pub jump_access : ℕ → Access
jump_access target = if target % 4 == 0 then Nothing else Misaligned target

abbrev pub sc_access : Option Held → ℕ → ℕ → ℕ → Access
sc_access held address size value =
    if address % size == 0
    then (if is_held held address size then Conditional address size value (held_version held) else Nothing)
    else Misaligned address

abbrev pub access_of : Registers → Instr → Access
access_of r (Lui rd number) = Nothing
access_of r (Auipc rd number) = Nothing
access_of r (Jal rd offset) = jump_access (offset_by r.pc offset)
access_of r (Jalr rd rs1 offset) = jump_access (jalr_target (slice_index r.x rs1) offset)
access_of r (Branch op rs1 rs2 offset) = if is_taken op (slice_index r.x rs1) (slice_index r.x rs2) then jump_access (offset_by r.pc offset) else Nothing
access_of r (Load op rd rs1 offset) = Read (offset_by (slice_index r.x rs1) offset) (load_size op)
access_of r (Store op rs1 rs2 offset) = Write (offset_by (slice_index r.x rs1) offset) (store_size op) (low_bytes (store_size op) (slice_index r.x rs2))
access_of r (Imm op rd rs1 number) = Nothing
access_of r (Op op rd rs1 rs2) = Nothing
access_of r (AmoInstr op size rd rs1 rs2 aq rl) = Amo (slice_index r.x rs1) size op (low_bytes size (slice_index r.x rs2))
access_of r (Lr size rd rs1 aq rl) = Reserve (slice_index r.x rs1) size
access_of r (Sc size rd rs1 rs2 aq rl) = sc_access r.held (slice_index r.x rs1) size (low_bytes size (slice_index r.x rs2))
access_of r (Fence word) = Nothing
access_of r EcallInstr = Ecall
access_of r Ebreak = Break

-- what is to be done for a word, by what it decodes to
abbrev pub access_for : Registers → Option Instr → Access
access_for r None = Bad
access_for r (Some instr) = access_of r instr

-- ---- the registers that an instruction leaves

-- a load's registers, of the value found
abbrev pub found_in : Registers → ℕ → (ℕ → ℕ) → Answer → Registers
found_in r rd extended (Value value) = result_in r rd (extended value)
found_in r rd extended _ = r

abbrev pub reserved : Registers → ℕ → ℕ → ℕ → Answer → Registers
reserved r rd address size (HeldAnswer value version) =
    record { pc = next r.pc; x = written r.x rd (atomic_loaded size value); held = Some (record { address = address; size = size; version = version }) }
reserved r rd address size _ = r

-- an SC ends the reservation, whether it stored or not
abbrev pub released : Registers → ℕ → Answer → Registers
released r rd answer = record { pc = next r.pc; x = written r.x rd (sc_code answer); held = None }

abbrev pub branched : Registers → BranchOp → ℕ → ℕ → ℤ → Registers
branched r op rs1 rs2 offset = record {
  pc = if is_taken op (slice_index r.x rs1) (slice_index r.x rs2) then offset_by r.pc offset else next r.pc;
  x = r.x;
  held = r.held;
}

abbrev pub registers_after : Registers → Instr → Answer → Registers
registers_after r (Lui rd number) answer = result_in r rd (cast_unsigned w64 number)
registers_after r (Auipc rd number) answer = result_in r rd (offset_by r.pc number)
registers_after r (Jal rd offset) answer = jumped r rd (offset_by r.pc offset)
registers_after r (Jalr rd rs1 offset) answer = jumped r rd (jalr_target (slice_index r.x rs1) offset)
registers_after r (Branch op rs1 rs2 offset) answer = branched r op rs1 rs2 offset
registers_after r (Load op rd rs1 offset) answer = found_in r rd (loaded op) answer
registers_after r (Store op rs1 rs2 offset) answer = passed r
registers_after r (Imm op rd rs1 number) answer = result_in r rd (imm_result op (slice_index r.x rs1) number)
registers_after r (Op op rd rs1 rs2) answer = result_in r rd (reg_result op (slice_index r.x rs1) (slice_index r.x rs2))
registers_after r (AmoInstr op size rd rs1 rs2 aq rl) answer = found_in r rd (atomic_loaded size) answer
registers_after r (Lr size rd rs1 aq rl) answer = reserved r rd (slice_index r.x rs1) size answer
registers_after r (Sc size rd rs1 rs2 aq rl) answer = released r rd answer
registers_after r (Fence word) answer = passed r
registers_after r EcallInstr answer = passed r
registers_after r Ebreak answer = r

abbrev pub after_action : Registers → Option Instr → Answer → Registers
after_action r None answer = r
after_action r (Some instr) answer = registers_after r instr answer

-- ---- actions and answers

-- an action is what the hart does with some word: its instruction, if any, is one of RV64IMA, and
-- its access is the instruction's
pub record IsPlanned (r : Registers) (action : Action) : Type 0 where
  pub instr : IfSome action.instr IsInstr
  pub access : action.access ≡ access_for r action.instr

-- a value of so many bytes, as a load gives it, or an LR with a version
abbrev pub IsValue : ℕ → Answer → Type 0
IsValue size (Value value) = value < 2 ^ (8 * size)
IsValue size _ = ⊥

abbrev pub IsReservation : ℕ → Answer → Type 0
IsReservation size (HeldAnswer value version) = value < 2 ^ (8 * size)
IsReservation size _ = ⊥

abbrev pub IsStored : Answer → Type 0
IsStored (Stored stored) = Unit {0}
IsStored _ = ⊥

-- an answer is of the kind that an access gives. A hart that stops gets none
abbrev pub IsOfKind : Access → Answer → Type 0
IsOfKind Nothing answer = answer ≡ NoAnswer
IsOfKind (Read address size) answer = IsValue size answer
IsOfKind (Write address size value) answer = answer ≡ NoAnswer
IsOfKind (Amo address size op value) answer = IsValue size answer
IsOfKind (Reserve address size) answer = IsReservation size answer
IsOfKind (Conditional address size value version) answer = IsStored answer
IsOfKind Ecall answer = answer ≡ NoAnswer
IsOfKind Break answer = ⊥
IsOfKind Bad answer = ⊥
IsOfKind (Misaligned address) answer = ⊥

-- the sizes and the values of an access are those that a bus takes
abbrev pub IsSized : Access → Type 0
IsSized (Read address size) = IsSize size
IsSized (Write address size value) = IsSize size × (value < 2 ^ (8 * size))
IsSized (Amo address size op value) = IsAtomicSize size × (value < 2 ^ (8 * size))
IsSized (Reserve address size) = IsAtomicSize size
IsSized (Conditional address size value version) = IsAtomicSize size × (value < 2 ^ (8 * size))
IsSized _ = Unit {0}
