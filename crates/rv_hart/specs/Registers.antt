-- The registers of a hart (Unprivileged ISA 20191213, "Programmers' Model for Base Integer ISA").
use Rattle.std.specs.Prelude.{ℕ, ◌+◌, ◌%◌, ◌^◌, List, Option, replicate, slice_set, ◌==◌, if◌then◌else◌}
use Rattle.rv_hart.specs.declared.hart.Held.{Held}
use Rattle.rv_hart.specs.declared.hart.Hart.{Hart}

-- what a hart holds, as plain data: the pc, x0 to x31, and the reservation
pub record Registers : Type 0 where
  pub pc : ℕ
  pub x : List ℕ
  pub held : Option Held

abbrev pub registers_of : Hart → Registers
registers_of hart = record { pc = hart.pc; x = hart.x; held = hart.held }

-- the registers of a hart that starts: ra leads to the end of the hart, and x2 is sp, x4 is tp and
-- x10 is a0 (psABI, "Integer Register Convention")
abbrev pub starting : ℕ → ℕ → ℕ → List ℕ
starting sp tp a0 = slice_set (slice_set (slice_set (slice_set (replicate 32 0) 1 0x80f090) 2 sp) 4 tp) 10 a0

-- a register is given a value; x0 stays 0
abbrev pub written : List ℕ → ℕ → ℕ → List ℕ
written x register value = if register == 0 then x else slice_set x register value

-- the address of the next instruction in order
abbrev pub next : ℕ → ℕ
next pc = (pc + 4) % 2 ^ 64

-- what an instruction leaves that puts a value into a register and goes on
abbrev pub result_in : Registers → ℕ → ℕ → Registers
result_in registers register value = record { pc = next registers.pc; x = written registers.x register value; held = registers.held }

-- what an instruction leaves that goes on alone, and what a jump leaves
abbrev pub passed : Registers → Registers
passed r = record { pc = next r.pc; x = r.x; held = r.held }

abbrev pub jumped : Registers → ℕ → ℕ → Registers
jumped r rd target = record { pc = target; x = written r.x rd (next r.pc); held = r.held }
