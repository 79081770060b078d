-- The registers by which a hart and the linker speak (psABI, "Integer Register Convention").
use Rattle.std.specs.Prelude.{ℕ, slice_index}
use Rattle.rv_hart.specs.Registers.{Registers, next, written}

-- where a call returns to
abbrev pub ra : Registers → ℕ
ra r = slice_index r.x 1

-- t0 and t1 name a slot, as the procedure linkage table leaves them
abbrev pub t0 : Registers → ℕ
t0 r = slice_index r.x 5

abbrev pub t1 : Registers → ℕ
t1 r = slice_index r.x 6

-- arguments
abbrev pub a0 : Registers → ℕ
a0 r = slice_index r.x 10

abbrev pub a1 : Registers → ℕ
a1 r = slice_index r.x 11

abbrev pub a2 : Registers → ℕ
a2 r = slice_index r.x 12

-- the number of an ecall
abbrev pub a7 : Registers → ℕ
a7 r = slice_index r.x 17

-- the hart goes on at an address
abbrev pub at : ℕ → Registers → Registers
at pc r = record { pc = pc; x = r.x; held = r.held }

-- a call returns there with a value, and changes no other register
abbrev pub returned : (to value : ℕ) → Registers → Registers
returned to value r = record { pc = to; x = written r.x 10 value; held = r.held }

-- an ecall is passed with a value
abbrev pub passed_ecall : ℕ → Registers → Registers
passed_ecall value r = returned (next r.pc) value r

-- where a constructor or a destructor returns to
abbrev pub next_function : ℕ
next_function = 0x80f080

-- the linker enters a function: its arguments are 0
abbrev pub entered : ℕ → Registers → Registers
entered function r = record { pc = function; x = written (written (written (written r.x 1 next_function) 10 0) 11 0) 12 0; held = r.held }
