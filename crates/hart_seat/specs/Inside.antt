-- A hart's parts in the code, as the definition has them, and their bounds.
use Rattle.std.specs.Prelude.{ℕ, ◌+◌, ◌-◌, ◌^◌, ◌≤◌, reverse}
use Rattle.std.specs.Vec.{vec_capacity, vec_len}
use Rattle.rv_hart.specs.Registers.{registers_of}
use Rattle.hart_moves.specs.Harts.{HartState}
use Rattle.hart_seat.specs.Phases.{IsInside, beyond_fuel, phase_of, resolving_of}
use Rattle.hart_seat.specs.declared.hart.LinkedHart.TheInside.{Inside}

abbrev pub hart_of : Inside → HartState
hart_of h = record {
  registers = registers_of h.registers;
  phase = phase_of h.bytes h.version h.message h.phase;
  resolving = resolving_of h.resolving;
  frames = reverse h.frames.items;
  fuel = h.fuel;
  turns = h.turns;
  «end» = h.«end»;
}

abbrev pub spare_of : Inside → ℕ
spare_of h = vec_capacity h.frames - vec_len h.frames

pub record IsBounded (h : Inside) : Type 0 where
  pub fuel : h.fuel ≤ 2 ^ 32
  pub turns : h.turns ≤ h.fuel + beyond_fuel h.resolving
  pub text : IsInside h.message h.phase
  pub room : vec_len h.frames ≤ vec_capacity h.frames
