-- Harts that start, and the first hart when the final destructors begin.
use Rattle.std.specs.Prelude.{◌≡◌, ℕ, List, [], ◌∷◌, length, map, Some, None}
use Rattle.std.specs.List.{slice_get}
use Rattle.history_event.specs.declared.event.Event.{Event}
use Rattle.history_event.specs.declared.handed.Function.{Function}
use Rattle.history_event.specs.declared.handed.HartEntry.{HartEntry}
use Rattle.history_calls.specs.declared.link_served.startup.Started.{Started}
use Rattle.rv_hart.specs.Registers.{Registers, starting}
use Rattle.hart_moves.specs.Harts.{HartState, Phase, Purpose, Resolving}
use Rattle.hart_moves.specs.Moves.{runs}

-- the registers with which a hart starts; it holds no reservation
abbrev pub starting_registers : HartEntry → Registers
starting_registers entry = record { pc = entry.pc; x = starting entry.sp entry.tp entry.a0; held = None }

abbrev pub starting_hart : ℕ → HartEntry → HartState
starting_hart fuel entry = record {
  registers = starting_registers entry;
  phase = Phase.at_pc;
  resolving = Resolving.idle;
  frames = [];
  fuel = fuel;
  turns = 0;
  «end» = None;
}

-- the first hart runs startup's constructors before it starts
abbrev pub starting_harts : ℕ → List Function → List HartEntry → List HartState
starting_harts fuel functions [] = []
starting_harts fuel functions (entry ∷ rest) =
    runs (Purpose.of_startup (starting_registers entry)) functions [] (starting_hart fuel entry) ∷ map (starting_hart fuel) rest

-- how a hart starts: behind so many events, with these registers, and the first one with constructors to run before
pub record HartStart : Type 0 where
  pub from : ℕ
  pub registers : Registers
  pub hart : HartState

-- so startup, which appended these events, sets a hart off
pub record IsStartOf (fuel : ℕ) (past : List Event) (started : Started) (h : ℕ) (start : HartStart) : Type 0 where
  pub from : start.from ≡ length past
  pub entry : HartEntry
  pub given : slice_get started.entries h ≡ Some entry
  pub registers : start.registers ≡ starting_registers entry
  pub hart : slice_get (starting_harts fuel started.functions started.entries) h ≡ Some start.hart

-- at the end of a run the first hart gets its starting registers again, and runs the destructors of an object
abbrev pub finalising_hart : Registers → ℕ → Function → HartState → HartState
finalising_hart registers code function b =
    runs (Purpose.of_end code) (function ∷ []) [] (record b { registers = registers; phase = Phase.at_pc; frames = []; «end» = None })
