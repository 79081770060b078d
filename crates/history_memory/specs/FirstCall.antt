-- A worked example: a program calls a function through a slot, and memory before the exchange, after it, and once the grant is bound.
-- The program stands at 0x10000; its slot at 0x3010 holds 0, so the lazy word is 0x10000. The function stands at 0x15000.
use Rattle.std.specs.Prelude.{ℕ, ◌==◌, List, [], ◌∷◌, ◌++◌, if◌then◌else◌}
use Rattle.ld_base.specs.declared.linking.Choice.TheVariants.{Def}
use Rattle.history_event.specs.declared.event.Event.{Event}
use Rattle.history_event.specs.declared.event.Event.TheVariants.{Bound, Grant}
use Rattle.history_state.specs.State.{State}
use Rattle.history_state.specs.FirstMatch.{before}
use Rattle.history_state.specs.Memory.{role_at, first_word_at}
use Rattle.history_memory.specs.Memory.{Memory}

-- the program has called, and has an open grant; and the grant is bound
abbrev pub called : List Event
called = before ++ Grant 1 0 1 0 (Def 2 1) 0x15000 ∷ []

abbrev pub bound : List Event
bound = called ++ Bound 1 ∷ []

abbrev pub slot_address : ℕ
slot_address = 0x13010

abbrev pub lazy_word : ℕ
lazy_word = 0x10000

abbrev pub function : ℕ
function = 0x15000

-- the function of the same name in the second library
abbrev pub other_function : ℕ
other_function = 0x18000

-- each word as it was put there, but for the slot
abbrev pub memory_with : State → ℕ → Memory
memory_with s value = record { value = λ a. if a == slot_address then value else first_word_at s a; role = role_at s }
