-- A worked history: a program calls a function that both its libraries define. The first that it needs comes first, in its breadth and
-- in memory; constructors run behind those of what an object needs, destructors the other way round.
use Rattle.std.specs.Prelude.{ℕ, List, [], ◌∷◌, ◌++◌, Some, codes}
use Rattle.ld_base.specs.declared.linking.Choice.TheVariants.{Def}
use Rattle.history_event.specs.declared.event.Event.{Event}
use Rattle.history_event.specs.declared.event.Event.TheVariants.{Open, Grant, Bound, Init, Fini, Ended}
use Rattle.history_event.specs.declared.event.OpenAnswer.TheVariants.{Done}
use Rattle.history_event.specs.declared.hart_end.HartEnd.TheVariants.{Exit}
use Rattle.history_state.specs.Parts.{Held, code, defined, given, object, pages_at, placed, slot, slots, stack_at, undefined}
use Rattle.history_state.specs.Setting.{Setting}

abbrev pub prog : Held
prog = record {
  path = codes "prog";
  object = object (codes "liba.so" ∷ codes "libb.so" ∷ []) (code ∷ slots ∷ []) (undefined (codes "f") ∷ []) (slot 0x3010 1 ∷ []);
}

abbrev pub liba : Held
liba = record { path = codes "lib/liba.so"; object = object [] (code ∷ []) (defined (codes "f") 0x1000 ∷ []) [] }

abbrev pub libb : Held
libb = record { path = codes "lib/libb.so"; object = object [] (code ∷ []) (defined (codes "f") 0x1000 ∷ []) [] }

abbrev pub setting : Setting
setting = given 1 (prog ∷ liba ∷ libb ∷ [])

-- startup, with the second library at an address
abbrev pub startup_with : ℕ → Event
startup_with address = Open 0 (record { ns = Some 0; name = Some (codes "prog"); flags = 0x101 })
    (Done 0 1 (placed 0 1 prog 0x10000 (2 ∷ 3 ∷ []) ∷ placed 0 2 liba 0x14000 [] ∷ placed 0 3 libb address [] ∷ [])
    (pages_at 1 0x10000 4 ∷ pages_at 2 0x14000 3 ∷ pages_at 3 address 3 ∷ stack_at 0 0x1a000 ∷ []))

abbrev pub startup : Event
startup = startup_with 0x17000

-- until the program calls
abbrev pub before : List Event
before = startup ∷ Init 0 2 ∷ Init 0 3 ∷ Init 0 1 ∷ []

abbrev pub first_match : List Event
first_match = before ++ (
    Grant 1 0 1 0 (Def 2 1) 0x15000
    ∷ Bound 1
    ∷ Ended 0 (Exit 1)
    ∷ Fini 0 1
    ∷ Fini 0 3
    ∷ Fini 0 2
    ∷ [])

-- the same, but that the last match is chosen
abbrev pub last_match : List Event
last_match = before ++ Grant 1 0 1 0 (Def 3 1) 0x18000 ∷ []

-- the same, but that the program's constructors run before those of what it needs
abbrev pub program_first : List Event
program_first = startup ∷ Init 0 1 ∷ []

-- the same, but that a page is left free between the libraries
abbrev pub gap_left : List Event
gap_left = startup_with 0x18000 ∷ []
