-- A worked history: one library in two namespaces is two objects, each with its own variable.
use Rattle.std.specs.Prelude.{ℕ, List, [], ◌∷◌, ◌++◌, Option, Some, None, codes}
use Rattle.ld_base.specs.declared.fault.DlFault.TheVariants.{BadNamespace}
use Rattle.history_event.specs.declared.event.Event.{Event}
use Rattle.history_event.specs.declared.event.Event.TheVariants.{Open, Sym, Init, Fini, Told, Ended}
use Rattle.history_event.specs.declared.event.OpenAnswer.TheVariants as opens
use Rattle.history_event.specs.declared.event.OpenAsk.{OpenAsk}
use Rattle.history_event.specs.declared.event.SymAnswer.TheVariants.{Found}
use Rattle.history_event.specs.declared.event.SymAsk.{SymAsk}
use Rattle.history_event.specs.declared.hart_end.HartEnd.TheVariants.{Exit}
use Rattle.history_state.specs.Parts.{Held, code, data_pages, defined, given, object, pages_at, placed, slots, stack_at}
use Rattle.history_state.specs.Setting.{Setting}

abbrev pub prog : Held
prog = record { path = codes "prog"; object = object [] (code ∷ slots ∷ []) [] [] }

abbrev pub libn : Held
libn = record { path = codes "lib/libn.so"; object = object [] (data_pages ∷ []) (defined (codes "d") 0x2000 ∷ []) [] }

abbrev pub setting : Setting
setting = given 1 (prog ∷ libn ∷ [])

abbrev pub startup : Event
startup = Open 0 (record { ns = Some 0; name = Some (codes "prog"); flags = 0x101 })
    (opens.Done 0 1 (placed 0 1 prog 0x10000 [] ∷ []) (pages_at 1 0x10000 4 ∷ stack_at 0 0x14000 ∷ []))

-- the library in a namespace; none is a new one
abbrev pub libn_in : Option ℕ → OpenAsk
libn_in ns = record { ns = ns; name = Some (codes "libn.so"); flags = 1 }

abbrev pub opens_in_base : Event
opens_in_base = Open 0 (libn_in (Some 0)) (opens.Done 0 2 (placed 0 2 libn 0x24000 [] ∷ []) (pages_at 2 0x24000 3 ∷ []))

abbrev pub opens_in_new : Event
opens_in_new = Open 0 (libn_in None) (opens.Done 1 3 (placed 0 3 libn 0x27000 [] ∷ []) (pages_at 3 0x27000 3 ∷ []))

-- the variable of the object that was opened
abbrev pub d_of : ℕ → SymAsk
d_of handle = record { ns = 0; handle = handle; name = codes "d"; version = None }

-- until the program asks for the variables
abbrev pub before : List Event
before = startup ∷ Init 0 1 ∷ opens_in_base ∷ Init 0 2 ∷ opens_in_new ∷ Init 0 3 ∷ []

abbrev pub namespaces : List Event
namespaces = before ++ (
    Sym 0 (d_of 2) (Found 2 1 0x26000)
    ∷ Sym 0 (d_of 3) (Found 3 1 0x29000)
    ∷ Open 0 (libn_in (Some 0x63)) (opens.Refused (BadNamespace 0x63))
    ∷ Told 0 (Some (BadNamespace 0x63))
    ∷ Ended 0 (Exit 0)
    ∷ Fini 0 3
    ∷ Fini 0 2
    ∷ Fini 0 1
    ∷ [])

-- the same, but that the first handle gives the variable of the other namespace
abbrev pub other_namespace : List Event
other_namespace = before ++ Sym 0 (d_of 2) (Found 3 1 0x29000) ∷ []
