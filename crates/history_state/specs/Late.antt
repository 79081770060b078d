-- A worked history: a library with thread-local storage is opened late. Each hart gets its block at its first use; closed, the library
-- gives module and pages back, and opened again it has them again.
use Rattle.std.specs.Prelude.{ℕ, List, [], ◌∷◌, ◌++◌, Some, None, codes}
use Rattle.history_event.specs.declared.event.CloseAnswer.TheVariants as closes
use Rattle.history_event.specs.declared.event.Event.{Event}
use Rattle.history_event.specs.declared.event.Event.TheVariants.{Open, Close, Unmapped, Sym, Tls, Init, Fini, Wrote}
use Rattle.history_event.specs.declared.event.OpenAnswer.TheVariants as opens
use Rattle.history_event.specs.declared.event.SymAnswer.TheVariants.{Found}
use Rattle.history_event.specs.declared.event.SymAsk.{SymAsk}
use Rattle.ld_base.specs.declared.linking.Loaded.{Loaded}
use Rattle.ld_base.specs.declared.object.TlsSeg.{TlsSeg}
use Rattle.history_state.specs.Parts.{Held, code, given, object, pages_at, placed, slots, stack_at, variables, stored}
use Rattle.history_state.specs.Setting.{Setting}

abbrev pub prog : Held
prog = record { path = codes "prog"; object = object [] (code ∷ slots ∷ []) [] [] }

-- three doublewords, the third of which is v
abbrev pub storage : TlsSeg
storage = record { vaddr = 0x1000; filesz = 24; memsz = 24; align = 8 }

abbrev pub libt : Held
libt = record { path = codes "lib/libt.so"; object = record (object [] (variables ∷ []) (stored (codes "v") 0x10 ∷ []) []) { tls = Some storage } }

abbrev pub setting : Setting
setting = given 2 (prog ∷ libt ∷ [])

abbrev pub startup : Event
startup = Open 0 (record { ns = Some 0; name = Some (codes "prog"); flags = 0x101 })
    (opens.Done 0 1 (placed 0 1 prog 0x10000 [] ∷ []) (pages_at 1 0x10000 4 ∷ stack_at 0 0x14000 ∷ stack_at 1 0x24000 ∷ []))

-- the library with a serial, as module 1
abbrev pub libt_as : ℕ → Loaded
libt_as serial = record (placed 0 serial libt 0x34000 []) { «module» = Some (record { number = 1; offset = None }) }

abbrev pub opens_libt : ℕ → Event
opens_libt serial = Open 0 (record { ns = Some 0; name = Some (codes "libt.so"); flags = 1 })
    (opens.Done 0 serial (libt_as serial ∷ []) (pages_at serial 0x34000 2 ∷ []))

abbrev pub v_of : ℕ → SymAsk
v_of handle = record { ns = 0; handle = handle; name = codes "v"; version = None }

-- until hart 1 asks for its variable
abbrev pub before : List Event
before =
    startup
    ∷ Init 0 1
    ∷ opens_libt 2
    ∷ Init 0 2
    ∷ Tls 0 2 0x36000
    ∷ Sym 0 (v_of 2) (Found 2 1 0x36010)
    ∷ Tls 1 2 0x37000
    ∷ []

abbrev pub late : List Event
late = before ++ (
    Sym 1 (v_of 2) (Found 2 1 0x37010)
    ∷ Close 0 2 (closes.Done (2 ∷ []))
    ∷ Fini 0 2
    ∷ Unmapped 0 (2 ∷ [])
    ∷ opens_libt 3
    ∷ Init 0 3
    ∷ Tls 0 3 0x36000
    ∷ Sym 0 (v_of 3) (Found 3 1 0x36010)
    ∷ Wrote 0 (codes "9")
    ∷ [])

-- the same, but that hart 1 is given the variable of hart 0
abbrev pub other_block : List Event
other_block = before ++ Sym 1 (v_of 2) (Found 2 1 0x36010) ∷ []
