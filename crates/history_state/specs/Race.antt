-- A worked history: two harts race for a slot. Hart 0 is granted the definition of a library that its own needs; before it has put the
-- address there, hart 1 opens a global library, which comes first from then on, and wins.
use Rattle.std.specs.Prelude.{List, [], ◌∷◌, ◌++◌, Some, None, codes}
use Rattle.ld_base.specs.declared.linking.Choice.TheVariants.{Def}
use Rattle.history_event.specs.declared.event.CloseAnswer.TheVariants as closes
use Rattle.history_event.specs.declared.event.Event.{Event}
use Rattle.history_event.specs.declared.event.Event.TheVariants.{Open, Close, Unmapped, Grant, Bound, Lost, Sym, Init, Fini, Ended}
use Rattle.history_event.specs.declared.event.OpenAnswer.TheVariants.{Done}
use Rattle.history_event.specs.declared.event.SymAnswer.TheVariants.{Found}
use Rattle.history_event.specs.declared.hart_end.HartEnd.TheVariants.{Exit}
use Rattle.history_state.specs.Parts.{Held, code, defined, given, object, pages_at, placed, slot, slots, stack_at, undefined}
use Rattle.history_state.specs.Setting.{Setting}

abbrev pub prog : Held
prog = record {
  path = codes "prog";
  object = object [] (code ∷ slots ∷ []) (undefined (codes "dlopen") ∷ undefined (codes "dlsym") ∷ defined (codes "h1") 0x1058 ∷ [])
      (slot 0x3010 1 ∷ slot 0x3018 2 ∷ []);
}

abbrev pub libo : Held
libo = record {
  path = codes "lib/libo.so";
  object = object (codes "libf.so" ∷ []) (code ∷ slots ∷ []) (undefined (codes "f") ∷ defined (codes "go") 0x1030 ∷ []) (slot 0x3010 1 ∷ []);
}

abbrev pub libf : Held
libf = record { path = codes "lib/libf.so"; object = object [] (code ∷ []) (defined (codes "f") 0x1000 ∷ []) [] }

abbrev pub libg : Held
libg = record { path = codes "lib/libg.so"; object = object [] (code ∷ []) (defined (codes "f") 0x1000 ∷ []) [] }

abbrev pub setting : Setting
setting = given 2 (prog ∷ libo ∷ libf ∷ libg ∷ [])

abbrev pub startup : Event
startup = Open 0 (record { ns = Some 0; name = Some (codes "prog"); flags = 0x101 })
    (Done 0 1 (placed 0 1 prog 0x10000 [] ∷ []) (pages_at 1 0x10000 4 ∷ stack_at 0 0x14000 ∷ stack_at 1 0x24000 ∷ []))

abbrev pub opens_libo : Event
opens_libo = Open 0 (record { ns = Some 0; name = Some (codes "libo.so"); flags = 1 })
    (Done 0 2 (placed 0 2 libo 0x34000 (3 ∷ []) ∷ placed 0 3 libf 0x38000 [] ∷ []) (pages_at 2 0x34000 4 ∷ pages_at 3 0x38000 3 ∷ []))

abbrev pub opens_libg : Event
opens_libg = Open 1 (record { ns = Some 0; name = Some (codes "libg.so"); flags = 0x101 })
    (Done 0 4 (placed 1 4 libg 0x3b000 [] ∷ []) (pages_at 4 0x3b000 3 ∷ []))

-- until hart 1 asks for the slot that hart 0 was granted
abbrev pub before : List Event
before =
    startup
    ∷ Sym 1 (record { ns = 0; handle = 0; name = codes "h1"; version = None }) (Found 1 3 0x11058)
    ∷ Grant 1 0 1 0 (Def 0 1) 0x80f010
    ∷ Bound 1
    ∷ opens_libo
    ∷ Init 0 3
    ∷ Init 0 2
    ∷ Grant 2 0 1 1 (Def 0 3) 0x80f030
    ∷ Bound 2
    ∷ Sym 0 (record { ns = 0; handle = 2; name = codes "go"; version = None }) (Found 2 2 0x35030)
    ∷ Init 0 1
    ∷ Grant 3 0 2 0 (Def 3 1) 0x39000
    ∷ opens_libg
    ∷ Init 1 4
    ∷ []

abbrev pub race : List Event
race = before ++ (
    Grant 4 1 2 0 (Def 4 1) 0x3c000
    ∷ Lost 3 0x3c000
    ∷ Bound 4
    ∷ Ended 0 (Exit 7)
    ∷ Ended 1 (Exit 7)
    ∷ Fini 0 4
    ∷ Fini 0 1
    ∷ Fini 0 2
    ∷ Fini 0 3
    ∷ [])

-- the same, but that hart 1 is granted what hart 0 was
abbrev pub granted_the_first : List Event
granted_the_first = before ++ Grant 4 1 2 0 (Def 3 1) 0x39000 ∷ []

-- hart 1 closes instead: while hart 0's grant is open nothing dies; once it is bound, everything does that no opening leads to
abbrev pub closed_under_grant : List Event
closed_under_grant = before ++ (
    Close 1 2 (closes.Done [])
    ∷ Bound 3
    ∷ Close 1 4 (closes.Done (2 ∷ 3 ∷ 4 ∷ []))
    ∷ Fini 1 4
    ∷ Fini 1 2
    ∷ Fini 1 3
    ∷ Unmapped 1 (2 ∷ 3 ∷ 4 ∷ [])
    ∷ [])

-- the same, but that the owner of the open grant dies
abbrev pub owner_dies : List Event
owner_dies = before ++ Close 1 2 (closes.Done (2 ∷ [])) ∷ []
