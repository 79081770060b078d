-- A worked history: two libraries that need nothing call each other, so that bound grants alone hold them together. Closing the first
-- unmaps nothing; closing the second closes both, the later one first.
use Rattle.std.specs.Prelude.{List, [], ◌∷◌, ◌++◌, Some, None, codes}
use Rattle.ld_base.specs.declared.fault.DlFault.TheVariants.{BadHandle}
use Rattle.ld_base.specs.declared.linking.Choice.TheVariants.{Def}
use Rattle.history_event.specs.declared.event.CloseAnswer.TheVariants as closes
use Rattle.history_event.specs.declared.event.Event.{Event}
use Rattle.history_event.specs.declared.event.Event.TheVariants.{Open, Close, Unmapped, Grant, Bound, Sym, Init, Fini, Told, Ended}
use Rattle.history_event.specs.declared.event.OpenAnswer.TheVariants.{Done}
use Rattle.history_event.specs.declared.event.SymAnswer.TheVariants as syms
use Rattle.history_event.specs.declared.hart_end.HartEnd.TheVariants.{Exit}
use Rattle.history_state.specs.Parts.{Held, code, defined, given, object, pages_at, placed, slot, slots, stack_at, undefined}
use Rattle.history_state.specs.Setting.{Setting}

abbrev pub prog : Held
prog = record { path = codes "prog"; object = object [] (code ∷ []) [] [] }

abbrev pub libp : Held
libp = record {
  path = codes "lib/libp.so";
  object = object [] (code ∷ slots ∷ []) (undefined (codes "fq") ∷ defined (codes "fp") 0x1030 ∷ []) (slot 0x3010 1 ∷ []);
}

abbrev pub libq : Held
libq = record {
  path = codes "lib/libq.so";
  object = object [] (code ∷ slots ∷ []) (undefined (codes "fp") ∷ defined (codes "fq") 0x1030 ∷ []) (slot 0x3010 1 ∷ []);
}

abbrev pub setting : Setting
setting = given 1 (prog ∷ libp ∷ libq ∷ [])

abbrev pub startup : Event
startup = Open 0 (record { ns = Some 0; name = Some (codes "prog"); flags = 0x101 })
    (Done 0 1 (placed 0 1 prog 0x10000 [] ∷ []) (pages_at 1 0x10000 3 ∷ stack_at 0 0x13000 ∷ []))

abbrev pub opens_libp : Event
opens_libp = Open 0 (record { ns = Some 0; name = Some (codes "libp.so"); flags = 0x101 })
    (Done 0 2 (placed 0 2 libp 0x23000 [] ∷ []) (pages_at 2 0x23000 4 ∷ []))

abbrev pub opens_libq : Event
opens_libq = Open 0 (record { ns = Some 0; name = Some (codes "libq.so"); flags = 0x101 })
    (Done 0 3 (placed 0 3 libq 0x27000 [] ∷ []) (pages_at 3 0x27000 4 ∷ []))

-- both are open, and both slots bound
abbrev pub both_bound : List Event
both_bound =
    startup
    ∷ Init 0 1
    ∷ opens_libp
    ∷ Init 0 2
    ∷ opens_libq
    ∷ Init 0 3
    ∷ Grant 1 0 2 0 (Def 3 2) 0x28030
    ∷ Bound 1
    ∷ Grant 2 0 3 0 (Def 2 2) 0x24030
    ∷ Bound 2
    ∷ []

-- the handle of the first is closed, though it stays mapped and global
abbrev pub one_closed : List Event
one_closed = both_bound ++ (
    Close 0 2 (closes.Done [])
    ∷ Sym 0 (record { ns = 0; handle = 0; name = codes "fp"; version = None }) (syms.Found 2 2 0x24030)
    ∷ Sym 0 (record { ns = 0; handle = 2; name = codes "fp"; version = None }) (syms.Refused (BadHandle 2))
    ∷ Close 0 3 (closes.Done (2 ∷ 3 ∷ []))
    ∷ [])

abbrev pub cycle : List Event
cycle = one_closed ++ (
    Fini 0 3
    ∷ Fini 0 2
    ∷ Unmapped 0 (2 ∷ 3 ∷ [])
    ∷ Close 0 3 (closes.Refused (BadHandle 3))
    ∷ Told 0 (Some (BadHandle 3))
    ∷ Ended 0 (Exit 0)
    ∷ Fini 0 1
    ∷ [])

-- the same, but that the first dies once its handle is closed
abbrev pub dies_early : List Event
dies_early = both_bound ++ Close 0 2 (closes.Done (2 ∷ [])) ∷ []

-- the same, but that both are kept when the second is closed, too
abbrev pub never_dies : List Event
never_dies = both_bound ++ Close 0 2 (closes.Done []) ∷ Close 0 3 (closes.Done []) ∷ []

-- the same, but that both are unmapped before their destructors ran
abbrev pub unmapped_early : List Event
unmapped_early = one_closed ++ Unmapped 0 (2 ∷ 3 ∷ []) ∷ []
