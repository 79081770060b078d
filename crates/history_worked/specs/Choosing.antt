-- Worked histories of what is chosen (gABI, "Symbol Table" and DT_SYMBOLIC; Drepper, "ELF Symbol Versioning"; dlopen(3), RTLD_DEEPBIND): a program
-- with two libraries, and one that is opened late with a library of its own. Three of them define f.
use Rattle.std.specs.Prelude.{ℕ, Bool, true, false, List, [], ◌∷◌, ◌++◌, Option, Some, None, codes}
use Rattle.ld_base.specs.declared.fault.DlFault.TheVariants.{MissingSymbol}
use Rattle.ld_base.specs.declared.linking.Choice.TheVariants.{Def, WeakZero, Missing}
use Rattle.ld_base.specs.declared.object.Symbol.{Symbol}
use Rattle.history_event.specs.declared.event.Event.{Event}
use Rattle.history_event.specs.declared.event.Event.TheVariants.{Open, Grant, Unresolved, Sym}
use Rattle.history_event.specs.declared.event.OpenAnswer.TheVariants.{Done}
use Rattle.history_event.specs.declared.event.SymAnswer.TheVariants.{Found, Refused}
use Rattle.history_event.specs.declared.event.SymAsk.{SymAsk}
use Rattle.history_state.specs.Parts.{Held, code, defined, given, object, pages_at, placed, slot, slots, stack_at, undefined}
use Rattle.history_state.specs.Setting.{Setting}

-- ---- the objects

-- it defines f, and calls w, which may be missing, and n
abbrev pub prog : Held
prog = record {
  path = codes "prog";
  object = object (codes "libs.so" ∷ codes "libv.so" ∷ []) (code ∷ slots ∷ [])
      (defined (codes "f") 0x1010 ∷ record (undefined (codes "w")) { info = 0x20 } ∷ undefined (codes "n") ∷ [])
      (slot 0x3010 2 ∷ slot 0x3018 3 ∷ []);
}

-- it calls the f that it defines, and has DT_SYMBOLIC
abbrev pub libs : Held
libs = record {
  path = codes "lib/libs.so";
  object = record (object [] (code ∷ slots ∷ []) (defined (codes "f") 0x1020 ∷ []) (slot 0x3010 1 ∷ [])) {
    flags = record { symbolic = true; bind_now = false; nodelete = false };
  };
}

-- it calls the f that it defines, which is protected; g is hidden, and h has the version V1 and is no default
abbrev pub symbols_of_libv : List Symbol
symbols_of_libv =
    record (defined (codes "f") 0x1030) { other = 3; version = 1 }
    ∷ record (defined (codes "g") 0x1040) { other = 2; version = 1 }
    ∷ record (defined (codes "h") 0x1050) { version = 0x8002 }
    ∷ []

abbrev pub libv : Held
libv = record {
  path = codes "lib/libv.so";
  object = record (object [] (code ∷ slots ∷ []) symbols_of_libv (slot 0x3010 1 ∷ [])) {
    has_versym = true;
    verdefs = record { index = 1; flags = 1; name = codes "libv.so" } ∷ record { index = 2; flags = 0; name = codes "V1" } ∷ [];
  };
}

-- it calls f, which the library that it needs defines
abbrev pub libd : Held
libd = record {
  path = codes "lib/libd.so";
  object = object (codes "libe.so" ∷ []) (code ∷ slots ∷ []) (undefined (codes "f") ∷ []) (slot 0x3010 1 ∷ []);
}

abbrev pub libe : Held
libe = record { path = codes "lib/libe.so"; object = object [] (code ∷ []) (defined (codes "f") 0x1070 ∷ []) [] }

abbrev pub setting : Setting
setting = given 1 (prog ∷ libs ∷ libv ∷ libd ∷ libe ∷ [])

-- ---- startup

abbrev pub startup : Event
startup = Open 0 (record { ns = Some 0; name = Some (codes "prog"); flags = 0x101 })
    (Done 0 1 (placed 0 1 prog 0x10000 (2 ∷ 3 ∷ []) ∷ placed 0 2 libs 0x14000 [] ∷ placed 0 3 libv 0x18000 [] ∷ [])
    (pages_at 1 0x10000 4 ∷ pages_at 2 0x14000 4 ∷ pages_at 3 0x18000 4 ∷ stack_at 0 0x1c000 ∷ []))

-- an event behind it
abbrev pub then : Event → List Event
then e = startup ∷ e ∷ []

-- ---- DT_SYMBOLIC: the object itself comes first, and else the program

abbrev pub calls_its_own : List Event
calls_its_own = then (Grant 1 0 2 0 (Def 2 1) 0x15020)

abbrev pub symbolic_calls_the_programs : List Event
symbolic_calls_the_programs = then (Grant 1 0 2 0 (Def 1 1) 0x11010)

-- ---- a protected definition is its object's own

abbrev pub calls_the_protected : List Event
calls_the_protected = then (Grant 1 0 3 0 (Def 3 1) 0x19030)

abbrev pub protected_calls_the_programs : List Event
protected_calls_the_programs = then (Grant 1 0 3 0 (Def 1 1) 0x11010)

-- ---- look-ups among the global objects

abbrev pub look_up : List ℕ → Option (List ℕ) → SymAsk
look_up name version = record { ns = 0; handle = 0; name = name; version = version }

-- what is hidden isn't seen
abbrev pub hidden_missing : List Event
hidden_missing = then (Sym 0 (look_up (codes "g") None) (Refused (MissingSymbol None (codes "g") None)))

abbrev pub hidden_found : List Event
hidden_found = then (Sym 0 (look_up (codes "g") None) (Found 3 2 0x19040))

-- a version that is no default is found by its name alone
abbrev pub version_found : List Event
version_found = then (Sym 0 (look_up (codes "h") (Some (codes "V1"))) (Found 3 3 0x19050))

abbrev pub found_without_version : List Event
found_without_version = then (Sym 0 (look_up (codes "h") None) (Found 3 3 0x19050))

-- ---- a weak reference may be missing, another not

abbrev pub weak_is_zero : List Event
weak_is_zero = then (Grant 1 0 1 0 WeakZero 0)

abbrev pub weak_is_missing : List Event
weak_is_missing = then (Unresolved 0 1 0 Missing)

abbrev pub strong_is_missing : List Event
strong_is_missing = then (Unresolved 0 1 1 Missing)

abbrev pub strong_is_zero : List Event
strong_is_zero = then (Grant 1 0 1 1 WeakZero 0)

-- ---- RTLD_DEEPBIND: what the opened object needs comes before the program, and else behind it

abbrev pub opens_libd : Bool → ℕ → Event
opens_libd deep flags = Open 0 (record { ns = Some 0; name = Some (codes "libd.so"); flags = flags })
    (Done 0 4 (record (placed 0 4 libd 0x2c000 (5 ∷ [])) { deep = deep } ∷ record (placed 0 5 libe 0x30000 []) { deep = deep } ∷ [])
    (pages_at 4 0x2c000 4 ∷ pages_at 5 0x30000 3 ∷ []))

-- RTLD_LAZY is 1, with RTLD_DEEPBIND 9
abbrev pub opened : List Event
opened = then (opens_libd false 1)

abbrev pub opened_deep : List Event
opened_deep = then (opens_libd true 9)

abbrev pub deep_calls_libes : List Event
deep_calls_libes = opened_deep ++ Grant 1 0 4 0 (Def 5 1) 0x31070 ∷ []

abbrev pub deep_calls_the_programs : List Event
deep_calls_the_programs = opened_deep ++ Grant 1 0 4 0 (Def 1 1) 0x11010 ∷ []

abbrev pub calls_the_programs : List Event
calls_the_programs = opened ++ Grant 1 0 4 0 (Def 1 1) 0x11010 ∷ []

abbrev pub calls_libes : List Event
calls_libes = opened ++ Grant 1 0 4 0 (Def 5 1) 0x31070 ∷ []
