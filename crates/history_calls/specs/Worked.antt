-- Worked calls, in the states of worked histories, each with an answer that it doesn't give.
use Rattle.std.specs.Prelude.{◌≡◌, ℕ, true, List, [], ◌∷◌, ◌++◌, map, pos, replicate, Some, None, codes}
use Rattle.ld_base.specs.declared.fault.DlFault.TheVariants.{BadFlags, BadHandle, MissingLibrary, NameTooLong}
use Rattle.ld_base.specs.declared.fault.Shown.TheVariants.{Initialising}
use Rattle.ld_base.specs.declared.linking.Choice.TheVariants.{Def, WeakZero}
use Rattle.ld_base.specs.declared.linking.Loaded.{Loaded}
use Rattle.ld_base.specs.declared.object.Object.{Object}
use Rattle.ld_base.specs.declared.object.Reloc.{Reloc}
use Rattle.history_event.specs.declared.event.CloseAnswer.TheVariants as closings
use Rattle.history_event.specs.declared.event.Event.{Event}
use Rattle.history_event.specs.declared.event.Event.TheVariants.{Close, Fini, Grant, Init, Open, Sym, Tls, Told, Unmapped}
use Rattle.history_event.specs.declared.event.OpenAnswer.TheVariants as openings
use Rattle.history_event.specs.declared.event.OpenAsk.{OpenAsk}
use Rattle.history_event.specs.declared.event.SymAnswer.TheVariants.{Found}
use Rattle.history_event.specs.declared.event.SymAsk.{SymAsk}
use Rattle.history_event.specs.declared.event.SymAnswer.TheVariants as symbols
use Rattle.history_event.specs.declared.hart_end.HartEnd.TheVariants.{BadModule, NoSlot, Unloaded}
use Rattle.history_event.specs.declared.handed.Function.{Function}
use Rattle.history_event.specs.declared.state.Granting.{Granting}
use Rattle.history_event.specs.declared.state.Standing.TheVariants as standings
use Rattle.history_state.specs.Cycle as cycle
use Rattle.history_state.specs.Late as late
use Rattle.history_state.specs.Namespaces as apart
use Rattle.history_state.specs.Parts.{code, object, slots}
use Rattle.history_state.specs.Race as race
use Rattle.history_state.specs.State.{Linked}
use Rattle.relocator.specs.declared.binding.Binding.{Binding}
use Rattle.history_calls.specs.Answer.{again, closing, granted, loading, over, refused, returns, told}
use Rattle.history_calls.specs.Call.{asks_fault, closes, locates, looks_up, opens, resolves, unmaps}
use Rattle.history_calls.specs.Functions.{constructors, destructors, left, object_of, passed}
use Rattle.history_calls.specs.Gives.{Gives}

-- ---- two libraries that hold each other

-- closing the first returns at once, and nothing dies
abbrev pub ClosesOne : Type 0
ClosesOne = Gives cycle.setting cycle.both_bound 0 (closes 2) (Close 0 2 (closings.Done []) ∷ []) (returns 0)

-- it doesn't die alone
abbrev pub DiesAlone : Type 0
DiesAlone = Gives cycle.setting cycle.both_bound 0 (closes 2) (Close 0 2 (closings.Done (2 ∷ [])) ∷ []) (closing (2 ∷ []))

-- the first is closed
abbrev pub one_closed : List Event
one_closed = cycle.both_bound ++ Close 0 2 (closings.Done []) ∷ []

abbrev pub fp_on : ℕ → SymAsk
fp_on handle = record { ns = 0; handle = handle; name = codes "fp"; version = None }

-- its function is still found among the global ones, but not on its handle
abbrev pub FindsGlobal : Type 0
FindsGlobal = Gives cycle.setting one_closed 0 (looks_up (fp_on 0)) (Sym 0 (fp_on 0) (Found 2 2 0x24030) ∷ []) (returns 0x24030)

abbrev pub FindsNoHandle : Type 0
FindsNoHandle = Gives cycle.setting (one_closed ++ Sym 0 (fp_on 0) (Found 2 2 0x24030) ∷ []) 0 (looks_up (fp_on 2)) (Sym 0 (fp_on 2)
    (symbols.Refused (BadHandle 2)) ∷ []) (refused (BadHandle 2))

abbrev pub FindsOnClosed : Type 0
FindsOnClosed = (given : List Event) (value : ℕ) → Gives cycle.setting one_closed 0 (looks_up (fp_on 2)) given (returns value) → ⊥

-- ---- both die

-- then the second is closed, and both die
abbrev pub before_both : List Event
before_both = one_closed ++ Sym 0 (fp_on 0) (Found 2 2 0x24030) ∷ Sym 0 (fp_on 2) (symbols.Refused (BadHandle 2)) ∷ []

abbrev pub DiesBoth : Type 0
DiesBoth = Gives cycle.setting before_both 0 (closes 3) (Close 0 3 (closings.Done (2 ∷ 3 ∷ [])) ∷ []) (closing (2 ∷ 3 ∷ []))

-- once their destructors have run they are unmapped
abbrev pub both_finished : List Event
both_finished = before_both ++ Close 0 3 (closings.Done (2 ∷ 3 ∷ [])) ∷ Fini 0 3 ∷ Fini 0 2 ∷ []

abbrev pub UnmapsBoth : Type 0
UnmapsBoth = Gives cycle.setting both_finished 0 (unmaps (2 ∷ 3 ∷ [])) (Unmapped 0 (2 ∷ 3 ∷ []) ∷ []) (returns 0)

-- then the handle is bad, which the hart is told
abbrev pub both_gone : List Event
both_gone = both_finished ++ Unmapped 0 (2 ∷ 3 ∷ []) ∷ []

abbrev pub ClosesAgain : Type 0
ClosesAgain = Gives cycle.setting both_gone 0 (closes 3) (Close 0 3 (closings.Refused (BadHandle 3)) ∷ []) (refused (BadHandle 3))

abbrev pub TellsBadHandle : Type 0
TellsBadHandle = Gives cycle.setting (both_gone ++ Close 0 3 (closings.Refused (BadHandle 3)) ∷ []) 0 asks_fault (Told 0 (Some (BadHandle 3)) ∷ [])
    (told (Some (BadHandle 3)))

-- ---- what an opening asks for

abbrev pub libn_by : ℕ → OpenAsk
libn_by flags = record { ns = Some 0; name = Some (codes "libn.so"); flags = flags }

-- the program has started
abbrev pub started : List Event
started = apart.startup ∷ Init 0 1 ∷ []

abbrev pub RefusesFlags : ℕ → Type 0
RefusesFlags flags = Gives apart.setting started 0 (opens (libn_by flags)) (Open 0 (libn_by flags) (openings.Refused (BadFlags flags)) ∷ [])
    (refused (BadFlags flags))

abbrev pub OpensByFlags : ℕ → Type 0
OpensByFlags flags = (given : List Event) (root : ℕ) (added : List Loaded)
    → Gives apart.setting started 0 (opens (libn_by flags)) given (loading root added) → ⊥

-- with RTLD_NOLOAD what isn't there is absent, and no fault
abbrev pub IsAbsent : Type 0
IsAbsent = Gives apart.setting started 0 (opens (libn_by 5)) (Open 0 (libn_by 5) openings.Absent ∷ []) (returns 0)

abbrev pub IsMissing : Type 0
IsMissing = (given : List Event) (name : List ℕ) → Gives apart.setting started 0 (opens (libn_by 5)) given (refused (MissingLibrary name)) → ⊥

-- a name of 256 bytes, and one of 255
abbrev pub named : ℕ → OpenAsk
named count = record { ns = Some 0; name = Some (replicate count 97); flags = 1 }

abbrev pub RefusesName : Type 0
RefusesName = Gives apart.setting started 0 (opens (named 256)) (Open 0 (named 256) (openings.Refused NameTooLong) ∷ []) (refused NameTooLong)

abbrev pub RefusesShorter : Type 0
RefusesShorter = (given : List Event) → Gives apart.setting started 0 (opens (named 255)) given (refused NameTooLong) → ⊥

-- ---- harts beside one another

abbrev pub libo_by : ℕ → OpenAsk
libo_by flags = record { ns = Some 0; name = Some (codes "libo.so"); flags = flags }

-- hart 0 has opened the library, whose constructors run
abbrev pub starting : List Event
starting = race.startup ∷ race.opens_libo ∷ []

-- hart 1 has to wait, hart 0 itself doesn't
abbrev pub AnotherWaits : Type 0
AnotherWaits = Gives race.setting starting 1 (opens (libo_by 1)) [] (again (Initialising 2))

abbrev pub ItselfOpens : Type 0
ItselfOpens = Gives race.setting starting 0 (opens (libo_by 1)) (Open 0 (libo_by 1) (openings.Done 0 2 [] []) ∷ []) (returns 2)

abbrev pub AnotherOpens : Type 0
AnotherOpens = (given : List Event) (root : ℕ) → Gives race.setting starting 1 (opens (libo_by 1)) given (returns root) → ⊥

-- in the race hart 1 is granted the global library's function, and not that which hart 0 was granted
abbrev pub granted_to : ℕ → ℕ → ℕ → Granting
granted_to hart serial value = record { number = 4; hart = hart; owner = 2; slot = 0; choice = Def serial 1; value = value; standing = standings.Open }

abbrev pub GrantsGlobal : Type 0
GrantsGlobal = Gives race.setting race.before 1 (resolves 2 0) (Grant 4 1 2 0 (Def 4 1) 0x3c000 ∷ []) (granted (granted_to 1 4 0x3c000))

abbrev pub GrantsTheFirst : Type 0
GrantsTheFirst = Gives race.setting race.before 1 (resolves 2 0) (Grant 4 1 2 0 (Def 3 1) 0x39000 ∷ []) (granted (granted_to 1 3 0x39000))

-- ---- slots that aren't there

-- no object 99 is mapped, and the program has no slot 99
abbrev pub EndsUnloaded : Type 0
EndsUnloaded = Gives apart.setting started 0 (resolves 99 0) [] (over (Unloaded 99))

abbrev pub EndsWithoutSlot : Type 0
EndsWithoutSlot = Gives apart.setting started 0 (resolves 1 792) [] (over (NoSlot 1 792))

-- ---- thread-local storage

-- the library is open, and its constructors have run
abbrev pub opened : List Event
opened = late.startup ∷ Init 0 1 ∷ late.opens_libt 2 ∷ Init 0 2 ∷ []

-- the hart's first look-up of the variable gives it its block
abbrev pub FindsInBlock : Type 0
FindsInBlock = Gives late.setting opened 0 (looks_up (late.v_of 2)) (Tls 0 2 0x36000 ∷ Sym 0 (late.v_of 2) (Found 2 1 0x36010) ∷ []) (returns 0x36010)

abbrev pub FindsWithoutBlock : Type 0
FindsWithoutBlock = (value : ℕ)
    → Gives late.setting opened 0 (looks_up (late.v_of 2)) (Sym 0 (late.v_of 2) (Found 2 1 value) ∷ []) (returns value) → ⊥

-- the variable, of the offset that a relocation gives it, stands in the block that is there; and no module is numbered 2
abbrev pub with_block : List Event
with_block = opened ++ Tls 0 2 0x36000 ∷ []

abbrev pub LocatesInBlock : Type 0
LocatesInBlock = Gives late.setting with_block 0 (locates 1 0xfffffffffffff810) [] (returns 0x36010)

abbrev pub IsBadModule : Type 0
IsBadModule = Gives late.setting with_block 0 (locates 2 0) [] (over (BadModule 2))

abbrev pub LocatesInOther : Type 0
LocatesInOther = (given : List Event) (value : ℕ) → Gives late.setting with_block 0 (locates 2 0) given (returns value) → ⊥

-- ---- constructors and destructors

-- an object with DT_INIT and DT_FINI, and one array for both directions, whose entries relocations give
abbrev pub relative : ℕ → ℕ → Reloc
relative place to = record { place = place; kind = 3; symbol = 0; addend = pos to }

abbrev pub with_functions : Object
with_functions = record (object [] (code ∷ slots ∷ []) [] []) {
  init = Some 0x1000;
  init_array = Some (record { start = 0x3000; size = 16 });
  fini = Some 0x1040;
  fini_array = Some (record { start = 0x3000; size = 16 });
  relocs = relative 0x3000 0x1010 ∷ relative 0x3008 0x1020 ∷ [];
}

abbrev pub no_choice : Binding
no_choice = record { bound = true; choice = WeakZero; value = 0; size = 0; object = None; copied = [] }

abbrev pub at_base : Linked
at_base = record { serial = 2; object = with_functions; base = 0x10000; bindings = no_choice ∷ no_choice ∷ []; places = [] }

-- DT_INIT comes before the array, DT_FINI behind it, which runs backwards
abbrev pub RunsInOrder : Type 0
RunsInOrder = (constructors at_base ≡ 0x11000 ∷ 0x11010 ∷ 0x11020 ∷ []) × (destructors at_base ≡ 0x11020 ∷ 0x11010 ∷ 0x11040 ∷ [])

-- of an opening's functions two objects in front have none, and pass at once
abbrev pub functions : ℕ → List ℕ → Function
functions of addresses = record { object = of; addresses = addresses }

abbrev pub running : List Function
running = functions 4 [] ∷ functions 3 [] ∷ functions 2 (constructors at_base) ∷ functions 5 [] ∷ []

abbrev pub PassesTwo : Type 0
PassesTwo = (passed running ≡ 4 ∷ 3 ∷ []) × (map object_of (left running) ≡ 2 ∷ 5 ∷ [])
