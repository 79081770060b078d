-- Worked turns of calls and of functions that the linker has run.
use Rattle.std.specs.Prelude.{◌≡◌, ℕ, ◌-◌, ◌^◌, List, [], ◌∷◌, replicate, slice_set, None, Some, Ok, Err, true}
use Rattle.ld_base.specs.declared.fault.Shown.TheVariants.{OpenGrant}
use Rattle.ld_base.specs.declared.linking.Role.TheVariants.{None as NoRole}
use Rattle.history_event.specs.declared.event.Event.{Event}
use Rattle.history_event.specs.declared.event.Event.TheVariants.{Ended, Told, Wrote}
use Rattle.history_event.specs.declared.handed.Function.{Function}
use Rattle.history_event.specs.declared.hart_end.HartEnd.{HartEnd}
use Rattle.history_event.specs.declared.hart_end.HartEnd.TheVariants.{Exit, FuelOut, Memory, Misaligned}
use Rattle.rv_hart.specs.declared.bus.BusFault.TheVariants.{Role as RoleFault}
use Rattle.rv_hart.specs.declared.bus.Item.TheVariants.{Read, Write}
use Rattle.history_state.specs.After.{after}
use Rattle.history_state.specs.Allowed.{MayEnd}
use Rattle.history_state.specs.Objects.{object_at}
use Rattle.history_state.specs.Race as race
use Rattle.history_state.specs.Setting.{Setting}
use Rattle.history_state.specs.State.{State}
use Rattle.history_calls.specs.Call.{unmaps}
use Rattle.history_calls.specs.Functions.{preceded}
use Rattle.history_calls.specs.Waiting.{Shows}
use Rattle.hart_moves.specs.Due.{Due, due}
use Rattle.hart_moves.specs.Follows.{Follows, FollowsToItsEnd, Turned}
use Rattle.hart_moves.specs.Harts.{HartState, Naming, Phase, Purpose, Resolving}
use Rattle.hart_moves.specs.Moves.{Did, Moves, all_finis, ended, runs, settles, spent}
use Rattle.hart_moves.specs.Starting.{HartStart}
use Rattle.hart_moves.specs.Worked.{hart_at, race_offer, with_one, with_two, without_fuel}

-- ---- a write

-- a write to 1 of the bytes from 0x20000 on, of which these are copied
abbrev pub write_registers : ℕ → ℕ → List ℕ
write_registers a0 count = slice_set (slice_set (with_two 17 64 10 a0) 11 0x20000) 12 count

abbrev pub writer : ℕ → List ℕ → HartState
writer count bytes = record (hart_at 0x11000 (write_registers 1 count)) { phase = Phase.writing bytes }

-- where nothing is mapped it answers -14 in that turn
abbrev pub ReadsNothing : (w : Setting) → List Event → Type 0
ReadsNothing w past =
    Moves w past 1 (writer 8 []) (Did.quiet (Read 0x20000 8 (Err (RoleFault NoRole)) ∷ [])) (spent (hart_at 0x11004 (write_registers (2 ^ 64 - 14) 8)))

abbrev pub letters : ℕ → List ℕ
letters count = replicate count 0x61

-- of 300 bytes 256 are copied
abbrev pub CopiesSome : (w : Setting) → List Event → Type 0
CopiesSome w past = Moves w past 1 (writer 300 (letters 248)) (Did.quiet (Read 0x200f8 8 (Ok 0x6161616161616161) ∷ [])) (spent (writer 300 (letters 256)))

-- and then written, and their number is the answer
abbrev pub WritesSome : (w : Setting) → List Event → Type 0
WritesSome w past = Moves w past 1 (writer 300 (letters 256)) (Did.serves [] (Wrote 1 (letters 256) ∷ [])) (spent (hart_at 0x11004 (write_registers 256 300)))

-- ---- a long name

-- dlvsym's name stands at 0x20000, and its version isn't copied where the name is too long
abbrev pub looker : Phase → HartState
looker phase = record (hart_at 0x80f040 (with_two 11 0x20000 12 0x21000)) { phase = phase }

abbrev pub CopiesNoVersion : (w : Setting) → List Event → Type 0
CopiesNoVersion w past =
    Moves w past 1 (looker (Phase.naming Naming.dlvsym (letters 248))) (Did.quiet (Read 0x200f8 8 (Ok 0x6161616161616161) ∷ []))
    (spent (looker (Phase.named Naming.dlvsym (letters 256) [])))

-- ---- a module's number and an offset

-- they stand in doublewords
abbrev pub EndsAtPair : Type 0
EndsAtPair = Moves race.setting race.before 1 (hart_at 0x80f070 (with_one 10 0x20004)) (Did.serves [] (Ended 1 (Misaligned 0x80f070 0x20004) ∷ []))
    (ended (Misaligned 0x80f070 0x20004) (spent (hart_at 0x80f070 (with_one 10 0x20004))))

-- ---- dlerror's text

-- the two doublewords of "bad-flags" are stored at 0x14000 in two turns, and the call returns in the second
abbrev pub teller : Phase → HartState
teller phase = record (hart_at 0x80f060 (with_one 1 0x11100)) { phase = phase }

abbrev pub StoresFirst : (w : Setting) → List Event → Type 0
StoresFirst w past =
    Moves w past 1 (teller (Phase.storing 0x14000 0 0x67616c662d646162 (0x73 ∷ []))) (Did.quiet (Write 0x14000 8 0x67616c662d646162 (Ok tt) ∷ []))
    (spent (teller (Phase.storing 0x14000 1 0x73 [])))

abbrev pub StoresLast : (w : Setting) → List Event → Type 0
StoresLast w past =
    Moves w past 1 (teller (Phase.storing 0x14000 1 0x73 []))
    (Did.quiet (Write 0x14008 8 0x73 (Ok tt) ∷ [])) (spent (hart_at 0x11100 (with_two 1 0x11100 10 0x14000)))

-- ---- an unmapping

-- the destructors of an object have run: while another hart's grant keeps it, its hart tries again in its next turn
abbrev pub closer : HartState
closer = record (hart_at 0x80f080 (with_one 10 5)) { frames = record { purpose = Purpose.of_closing 0x11100 (2 ∷ []); queue = [] } ∷ [] }

abbrev pub WaitsForGrant : (w : Setting) → List Event → Type 0
WaitsForGrant w past = Shows w (after past) 1 (unmaps (2 ∷ [])) (OpenGrant 3) → Moves w past 1 closer (Did.waits (OpenGrant 3)) (spent closer)

-- ---- the final destructors

-- those of an object have run, and the hart is done with a slot
abbrev pub finisher : HartState
finisher = record (hart_at 0x80f080 (replicate 32 0)) {
  resolving = Resolving.to_settle (race_offer 4 0x3c000) 0x34000;
  frames = record { purpose = Purpose.of_end 7; queue = record { object = 5; addresses = [] } ∷ [] } ∷ [];
}

-- where they closed that object and none is left, no event comes, and nothing is settled
abbrev pub PassesClosed : (w : Setting) → List Event → Type 0
PassesClosed w past = object_at (after past) 5 ≡ None → all_finis (after past) ≡ []
    → Moves w past 0 finisher (Did.quiet []) (spent (record finisher { frames = []; «end» = Some (Exit 7) }))

-- where there is no memory to list those that are left, the hart ends for that, and its grant is settled
abbrev pub EndsForMemory : (w : Setting) → List Event → Type 0
EndsForMemory w past = MayEnd w (after past) 0
    → Moves w past 0 finisher (Did.serves [] (Ended 0 Memory ∷ [])) (spent (record finisher { resolving = Resolving.idle; «end» = Some Memory }))

-- ---- functions before all others

-- a function of DT_PREINIT_ARRAY is entered before the first object's, also where that has none. The object passes when it returns
abbrev pub start_of : ℕ → List ℕ → HartState
start_of pc addresses = record (hart_at pc (with_one 1 0x80f080)) {
  frames = record {
    purpose = Purpose.of_startup (hart_at 0x11000 (replicate 32 0)).registers;
    queue = record { object = 2; addresses = addresses } ∷ record { object = 1; addresses = 0x11040 ∷ [] } ∷ [];
  } ∷ [];
}

abbrev pub without_functions : List Function
without_functions = record { object = 2; addresses = [] } ∷ record { object = 1; addresses = 0x11040 ∷ [] } ∷ []

abbrev pub EntersPreinit : Type 0
EntersPreinit =
    runs (Purpose.of_startup (hart_at 0x11000 (replicate 32 0)).registers) (preceded (0x11080 ∷ []) without_functions) [] (hart_at 0x11000 (replicate 32 0))
    ≡ start_of 0x11080 []

abbrev pub CompletesBehind : State → Type 0
CompletesBehind s =
    due s (start_of 0x80f080 []) ≡ Due.complete (Purpose.of_startup (hart_at 0x11000 (replicate 32 0)).registers) 2 (record {
      object = 1;
      addresses = 0x11040 ∷ [];
    } ∷ []) []

-- ---- fuel

-- a hart that is done with a slot ends for its fuel, and its grant is settled in that turn
abbrev pub spent_out : Resolving → HartState
spent_out resolving = record (without_fuel (hart_at 0x3c000 (replicate 32 0))) { resolving = resolving }

abbrev pub SettlesAtEnd : Type 0
SettlesAtEnd = Moves race.setting race.before 1 (spent_out (Resolving.to_settle (race_offer 4 0x3c000) 0x34000)) (Did.serves [] (Ended 1 FuelOut ∷ []))
    (record (spent_out Resolving.idle) { «end» = Some FuelOut })
    × (settles (Did.serves [] (Ended 1 FuelOut ∷ [])) ≡ true)

-- ---- over a journal

-- no hart leaves an event of its own out
abbrev pub SkipsItsOwn : (w : Setting) → Type 0
SkipsItsOwn w = (b c : HartState) (turn : Turned) (rest : List Turned) (to : ℕ) → turn.at ≡ 1 → Follows w (Told 1 None ∷ []) 1 0 b (turn ∷ rest) to c → ⊥

-- nor behind its end, where it takes no turn
abbrev pub LeavesItsOwn : (w : Setting) → Type 0
LeavesItsOwn w = (start : HartStart) (over reason : HartEnd) → start.from ≡ 0 → start.hart.«end» ≡ Some over
    → FollowsToItsEnd w (Told 1 None ∷ []) start 1 reason → ⊥
