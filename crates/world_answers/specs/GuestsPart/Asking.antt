-- Turns that ask the linker for something.
use Rattle.std.specs.Prelude.{◌≡◌, ℕ, ◌||◌, Bool, true, false, Option, Some, None}
use Rattle.std.specs.List.{slice_get}
use Rattle.history_state.specs.After.{after}
use Rattle.history_calls.specs.Call.{Call, opens, closes}
use Rattle.hart_moves.specs.Due.{Due, due, is_finalising}
use Rattle.hart_moves.specs.Harts.{HartState}
use Rattle.world_answers.specs.Answers.{is_service, is_wait}
use Rattle.world_answers.specs.ReturnsPart.Completing.{is_complete}
use Rattle.world_turns.specs.World.{World}
use Rattle.world_answers.specs.declared.guests.asking.Asked.{Asked}
use Rattle.world_answers.specs.declared.guests.asking.Asked.TheVariants as asked

-- it is a call, or waits for what an opening came to
abbrev pub is_called : Due → Bool
is_called d = is_service d || is_wait d

-- it is one of these, or the turn in which the functions of an object have run. Those of the final destructors are another's
abbrev pub asks_linker : Due → Bool
asks_linker d = is_called d || is_complete d

-- the hart's next turn asks for nothing
abbrev pub AsksNothing : World → ℕ → Type 0
AsksNothing world h = (b : HartState) → slice_get world.harts h ≡ Some b → asks_linker (due (after world.journal) b) ≡ false

-- a turn that asks the linker, or the one behind the final destructors of an object
abbrev pub needs_linker : Due → Bool
needs_linker d = is_called d || (is_complete d || is_finalising d)

-- the hart's next turn is one of these
abbrev pub NeedsLinker : World → ℕ → Type 0
NeedsLinker world h = (b : HartState) × (slice_get world.harts h ≡ Some b) × (needs_linker (due (after world.journal) b) ≡ true)

-- ---- for the code of this crate alone

abbrev pub IsAsked : Due → Option Asked → Type 0
IsAsked d (Some asked.Call) = is_called d ≡ true
IsAsked d (Some asked.Passing) = is_complete d ≡ true
IsAsked d None = asks_linker d ≡ false

-- the linker may have the hart run constructors by an opening, and destructors by a closing (dlopen(3), dlclose(3))
abbrev pub may_run_by : Call → Bool
may_run_by call = elim call [ opens ask ↦ true | closes handle ↦ true | _ ↦ false ]

abbrev pub may_run_functions : Due → Bool
may_run_functions d = elim d [ Due.serve call back ↦ may_run_by call | _ ↦ false ]
