-- Which harts have ended: the journal says it, and so do the harts.
use Rattle.std.specs.Prelude.{◌≡◌, ◌⊎◌, ℕ, Bool, false, List, [], ◌∷◌, length, filter, Some, None, Contains, IsTrue}
use Rattle.std.specs.List.{list_all, slice_get}
use Rattle.std.specs.Option.{is_some}
use Rattle.history_event.specs.declared.hart_end.HartEnd.{HartEnd}
use Rattle.history_event.specs.declared.state.Ending.{Ending}
use Rattle.history_state.specs.After.{after}
use Rattle.history_state.specs.Setting.{Setting, are_finals}
use Rattle.hart_moves.specs.Harts.{HartState}
use Rattle.hart_moves.specs.Moves.{all_finis}
use Rattle.hart_moves.specs.TurnEvents.Appends.{has_finals}
use Rattle.world_turns.specs.Run.{exit_code, has_ended}
use Rattle.world_turns.specs.World.{World}

-- each end of a journal is one of a hart, and each hart that has ended stands there once
pub record AreEndings (endings : List Ending) (harts : List HartState) : Type 0 where
  pub all : length endings ≡ length (filter has_ended harts)
  pub each : (e : Ending) → Contains endings e → (b : HartState) × (slice_get harts e.hart ≡ Some b) × (b.«end» ≡ Some e.«end»)
  pub told : (h : ℕ) (b : HartState) (reason : HartEnd) → slice_get harts h ≡ Some b → b.«end» ≡ Some reason
      → Contains endings (record { hart = h; «end» = reason })

abbrev pub has_exited : HartState → Bool
has_exited b = is_some (exit_code b)

-- no hart runs final destructors
pub record BeforeFinals (w : Setting) (world : World) : Type 0 where
  pub harts : length world.harts ≡ w.machine.harts
  pub endings : AreEndings (after world.journal).endings world.harts
  pub none : (h : ℕ) (b : HartState) → slice_get world.harts h ≡ Some b → has_finals b.frames ≡ false

-- each hart had ended by exit, and the first one runs them, until it ends again. If that was without an end in the journal, then none of the
-- objects that were initialised is left
pub record InFinals (w : Setting) (world : World) : Type 0 where
  pub first : HartState
  pub others : List HartState
  pub harts : world.harts ≡ first ∷ others
  pub over : IsTrue (list_all has_exited others)
  pub frames : first.«end» ≡ None → IsTrue (has_finals first.frames)
  pub runs : first.«end» ≡ None → IsTrue (are_finals w (after world.journal))
  pub done : IsTrue (has_ended first) → IsTrue (are_finals w (after world.journal)) → all_finis (after world.journal) ≡ []

abbrev pub EndsFit : Setting → World → Type 0
EndsFit w world = BeforeFinals w world ⊎ InFinals w world
