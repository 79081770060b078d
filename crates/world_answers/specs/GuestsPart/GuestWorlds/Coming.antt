-- How a turn leaves its hart.
use Rattle.std.specs.Prelude.{◌≡◌, ℕ, Option, Some, None}
use Rattle.std.specs.List.{slice_get}
use Rattle.history_event.specs.declared.hart_end.HartEnd.{HartEnd}
use Rattle.hart_moves.specs.Harts.{HartState}
use Rattle.world_turns.specs.World.{World}
use Rattle.world_answers.specs.declared.guests.guest_worlds.turn.Turn.{Turn}
use Rattle.world_answers.specs.declared.guests.guest_worlds.turn.Turn.TheVariants as turn

-- how the hart has ended, if it has
abbrev pub HasEnd : World → ℕ → Option HartEnd → Type 0
HasEnd world h reason = (b : HartState) × (slice_get world.harts h ≡ Some b) × (b.«end» ≡ reason)

-- it runs on, whether it is to try again or not; it has ended; or it had ended before, and nothing was done
abbrev pub LeavesHart : (old new : World) → ℕ → Turn → Type 0
LeavesHart old new h turn.Stepped = HasEnd new h None
LeavesHart old new h (turn.Again shown) = HasEnd new h None
LeavesHart old new h (turn.Ended reason) = HasEnd old h None × HasEnd new h (Some reason)
LeavesHart old new h turn.Idle = (new ≡ old) × ((reason : HartEnd) × HasEnd old h (Some reason))
