-- What holds of the end of a hart.
use Rattle.std.specs.Prelude.{◌≡◌, ℕ, Bool, List, [], ◌∷◌, ◌++◌, Some, None, slice_set}
use Rattle.std.specs.List.{slice_get}
use Rattle.history_event.specs.declared.event.Event.TheVariants.{Ended}
use Rattle.history_event.specs.declared.hart_end.HartEnd.{HartEnd}
use Rattle.history_state.specs.After.{after}
use Rattle.history_state.specs.Allowed.{MayEnd}
use Rattle.history_state.specs.Setting.{Setting}
use Rattle.rv_hart.specs.declared.doubleword.Doubleword.{Doubleword}
use Rattle.hart_moves.specs.Due.{due}
use Rattle.hart_moves.specs.Harts.{HartState}
use Rattle.world_answers.specs.GuestsPart.GuestWorlds.Worlds.{MayBeAt, MayEndNow}
use Rattle.world_memory.specs.TurnAnswers.Following.{MayFollowAll}
use Rattle.world_turns.specs.Turn.{Turn}
use Rattle.world_turns.specs.World.{World, settling}
use Rattle.world_answers.specs.GuestsPart.Alone.{IsToEnd}
use Rattle.world_answers.specs.GuestsPart.Ending.{EndsAmong}

-- in the place of a hart that runs stands one that is as far with its slot: then what is to settle may be settled, and the hart may end
abbrev pub EndsMayCome : Type 0
EndsMayCome = (count : ℕ) (folders : List (List ℕ)) (begun : Bool) (world : World) (h : ℕ) (b c : HartState) → MayBeAt count folders begun world
    → slice_get world.harts h ≡ Some b → b.«end» ≡ None → c.resolving ≡ b.resolving
    → MayFollowAll count world.journal (settling (slice_set world.harts h c)) × MayEndNow count (world.journal ++ settling (slice_set world.harts h c)) h

-- a hart took its turn but for its end, and then it ended: that was its turn
abbrev pub EndsAreTurns : Type 0
EndsAreTurns = (w : Setting) (h : ℕ) (old : World) (words : List Doubleword) (between new : List HartState) (b c : HartState) (reason : HartEnd)
    → slice_get old.harts h ≡ Some b → IsToEnd old.words words (due (after (old.journal ++ settling old.harts)) b) b c reason
    → between ≡ slice_set old.harts h c → MayEnd w (after (old.journal ++ settling between)) h → EndsAmong between new h reason
    → Turn w h old (record { journal = (old.journal ++ settling between) ++ Ended h reason ∷ []; words = words; harts = new })
