-- What holds of trails. For the loop of a hart, which adds a turn to what it has, over the journal that it is told of then.
use Rattle.std.specs.Prelude.{ℕ, ◌+◌, ◌≤◌, List, [], ◌∷◌, ◌++◌, length, take}
use Rattle.history_event.specs.declared.event.Event.{Event}
use Rattle.history_event.specs.declared.hart_end.HartEnd.{HartEnd}
use Rattle.word_rule.specs.declared.view.TrailItem.{TrailItem}
use Rattle.word_rule.specs.Generations.{AllKept, MarksOnce}
use Rattle.history_state.specs.Setting.{Setting}
use Rattle.hart_moves.specs.Follows.{Follows, FollowsToItsEnd, HasNone, Turned, TurnsAt}
use Rattle.hart_moves.specs.Harts.{HartState}
use Rattle.hart_moves.specs.Moves.{events_of}
use Rattle.hart_moves.specs.Starting.{HartStart}
use Rattle.hart_trails.specs.Trails.{FollowsBy, Leaves, LeavesToItsEnd}

-- one turn more
abbrev pub TurnsBehind : Type 0
TurnsBehind = (w : Setting) (journal : List Event) (h from to : ℕ) (b c d : HartState) (turns : List Turned) (turn : Turned) (trail items : List TrailItem)
    → FollowsBy w journal h from b turns trail to c → to ≤ turn.at → HasNone journal h to turn.at → TurnsAt w journal h turn c d
    → Leaves (take turn.at journal) c turn.beside turn.did items
    → FollowsBy w journal h from b (turns ++ turn ∷ []) (trail ++ items) (turn.at + length (events_of turn.did)) d

-- over a longer journal
abbrev pub TrailsStay : Type 0
TrailsStay = (w : Setting) (journal more : List Event) (h from to : ℕ) (b c : HartState) (turns : List Turned) (trail : List TrailItem)
    → FollowsBy w journal h from b turns trail to c → FollowsBy w (journal ++ more) h from b turns trail to c

-- whoever follows by a trail follows
abbrev pub TrailsFollow : Type 0
TrailsFollow = (w : Setting) (journal : List Event) (h from to : ℕ) (b c : HartState) (turns : List Turned) (trail : List TrailItem)
    → FollowsBy w journal h from b turns trail to c → Follows w journal h from b turns to c

abbrev pub EndsFollow : Type 0
EndsFollow = (w : Setting) (journal : List Event) (start : HartStart) (h : ℕ) (reason : HartEnd) (trail : List TrailItem)
    → LeavesToItsEnd w journal start h reason trail → FollowsToItsEnd w journal start h reason

-- where each reading in a whole trail is kept, each answer on thread-local storage that is no event is the first answer of its module and generation
abbrev pub MarksFollow : Type 0
MarksFollow = (w : Setting) (journal : List Event) (start : HartStart) (h : ℕ) (reason : HartEnd) (trail : List TrailItem)
    → LeavesToItsEnd w journal start h reason trail → AllKept [] trail → MarksOnce [] trail
