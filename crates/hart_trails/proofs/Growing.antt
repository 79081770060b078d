-- Trails go on, stay over longer journals, and are those of harts that follow.
use Rattle.std.proofs.Common.{ℕ, ◌+◌, ◌≤◌, List, [], ◌∷◌, ◌++◌, length, sym, subst, append-nil, append_assoc, arith}
use Rattle.std.proofs.lemmas.List.{take-append-le}
use Rattle.history_event.specs.declared.event.Event.{Event}
use Rattle.history_event.specs.declared.hart_end.HartEnd.{HartEnd}
use Rattle.rv_hart.specs.Registers.{Registers}
use Rattle.word_rule.specs.declared.view.TrailItem.{TrailItem}
use Rattle.history_state.specs.Setting.{Setting}
use Rattle.hart_moves.specs.Follows.{EndsBehind, Follows}
use Rattle.hart_moves.specs.Harts.{HartState}
use Rattle.hart_moves.specs.Moves.{events_of}
use Rattle.hart_moves.specs.Lemmas.Following.{none_longer, turn_longer}
use Rattle.hart_trails.specs.Laws.{EndsFollow, TrailsFollow, TrailsStay, TurnsBehind}
use Rattle.hart_trails.specs.Trails.{FollowsBy, Leaves, LeavesBehind}

pub turns_behind : TurnsBehind
turns_behind w journal h from to b c d turns turn trail items (FollowsBy.no_more _ _) late none x leaves =
    subst (λ (all : List TrailItem). FollowsBy w journal h from b (turn ∷ []) all (turn.at + length (events_of turn.did)) d) (append-nil items)
    (FollowsBy.one_more from (turn.at + length (events_of turn.did)) b d d turn [] items [] late none x leaves (FollowsBy.no_more (turn.at + length (events_of turn.did)) d))
turns_behind w journal h from to b c d turns turn trail items (FollowsBy.one_more _ _ _ e _ first rest own more soon before y left follows) late none x leaves =
    subst (λ (all : List TrailItem). FollowsBy w journal h from b (first ∷ rest ++ turn ∷ []) all (turn.at + length (events_of turn.did)) d) (sym (append_assoc own more items))
    (FollowsBy.one_more from (turn.at + length (events_of turn.did)) b e d first (rest ++ turn ∷ []) own (more ++ items) soon before y left
    (turns_behind w journal h (first.at + length (events_of first.did)) to e c d rest turn more items follows late none x leaves))

pub trails_stay : TrailsStay
trails_stay w journal more h from to b c turns trail (FollowsBy.no_more _ _) = FollowsBy.no_more from b
trails_stay w journal more h from to b c turns trail (FollowsBy.one_more _ _ _ d _ turn rest items left late none x leaves follows) =
    let within : turn.at + length (events_of turn.did) ≤ length journal = x.within in
    let at : turn.at ≤ length journal = omega (arith, within) in
    FollowsBy.one_more from to b d c turn rest items left late (none_longer w journal more h from turn.at at none) (turn_longer w journal more h turn b d x)
    (subst (λ (past : List Event). Leaves past b turn.beside turn.did items) (sym (take-append-le turn.at journal more at)) leaves)
    (trails_stay w journal more h (turn.at + length (events_of turn.did)) to d c rest left follows)

pub trails_follow : TrailsFollow
trails_follow w journal h from to b c turns trail (FollowsBy.no_more _ _) = Follows.no_more from b
trails_follow w journal h from to b c turns trail (FollowsBy.one_more _ _ _ d _ turn rest items left late none x leaves follows) =
    Follows.one_more from to b d c turn rest late none x (trails_follow w journal h (turn.at + length (events_of turn.did)) to d c rest left follows)

behind : (w : Setting) (journal : List Event) (h : ℕ) (registers : Registers) (from : ℕ) (ended : HartState) (first reason : HartEnd) (trail : List TrailItem)
    → LeavesBehind w journal h registers from ended first reason trail → EndsBehind w journal h registers from ended first reason
behind w journal h registers from ended first reason trail (LeavesBehind.is_another other none) = EndsBehind.is_another other none
behind w journal h registers from ended first reason trail (LeavesBehind.none_runs is none runs) = EndsBehind.none_runs is none runs
behind w journal h registers from ended first reason trail (LeavesBehind.none_is_left is none left) = EndsBehind.none_is_left is none left
behind w journal h registers from ended first reason trail (LeavesBehind.no_memory is at lacks none) = EndsBehind.no_memory is at lacks none
behind w journal h registers from ended first reason trail (LeavesBehind.all_run is at to begun last turns items reason' begins follows ends none) =
    EndsBehind.all_run is at to begun last turns reason begins (trails_follow w journal h at to begun last turns trail follows) ends none

pub ends_follow : EndsFollow
ends_follow w journal start h reason trail x = record {
  turns = x.turns;
  to = x.to;
  ended = x.ended;
  follows = trails_follow w journal h start.from x.to start.hart x.ended x.turns x.own x.follows;
  first = x.first;
  ends = x.ends;
  behind = behind w journal h start.registers x.to x.ended x.first reason x.rest x.behind;
}
