use Rattle.std.proofs.Common.{◌≡◌, ◌<◌, true, sym, ap, subst, ◌∙◌}
use Rattle.history_state.specs.After.{after}
use Rattle.history_state.specs.State.{State}
use Rattle.hart_moves.specs.Due.{due}
use Rattle.hart_moves.specs.Harts.{HartState}
use Rattle.world_memory.specs.declared.turn_answers.answered.Answered.{Answered}
use Rattle.world_answers.specs.Answers.{AnswersDue, HasFinishedFirst, WritesSome, is_service}
use Rattle.world_answers.specs.Openings.{TurnReadsNothing, TurnRefusalIsCounted}
use Rattle.world_answers.specs.GuestsPart.Asking.{may_run_functions}
use Rattle.world_answers.proofs.GuestsPart.Answered.{has_room, lack_is_counted, lacks_room}
use Rattle.world_answers.proofs.GuestsPart.Freed.{on_err, on_ok}
use Rattle.world_answers.proofs.guests.serving.answer_with_room.Goals as goal

pub answer-requires-clause-finished : goal.answer-requires-clause-finished
answer-requires-clause-finished g c =
    subst (λ (b : HartState). HasFinishedFirst (after c.args.state.now.events) c.args.id (due (after c.args.state.now.events) b)) (sym c.make_room.ensures.hart) c.requires.may.may.finished

pub answer-requires-clause-writes : goal.answer-requires-clause-writes
answer-requires-clause-writes g c =
    subst (λ (b : HartState). WritesSome (due (after c.args.state.now.events) b)) (sym c.make_room.ensures.hart) c.requires.may.may.writes

pub returns-then-is_err-clause-answered : goal.returns-then-is_err-clause-answered
returns-then-is_err-clause-answered g c =
    let runs : (s : State) → is_service (due s c.args.hart.now.hart) ≡ true → may_run_functions (due s c.args.hart.now.hart) ≡ true =
    on_err c.make_room.result _ (sym c.is_err.ensures.value ∙ c.if-is_err.true) c.make_room.ensures.err in
    subst (λ (came : Answered). AnswersDue c.args.state.now c.args.folders.now (g.L.Library.files c.args.library.now) c.args.id (due (after c.args.state.now.events) c.args.hart.now.hart) came c.end_for_memory.new.state)
    (sym c.end_for_memory.ensures.over)
    (lacks_room c.args.state.now c.end_for_memory.new.state c.args.folders.now (g.L.Library.files c.args.library.now) c.args.id c.args.hart.now.hart c.requires.may
    c.end_for_memory.ensures.noted (runs (after c.args.state.now.events) (ap is_service c.requires.may.is)))

pub returns-then-is_err-clause-counts : goal.returns-then-is_err-clause-counts
returns-then-is_err-clause-counts g c =
    lack_is_counted c.args.state.now c.end_for_memory.new.state c.args.folders.now (g.L.Library.files c.args.library.now) c.args.id c.args.hart.now.hart c.requires.may
    c.end_for_memory.ensures.noted (due (after c.args.state.now.events) c.args.hart.now.hart) (g.L.Library.faults c.args.library.now) (g.L.Library.faults c.args.library.now)
    (g.L.Library.misses c.args.library.now) (g.L.Library.misses c.args.library.now)

pub returns-clause-answered : goal.returns-clause-answered
returns-clause-answered g c =
    subst (λ (b : HartState). AnswersDue c.args.state.now c.args.folders.now (g.L.Library.files c.args.library.now) c.args.id (due (after c.args.state.now.events) b) c.in-Some.came c.answer.new.state)
    c.make_room.ensures.hart c.in-Some.ensures.answered

pub returns-clause-room : goal.returns-clause-room
returns-clause-room g c =
    let room : (s : State) → may_run_functions (due s c.args.hart.now.hart) ≡ true → 0 < c.make_room.new.hart.spare =
    on_ok c.make_room.result _ (sym c.is_err.ensures.value ∙ c.if-is_err.false) c.make_room.ensures.room in
    has_room c.args.state.now c.answer.new.state c.args.folders.now (g.L.Library.files c.args.library.now) c.args.id (due (after c.args.state.now.events) c.args.hart.now.hart)
    c.in-Some.came c.make_room.new.hart.spare (returns-clause-answered g c) (room (after c.args.state.now.events))

pub returns-clause-counts : goal.returns-clause-counts
returns-clause-counts g c =
    subst (λ (b : HartState). TurnRefusalIsCounted c.args.folders.now c.args.state.now.events c.answer.new.state.events c.args.id (due (after c.args.state.now.events) b)
    (g.L.Library.faults c.args.library.now) (g.L.Library.faults c.answer.new.library) (g.L.Library.misses c.args.library.now) (g.L.Library.misses c.answer.new.library))
    c.make_room.ensures.hart c.in-Some.ensures.counts

pub returns-clause-unread : goal.returns-clause-unread
returns-clause-unread g c = λ reads.
    c.in-Some.ensures.unread
    (subst (λ (b : HartState). TurnReadsNothing (after c.args.state.now.events) (due (after c.args.state.now.events) b)) (sym c.make_room.ensures.hart) reads)
