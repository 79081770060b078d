use Rattle.std.proofs.Common.{◌<◌, ◌++◌, List, [], ap, sym, subst}
use Rattle.history_event.specs.declared.event.Event.{Event}
use Rattle.history_state.specs.After.{after}
use Rattle.history_state.specs.Legal.{Legal}
use Rattle.history_state.specs.Setting.{Setting}
use Rattle.history_calls.specs.declared.link_served.installs.Installs.{Installs}
use Rattle.link_state.specs.Table.{LinkTable}
use Rattle.hart_moves.specs.Due.{due}
use Rattle.hart_moves.specs.Harts.{HartState}
use Rattle.world_memory.specs.TurnAnswers.Changes.{Changes}
use Rattle.world_turns.specs.Memory.{RemakesAll}
use Rattle.world_answers.proofs.GuestsPart.Answered.{still_counted, takes_answer, turn_tells, was_answered}
use Rattle.world_answers.proofs.GuestsPart.Freed.{asks_of_serve}
use Rattle.world_answers.proofs.GuestsPart.Moved.{is_over, setting_with, turns_over}
use Rattle.world_answers.proofs.GuestsPart.Openings.{turn_opens}
use Rattle.world_answers.proofs.guests.serving.make_call.Goals as goal

pub take_answer-change-requires-clause-fuel : goal.take_answer-change-requires-clause-fuel
take_answer-change-requires-clause-fuel g c =
    subst (λ (b : HartState). b.turns < b.fuel) (sym c.answer_with_room-came.ensures.hart) c.requires.may.may.fuel

pub take_answer-change-requires-clause-answered : goal.take_answer-change-requires-clause-answered
take_answer-change-requires-clause-answered g c =
    was_answered c.args.state.now c.answer_with_room-came.new.state c.args.folders.now (g.L.Library.files c.args.library.now) c.args.id c.args.hart.now.hart
    c.answer_with_room-came.new.hart.hart c.answer_with_room-came.result c.answer_with_room-came.ensures.answered c.answer_with_room-came.ensures.harts
    c.answer_with_room-came.ensures.hart

pub returns-clause-turns : goal.returns-clause-turns
returns-clause-turns g c =
    turns_over c.args.state.now c.take_answer-change.new.state c.args.id c.args.hart.now.hart c.take_answer-change.new.hart.hart c.take_answer-change.result
    (asks_of_serve (due (after c.args.state.now.events) c.args.hart.now.hart) c.requires.may.call c.requires.may.back c.requires.may.is)
    c.files_only_narrow.ensures.events c.args.folders.now (g.L.Library.files c.args.library.now) c.args.memory.now c.apply.new.self c.requires.legal
    (takes_answer c.args.state.now c.answer_with_room-came.new.state c.take_answer-change.new.state c.args.folders.now (g.L.Library.files c.args.library.now) c.args.id
    c.args.hart.now.hart c.answer_with_room-came.new.hart.hart c.take_answer-change.new.hart.hart c.answer_with_room-came.result c.take_answer-change.result
    c.answer_with_room-came.ensures.answered c.answer_with_room-came.ensures.hart c.take_answer-change.ensures.turn)
    (subst (λ (made : Installs). (w : Setting) (past given : List Event) → Legal w (past ++ given) → Changes (after past) given made c.take_answer-change.result
    → RemakesAll (after past) given c.args.memory.now c.apply.new.self) c.made_block.ensures c.apply.ensures)

pub returns-clause-tells : goal.returns-clause-tells
returns-clause-tells g c = λ w on.
    turn_tells c.args.state.now c.answer_with_room-came.new.state c.take_answer-change.new.state.events c.args.folders.now (g.L.Library.files c.args.library.now)
    c.args.id (due (after c.args.state.now.events) c.args.hart.now.hart) c.answer_with_room-came.result c.shown_by-waits.result
    c.answer_with_room-came.ensures.answered c.take_answer-change.ensures.noted
    (λ none. ap (λ (t : LinkTable). t.events) (c.take_answer-change.ensures.kept none)) w on c.outcome.result c.outcome.ensures.again
    c.outcome.ensures.stepped c.shown_by-waits.ensures.some c.shown_by-waits.ensures.none

pub returns-clause-counts : goal.returns-clause-counts
returns-clause-counts g c =
    still_counted (setting_with c.args.state.now.harts c.args.folders.now [] (g.L.Library.files c.args.library.now)) c.args.folders.now c.args.state.now.events
    c.answer_with_room-came.new.state.events c.take_answer-change.new.state.events c.answer_with_room-came.new.state.made c.args.id
    (due (after c.args.state.now.events) c.args.hart.now.hart) c.answer_with_room-came.result (g.L.Library.faults c.args.library.now)
    (g.L.Library.faults c.answer_with_room-came.new.library) (g.L.Library.misses c.args.library.now) (g.L.Library.misses c.answer_with_room-came.new.library)
    (c.answer_with_room-came.ensures.answered (setting_with c.args.state.now.harts c.args.folders.now [] (g.L.Library.files c.args.library.now))
    (is_over c.args.state.now.harts c.args.folders.now [] (g.L.Library.files c.args.library.now)))
    c.take_answer-change.ensures.noted (λ none. ap (λ (t : LinkTable). t.events) (c.take_answer-change.ensures.kept none)) c.answer_with_room-came.ensures.counts

pub returns-clause-whole : goal.returns-clause-whole
returns-clause-whole g c =
    turn_opens c.refusals_come_in_order.ensures.passed c.args.state.now c.take_answer-change.new.state c.args.folders.now (g.L.Library.files c.args.library.now)
    c.args.memory.now c.apply.new.self c.args.id c.args.hart.now.hart c.take_answer-change.new.hart.hart c.outcome.result (g.L.Library.faults c.args.library.now)
    (g.L.Library.faults c.answer_with_room-came.new.library) (g.L.Library.misses c.args.library.now) (g.L.Library.misses c.answer_with_room-came.new.library)
    (returns-clause-turns g c) c.outcome.ensures.is (returns-clause-counts g c)
