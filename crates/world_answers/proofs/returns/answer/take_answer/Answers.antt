use Rattle.std.proofs.Common.{ap, ◌∙◌}
use Rattle.history_state.specs.After.{after}
use Rattle.hart_moves.specs.Due.{due}
use Rattle.link_state.specs.Table.{LinkTable}
use Rattle.world_answers.specs.ReturnsPart.Steps.{noted_with}
use Rattle.world_answers.proofs.ReturnsPart.Rows.{answered_table, notes_none, was_allowed, was_may, was_fits}
use Rattle.world_answers.proofs.returns.answer.take_answer.Goals as goal

pub apply-requires-clause-may : goal.apply-requires-clause-may
apply-requires-clause-may c =
    was_may c.args.state.now c.args.id c.args.hart.now.hart c.args.came c.requires.answered c.journal.ensures.lawful
    (record { begins = c.constructors_follow.ensures.begins; starts = c.constructors_follow.ensures.next; finishes = c.destructors_follow.ensures.next })

pub apply-requires-clause-text : goal.apply-requires-clause-text
apply-requires-clause-text c = was_fits c.args.state.now c.args.id c.args.hart.now.hart c.args.came c.requires.answered c.journal.ensures.lawful c.ranges_apart.ensures

pub returns-clause-turn : goal.returns-clause-turn
returns-clause-turn c = λ w past turn.
    answered_table w past c.args.state.now c.apply.new.state c.args.id (due (after past) c.args.hart.now.hart) c.args.hart.now.hart c.apply.new.hart.hart c.due_return-by.result c.args.came c.apply.result
    turn (λ call to is. c.due_return-by.ensures (after past) call to is)
    (was_allowed c.args.state.now c.args.id c.args.hart.now.hart c.args.came c.requires.answered c.journal.ensures.lawful
    (record { begins = c.constructors_follow.ensures.begins; starts = c.constructors_follow.ensures.next; finishes = c.destructors_follow.ensures.next }) w)
    c.apply.ensures.state c.apply.ensures.hart c.apply.ensures.change

pub returns-clause-noted : goal.returns-clause-noted
returns-clause-noted c = (noted_with c.args.hart.now.hart c.args.id c.args.came, ap (λ (t : LinkTable). t.events) c.apply.ensures.state)

pub returns-clause-kept : goal.returns-clause-kept
returns-clause-kept c = λ none. c.apply.ensures.state ∙ notes_none c.args.state.now c.args.hart.now.hart c.args.id c.args.came none
