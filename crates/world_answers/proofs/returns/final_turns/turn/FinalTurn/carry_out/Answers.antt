use Rattle.std.proofs.Common.{ap, ◌∙◌}
use Rattle.history_journal.specs.Following.{machine_of}
use Rattle.history_state.specs.After.{after}
use Rattle.history_state.specs.Laws.{InitialisedOnce}
use Rattle.world_answers.specs.ReturnsPart.FinalTurns.Table.{FinalPlan}
use Rattle.world_answers.proofs.ReturnsPart.FinalTurns.Passing.{all_follow, finalises, turns}
use Rattle.world_answers.proofs.ReturnsPart.FinalTurns.Planning.{carried}
use Rattle.world_answers.proofs.returns.final_turns.turn.FinalTurn.carry_out.Goals as goal

pub finalise-requires : goal.finalise-requires
finalise-requires c =
    let once : InitialisedOnce (after c.args.state.now.events) = c.initialised_once.ensures (machine_of c.args.state.now.harts) c.args.state.now.events c.journal.ensures.lawful in
    all_follow c.args.state.now.harts c.args.state.now.events c.args.id c.args.self c.as_slice.result.now once c.requires.planned c.requires.may
    (c.as_slice.ensures ∙ ap (λ (p : FinalPlan). p.finalised) c.self.view_is)

pub returns-clause-turn : goal.returns-clause-turn
returns-clause-turn c = λ w b may found.
    let once : InitialisedOnce (after c.args.state.now.events) = c.initialised_once.ensures (machine_of c.args.state.now.harts) c.args.state.now.events c.journal.ensures.lawful in
    finalises w c.args.state.now.events c.args.id c.args.self b c.spend.new.self.hart may (turns w c.args.state.now.events c.args.id c.args.self once c.requires.planned may)
    (carried c.args.self c.self.inside.code c.self.inside.next c.args.id b c.args.hart.now.hart c.run_last.new.self.hart c.spend.new.self.hart
    (ap (λ (p : FinalPlan). p.code) c.self.view_is) (ap (λ (p : FinalPlan). p.next) c.self.view_is) found c.run_last.ensures c.spend.ensures)
