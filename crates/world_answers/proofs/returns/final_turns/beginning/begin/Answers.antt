use Rattle.std.proofs.Common.{[], ap, ◌∙◌}
use Rattle.history_state.specs.After.{after}
use Rattle.hart_moves.specs.Harts.{HartState, Purpose}
use Rattle.hart_moves.specs.Moves.{runs}
use Rattle.world_answers.proofs.ReturnsPart.FinalTurns.First.{begins, restarted}
use Rattle.world_answers.proofs.returns.final_turns.beginning.begin.Goals as goal

pub returns-clause-begins : goal.returns-clause-begins
returns-clause-begins c =
    begins (after c.args.state.now.events) c.args.entry c.args.code c.in_ok-functions.functions c.only_at-first.result c.is_empty.result c.args.hart.now.hart c.run_last.new.self.hart
    c.in_ok-functions.ensures c.is_empty.ensures c.if-is_empty.false c.only_at-first.ensures
    (c.run_last.ensures ∙ ap (λ (b : HartState). runs (Purpose.of_end c.args.code) c.only_at-first.result [] b) (c.restart.ensures.hart ∙ ap (λ (b : HartState). restarted c.args.entry b) c.in_ok-make_room.ensures.hart))
