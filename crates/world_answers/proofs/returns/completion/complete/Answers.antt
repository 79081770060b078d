use Rattle.std.proofs.Common.{drop, sym, subst}
use Rattle.hart_moves.specs.Moves.{freed}
use Rattle.world_answers.specs.ReturnsPart.Steps.{PassesFirst}
use Rattle.world_answers.proofs.ReturnsPart.Rows.{completed_table}
use Rattle.world_answers.proofs.ReturnsPart.Running.{HasTurn, goes_on, runs_has}
use Rattle.world_answers.proofs.returns.completion.complete.Goals as goal

pub spend-requires : goal.spend-requires
spend-requires c =
    let first : PassesFirst c.args.state.now c.pass_first.new.state c.args.id c.args.hart.now.hart c.in-Some.passed = c.in-Some.ensures.passed in
    let moved = goes_on c.args.state.now c.pass_first.new.state c.args.id c.in-Some.passed c.args.hart.now.hart c.settle.new.self.hart c.complete.new.self.hart first c.settle.ensures.hart
    c.complete.ensures in
    subst HasTurn (sym moved) (runs_has first.purpose (drop c.in-Some.passed first.rest) first.below (freed c.args.hart.now.hart) first.fuel)

pub returns-clause-turn : goal.returns-clause-turn
returns-clause-turn c = λ yes w on.
    let first : PassesFirst c.args.state.now c.pass_first.new.state c.args.id c.args.hart.now.hart c.in-Some.passed = c.in-Some.ensures.passed in
    let moved = goes_on c.args.state.now c.pass_first.new.state c.args.id c.in-Some.passed c.args.hart.now.hart c.settle.new.self.hart c.complete.new.self.hart first c.settle.ensures.hart
    c.complete.ensures in
    completed_table w c.args.state.now c.pass_first.new.state c.args.id c.in-Some.passed c.args.hart.now.hart c.complete.new.self.hart c.spend.new.self.hart on c.requires first moved c.spend.ensures
