use Rattle.std.proofs.Common.{refl}
use Rattle.hart_threads.proofs.Running.{out_calm, run_out_on}
use Rattle.hart_threads.proofs.Spending.{ending_spends}
use Rattle.hart_threads.proofs.run.HartRun.run_out.Goals as goal

pub end-requires-clause-calling : goal.end-requires-clause-calling
end-requires-clause-calling g c = out_calm _ _ c.requires.runs c.requires.between.row c.requires.out

pub returns-clause-runs : goal.returns-clause-runs
returns-clause-runs g c = run_out_on c.trails_grow.ensures.stay c.trails_grow.ensures.behind _ _ _ _ _ _ _ c.requires.between c.requires.runs c.requires.out c.end.ensures.turn c.end.ensures.heard c.end.ensures.calling (c.end.ensures.blocks _)

pub returns-clause-spends : goal.returns-clause-spends
returns-clause-spends g c = ending_spends c.args.self.now.hart.hart c.args.self.now.hart.hart _ _ refl c.end.ensures.turn.left
