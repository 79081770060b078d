use Rattle.std.proofs.Common.{rules}
use Rattle.hart_threads.proofs.Spending.{fewer}
use Rattle.hart_threads.proofs.run.HartRun.start.Goals as goal

pub loop-self-smaller : goal.loop-self-smaller
loop-self-smaller g c = fewer c.loop-self.self.hart.hart c.turn.new.self.hart.hart (search rules) c.turn.ensures.spends
