use Rattle.hart_threads.specs.Run.{RunsOn}
use Rattle.hart_threads.proofs.Spending.{turns_left}
use Rattle.hart_threads.proofs.run.HartRun.start.Given as goal

abbrev pub invariant-loop-self : goal.invariant-loop-self
invariant-loop-self g l =
    RunsOn g.J.RunNaming.setting g.J.RunNaming.journal l.fn.self.seat l.self.seat l.fn.self.hart.hart l.self.hart.hart l.self.blocks

abbrev pub decreases-loop-self : goal.decreases-loop-self
decreases-loop-self g l = turns_left l.self.hart.hart
