use Rattle.std.proofs.Common.{◌≡◌, false, subst, sym}
use Rattle.hart_threads.specs.Run.{HasStarted, IsReady}
use Rattle.hart_threads.proofs.Running.{begun_calm, begun_over}
use Rattle.hart_threads.proofs.Slices.{each_set, first_set}
use Rattle.hart_threads.proofs.harts.start_first.Goals as goal

pub returns-clause-ready : goal.returns-clause-ready
returns-clause-ready g c =
    each_set (λ run. IsReady g.J.RunNaming.setting g.J.RunNaming.journal run.seat run.hart.hart run.blocks) c.args.runs.now c.start.new.self
    (record { between = c.start.ensures.runs.between; calm = c.start.ensures.runs.calm }) c.requires.ready

pub returns-clause-over : goal.returns-clause-over
returns-clause-over g c = λ d. subst (λ x. HasStarted x.hart.hart) (sym (first_set c.args.runs.now c.start.new.self d c.requires.some)) (begun_over c.start.new.self.hart.hart c.start.ensures.begun)

pub returns-clause-calling : goal.returns-clause-calling
returns-clause-calling g c = λ d. subst (λ x. x.seat.lane.calling ≡ false) (sym (first_set c.args.runs.now c.start.new.self d c.requires.some))
    (begun_calm g.J.RunNaming.setting g.J.RunNaming.journal _ c.start.new.self.seat _ c.start.new.self.hart.hart c.start.new.self.blocks c.start.ensures.runs c.start.ensures.begun)
