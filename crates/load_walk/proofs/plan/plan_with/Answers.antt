use Rattle.std.proofs.lemmas.Result.{err_from_is_err_and}
use Rattle.load_walk.specs.Staging.{source_of}
use Rattle.load_walk.proofs.Planning.{faulted_answers, complete_answers}
use Rattle.load_walk.proofs.Stages.{begins}
use Rattle.load_walk.proofs.plan.plan_with.Goals as goal

pub drive-requires : goal.drive-requires
drive-requires g c = rw c.in_ok-walker.ensures (begins _ _ _ _)

pub returns-in_err-drive-clause-refused : goal.returns-in_err-drive-clause-refused
returns-in_err-drive-clause-refused g c =
    let p = err_from_is_err_and c.from_residual-in_err-drive.result c.from_residual-in_err-drive.ensures.1 in
    rw (p.1, p.2) (faulted_answers _ c.args.ask.now c.args.ns.now (source_of g.L.Library.files g.L.Library.faults g.L.Library.misses c.args.library.now) (source_of g.L.Library.files g.L.Library.faults g.L.Library.misses c.drive.new.library) c.in_err-drive.field-0.0 c.in_err-drive.ensures.is).refused

pub returns : goal.returns
returns g c =
    let a = complete_answers _ _ _ _ _ _ _ _ c.in_ok-drive.ensures.0 c.in_ok-drive.ensures.1 c.in_ok-root.ensures c.complete.result c.complete.ensures.plan c.complete.ensures.fault in
    let s = c.in_ok-drive.ensures.0.stays in
    record { plan = a.plan; refused = a.refused; waits = a.waits; read_fault = a.read_fault; files = s.files; faults = s.faults; misses = s.misses }
