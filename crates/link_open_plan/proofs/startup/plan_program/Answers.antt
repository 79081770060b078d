use Rattle.std.proofs.Common.{[], Err, ap}
use Rattle.history_calls.specs.CallLaws.Counts.{ArePathsAtStart}
use Rattle.ld_base.specs.declared.fault.DlFault.TheVariants.{MissingLibrary}
use Rattle.history_state.specs.After.{after}
use Rattle.link_open_plan.specs.Planned.{IsUnopened, load_fault}
use Rattle.link_open_plan.specs.Startup.{run_of}
use Rattle.link_open_plan.proofs.Alone.{all_alone}
use Rattle.link_open_plan.proofs.FoundLemmas.{counts_found}
use Rattle.link_open_plan.proofs.Program.{missed_at_start, were_read}
use Rattle.link_open_plan.proofs.Results.{counts_as, err_as}
use Rattle.link_open_plan.proofs.Starting.{finds_first, lent_first, no_objects, refused_first, stops_first}
use Rattle.link_open_plan.proofs.startup.plan_program.Goals as goal

pub returns-in_err-plan-clause-unopened : goal.returns-in_err-plan-clause-unopened
returns-in_err-plan-clause-unopened g c =
    err_as c.from_residual-in_err-plan.result (load_fault c.in_err-plan.field-0.0) (IsUnopened (run_of c.args.setup.now (g.L.Library.files c.args.library.now)) (after []) 0 c.args.ask.now)
    c.from_residual-in_err-plan.ensures.1
    (stops_first c.args.setup.now (g.L.Library.files c.args.library.now) c.args.ask.now c.in_ok-load.load c.args.before.now (g.L.Library.misses c.args.library.now)
    (g.L.Library.misses c.plan_load.new.library) c.in_err-plan.field-0.0 c.requires.first c.requires.ask c.in_ok-load.ensures
    (λ why is. c.in_err-plan.ensures.refused why (ap (λ e. Err e) is)) (λ shown is. c.in_err-plan.ensures.waits shown (ap (λ e. Err e) is)))

pub returns-in_err-plan-clause-alone : goal.returns-in_err-plan-clause-alone
returns-in_err-plan-clause-alone g c =
    all_alone c.never_waits.ensures (run_of c.args.setup.now (g.L.Library.files c.args.library.now)) c.args.ask.now c.from_residual-in_err-plan.result
    (err_as c.from_residual-in_err-plan.result (load_fault c.in_err-plan.field-0.0) (IsUnopened (run_of c.args.setup.now (g.L.Library.files c.args.library.now)) (after []) 0 c.args.ask.now)
    c.from_residual-in_err-plan.ensures.1
    (stops_first c.args.setup.now (g.L.Library.files c.args.library.now) c.args.ask.now c.in_ok-load.load c.args.before.now (g.L.Library.misses c.args.library.now)
    (g.L.Library.misses c.plan_load.new.library) c.in_err-plan.field-0.0 c.requires.first c.requires.ask c.in_ok-load.ensures
    (λ why is. c.in_err-plan.ensures.refused why (ap (λ e. Err e) is)) (λ shown is. c.in_err-plan.ensures.waits shown (ap (λ e. Err e) is))))

pub returns-in_err-plan-clause-counts : goal.returns-in_err-plan-clause-counts
returns-in_err-plan-clause-counts g c =
    counts_as c.from_residual-in_err-plan.result (load_fault c.in_err-plan.field-0.0) (ArePathsAtStart c.args.setup.now.folders c.args.setup.now.program) (g.L.Library.faults c.args.library.now)
    (g.L.Library.faults c.plan_load.new.library) (g.L.Library.misses c.args.library.now) (g.L.Library.misses c.plan_load.new.library) c.from_residual-in_err-plan.ensures.1
    (counts_found (ArePathsAtStart c.args.setup.now.folders c.args.setup.now.program) (g.L.Library.faults c.args.library.now) (g.L.Library.faults c.plan_load.new.library)
    (g.L.Library.misses c.args.library.now) (g.L.Library.misses c.plan_load.new.library) c.in_err-plan.field-0.0
    (λ path is. c.in_err-plan.ensures.read_fault path (ap (λ e. Err e) is))
    (λ name is. missed_at_start c.args.setup.now [] (g.L.Library.misses c.args.library.now) (g.L.Library.misses c.plan_load.new.library) (g.L.Library.files c.args.library.now) name
    (refused_first c.args.setup.now (g.L.Library.files c.args.library.now) c.in_ok-load.load c.args.before.now (g.L.Library.misses c.args.library.now) (g.L.Library.misses c.plan_load.new.library)
    (MissingLibrary name) c.requires.first c.in_ok-load.ensures (c.in_err-plan.ensures.refused (MissingLibrary name) (ap (λ e. Err e) is)))))

pub place_new-requires-clause-there : goal.place_new-requires-clause-there
place_new-requires-clause-there g c = no_objects c.args.before.now c.requires.first

pub place_new-requires-clause-read : goal.place_new-requires-clause-read
place_new-requires-clause-read g c = were_read c.in_ok-load.load c.args.before.now.namespace.now c.in_ok-plan.plan (g.L.Library.files c.args.library.now) c.in_ok-plan.ensures.plan

pub returns-clause-planned : goal.returns-clause-planned
returns-clause-planned g c =
    c.place_new.ensures.planned (run_of c.args.setup.now (g.L.Library.files c.args.library.now)) [] 0 0 c.args.setup.now.program
    (lent_first c.args.setup.now (g.L.Library.files c.args.library.now) c.args.ask.now c.args.harts c.args.before.now c.requires.first c.requires.ask c.requires.harts)
    (finds_first c.args.setup.now (g.L.Library.files c.args.library.now) c.args.ask.now c.in_ok-load.load c.args.before.now c.in_ok-plan.plan c.requires.first c.requires.ask
    c.in_ok-load.ensures c.in_ok-plan.ensures.plan)

pub returns-clause-unopened : goal.returns-clause-unopened
returns-clause-unopened g c =
    c.place_new.ensures.unopened (run_of c.args.setup.now (g.L.Library.files c.args.library.now)) [] 0 0 c.args.setup.now.program
    (lent_first c.args.setup.now (g.L.Library.files c.args.library.now) c.args.ask.now c.args.harts c.args.before.now c.requires.first c.requires.ask c.requires.harts)
    (finds_first c.args.setup.now (g.L.Library.files c.args.library.now) c.args.ask.now c.in_ok-load.load c.args.before.now c.in_ok-plan.plan c.requires.first c.requires.ask
    c.in_ok-load.ensures c.in_ok-plan.ensures.plan)

pub returns-clause-alone : goal.returns-clause-alone
returns-clause-alone g c =
    all_alone c.never_waits.ensures (run_of c.args.setup.now (g.L.Library.files c.args.library.now)) c.args.ask.now c.place_new.result
    (c.place_new.ensures.unopened (run_of c.args.setup.now (g.L.Library.files c.args.library.now)) [] 0 0 c.args.setup.now.program
    (lent_first c.args.setup.now (g.L.Library.files c.args.library.now) c.args.ask.now c.args.harts c.args.before.now c.requires.first c.requires.ask c.requires.harts)
    (finds_first c.args.setup.now (g.L.Library.files c.args.library.now) c.args.ask.now c.in_ok-load.load c.args.before.now c.in_ok-plan.plan c.requires.first c.requires.ask
    c.in_ok-load.ensures c.in_ok-plan.ensures.plan))
