use Rattle.std.proofs.Common.{[], sym, subst}
use Rattle.ld_base.specs.declared.fault.DlFault.{DlFault}
use Rattle.history_state.specs.After.{after}
use Rattle.history_calls.specs.Startup.{FailsToStart}
use Rattle.link_open_plan.specs.Planned.{IsUnopened}
use Rattle.link_open_plan.specs.Startup.{run_of}
use Rattle.link_open_plan.specs.declared.planning.Unopened.{Unopened}
use Rattle.link_startup.proofs.Fails.{refused_so}
use Rattle.link_startup.proofs.starting.start.Goals as goal

pub returns-in_ok-noted-in-Err-Refused-clause-fails : goal.returns-in_ok-noted-in-Err-Refused-clause-fails
returns-in_ok-noted-in-Err-Refused-clause-fails g c =
    subst (λ (f : DlFault). FailsToStart (run_of c.args.setup.now (g.L.Library.files c.args.library.now)) c.args.setup.now f c.refuse_program.new.state.events)
    (sym c.in_ok-noted-in-Err-Refused.ensures.same)
    (refused_so c.args.setup.now (g.L.Library.files c.args.library.now) c.in_ok-ask.ask c.args.state.now c.refuse_program.new.state c.in-Err-Refused.fault c.requires.first c.in_ok-ask.ensures
    (subst (λ (why : Unopened). IsUnopened (run_of c.args.setup.now (g.L.Library.files c.args.library.now)) (after []) 0 c.in_ok-ask.ask why) c.in-Err-Refused.field-0-is
    c.in-Err-Refused.ensures.unopened)
    c.in_ok-noted-in-Err-Refused.ensures.noted)
