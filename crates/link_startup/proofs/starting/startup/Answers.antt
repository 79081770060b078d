use Rattle.std.proofs.Common.{Err, Option, subst}
use Rattle.history_calls.specs.CallLaws.Counts.{FaultsShow}
use Rattle.ld_base.specs.declared.fault.DlFault.{DlFault}
use Rattle.history_calls.specs.declared.link_served.startup.Started.{Started}
use Rattle.link_state.specs.Table.{LinkTable}
use Rattle.link_open_plan.specs.Startup.{run_of}
use Rattle.link_startup.proofs.Fails.{not_started, same_fault, whole_so}
use Rattle.link_startup.proofs.starting.startup.Goals as goal

pub returns-in-Err-clause-whole : goal.returns-in-Err-clause-whole
returns-in-Err-clause-whole g c =
    whole_so {X = LinkTable × Started} c.only_failed_reads_stop.ensures.starts c.args.setup.now (g.L.Library.files c.args.library.now) (g.L.Library.faults c.args.library.now) (g.L.Library.faults c.start.new.library)
    (Err c.failed.result)
    (not_started (run_of c.args.setup.now (g.L.Library.files c.args.library.now)) c.args.setup.now c.start.new.state.events c.in-Err.why c.failed.result c.failed.ensures c.in-Err.ensures.fails)
    (subst (λ (f : Option DlFault). FaultsShow f (g.L.Library.faults c.args.library.now) (g.L.Library.faults c.start.new.library))
    (same_fault c.start.new.state.events c.in-Err.why c.failed.result c.failed.ensures) c.in-Err.ensures.counts.failed)
