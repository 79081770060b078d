use Rattle.std.proofs.Common.{Option, List, sym, subst}
use Rattle.std.proofs.lemmas.Result.{err_from_is_err_and}
use Rattle.history_calls.specs.CallLaws.Coming.{IsOver}
use Rattle.history_calls.specs.CallLaws.Counts.{ArePaths}
use Rattle.history_journal.specs.Following.{machine_of}
use Rattle.ld_base.specs.declared.linking.File.{File}
use Rattle.history_state.specs.After.{after}
use Rattle.link_open_plan.specs.Lemmas.Counts.{counts_without}
use Rattle.link_open_plan.specs.declared.planning.Unopened.TheVariants.{Refused}
use Rattle.link_calls.proofs.LinkOpening.Judged.{asking_needs_none, reads_none, refused_asking}
use Rattle.link_calls.proofs.LinkOpening.Whole.{has_plan}
use Rattle.link_calls.proofs.link_opening.planning.plan.Goals as goal

pub returns-in_err-ns-clause-whole : goal.returns-in_err-ns-clause-whole
returns-in_err-ns-clause-whole g c = λ w files id root added ranges told over may none_fails.
    let p = err_from_is_err_and c.from_residual.result c.from_residual.ensures.1 in
    rw (p.1, p.2)
    (has_plan c.only_failed_reads_stop.ensures.opens (machine_of c.args.state.now.harts) c.args.folders.now files c.args.state.now.events c.args.hart c.args.ask.now (ArePaths c.args.folders.now)
    (g.L.Library.faults c.args.library.now) (g.L.Library.faults c.args.library.now) (g.L.Library.misses c.args.library.now) (g.L.Library.misses c.args.library.now) none_fails
    (Refused c.in_err-ns.field-0.0)
    (λ v above. refused_asking c.refused_by_asking.ensures v (after c.args.state.now.events) c.args.hart c.args.ask.now c.in_err-ns.field-0.0 c.requires.started c.in_err-ns.ensures.refused c.requires.known)
    (counts_without (ArePaths c.args.folders.now) (g.L.Library.faults c.args.library.now) (g.L.Library.faults c.args.library.now) (g.L.Library.misses c.args.library.now)
    (g.L.Library.misses c.args.library.now) (Refused c.in_err-ns.field-0.0) (asking_needs_none (after c.args.state.now.events) c.args.ask.now c.in_err-ns.field-0.0 c.in_err-ns.ensures.refused))
    w id root added ranges over may)

pub returns-in_err-planned-in-Some-clause-unplanned : goal.returns-in_err-planned-in-Some-clause-unplanned
returns-in_err-planned-in-Some-clause-unplanned g c = λ w over.
    let p = err_from_is_err_and c.from_residual-in_err-planned-in-Some.result c.from_residual-in_err-planned-in-Some.ensures.1 in
    rw (p.1, p.2) (c.in_err-planned-in-Some.ensures.unplanned w over)

pub returns-in_err-planned-in-Some-clause-whole : goal.returns-in_err-planned-in-Some-clause-whole
returns-in_err-planned-in-Some-clause-whole g c = λ w files id root added ranges told over may none_fails.
    let p = err_from_is_err_and c.from_residual-in_err-planned-in-Some.result c.from_residual-in_err-planned-in-Some.ensures.1 in
    rw (p.1, p.2)
    (has_plan c.only_failed_reads_stop.ensures.opens (machine_of c.args.state.now.harts) c.args.folders.now files c.args.state.now.events c.args.hart c.args.ask.now (ArePaths c.args.folders.now)
    (g.L.Library.faults c.args.library.now) (g.L.Library.faults c.plan_in.new.library) (g.L.Library.misses c.args.library.now) (g.L.Library.misses c.plan_in.new.library) none_fails
    c.in_err-planned-in-Some.field-0.0
    (λ v above. c.in_err-planned-in-Some.ensures.unplanned v
    (subst (λ (fs : Option (List File)). IsOver (machine_of c.args.state.now.harts) c.args.folders.now fs v) (sym told) above)) c.in_err-planned-in-Some.ensures.counts
    w id root added ranges over may)

pub returns-in_err-planned-in-Some-clause-unread : goal.returns-in_err-planned-in-Some-clause-unread
returns-in_err-planned-in-Some-clause-unread g c = λ needs.
    c.in_err-planned-in-Some.ensures.unread (reads_none (after c.args.state.now.events) c.args.ask.now c.in_ok-ns.ns c.in-Some.name c.in_ok-ns.ensures.asked c.in-Some.is needs)
