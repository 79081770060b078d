use Rattle.std.proofs.Common.{IfOk, sym, subst}
use Rattle.history_calls.specs.CallLaws.Coming.{IsOver, NeedsNoRead}
use Rattle.history_calls.specs.CallLaws.Counts.{ArePaths, ShowsInCounts}
use Rattle.history_journal.specs.Following.{machine_of}
use Rattle.history_event.specs.declared.event.OpenAsk.{OpenAsk}
use Rattle.history_state.specs.After.{after}
use Rattle.link_calls.specs.LinkOpening.Planned.{IsUnplanned}
use Rattle.history_calls.specs.declared.link_served.served.Served.TheVariants.{Again}
use Rattle.history_calls.specs.Call.{opens}
use Rattle.link_open_plan.specs.Planned.{fault_in}
use Rattle.link_open_plan.specs.declared.planning.Unopened.{Unopened}
use Rattle.link_calls.specs.Opening.{OpensIn}
use Rattle.link_open_plan.specs.Lemmas.Counts.{counts_none}
use Rattle.link_calls.proofs.Opened.{few_known, may_plan, may_refuse_open, not_opened, refused_shows, unrefused_shows, waits_so}
use Rattle.link_calls.proofs.opening.open.Goals as goal

pub plan-requires : goal.plan-requires
plan-requires g c = record { started = c.requires.started; known = few_known c.args.ns _ c.args.flags c.in_ok-ask.ask c.in_ok-ask.ensures }

pub carry_out-requires : goal.carry_out-requires
carry_out-requires g c = record {
  may =
      may_plan c.args.state.now.harts (after c.args.state.now.events) c.args.hart c.in_ok-ask.ask c.in-Ok.plan c.args.folders.now (g.L.Library.files c.args.library.now) c.in-Ok.ensures.planned;
}

pub refuse-requires : goal.refuse-requires
refuse-requires g c =
    may_refuse_open c.args.state.now.harts c.args.state.now.events c.args.hart c.in_ok-ask.ask c.in-Err-Refused.fault c.args.folders.now (g.L.Library.files c.args.library.now)
    (λ w over. subst (IsUnplanned w (after c.args.state.now.events) c.args.hart c.in_ok-ask.ask) c.in-Err-Refused.field-0-is (c.in-Err-Refused.ensures.unplanned w over))

-- ---- what came

pub returns-in-Ok-clause-served : goal.returns-in-Ok-clause-served
returns-in-Ok-clause-served g c =
    subst (λ (a : OpenAsk). IfOk c.carry_out.result (λ came. OpensIn c.args.state.now c.args.folders.now (g.L.Library.files c.args.library.now) c.args.hart (opens a) came c.carry_out.new.state))
    c.in_ok-ask.ensures (c.carry_out.ensures.served c.args.folders.now (g.L.Library.files c.args.library.now) c.in-Ok.ensures.planned)

pub returns-in-Err-Refused-clause-served : goal.returns-in-Err-Refused-clause-served
returns-in-Err-Refused-clause-served g c =
    subst (λ (a : OpenAsk). IfOk c.refuse.result (λ came. OpensIn c.args.state.now c.args.folders.now (g.L.Library.files c.args.library.now) c.args.hart (opens a) came c.refuse.new.state))
    c.in_ok-ask.ensures
    (not_opened c.refuse.result c.args.state.now c.refuse.new.state c.args.folders.now (g.L.Library.files c.args.library.now) c.args.hart c.in_ok-ask.ask c.in-Err-Refused.fault
    (λ w over. subst (IsUnplanned w (after c.args.state.now.events) c.args.hart c.in_ok-ask.ask) c.in-Err-Refused.field-0-is (c.in-Err-Refused.ensures.unplanned w over))
    c.refuse.ensures.served c.refuse.ensures.noted)

pub returns-in-Err-Wait-clause-served : goal.returns-in-Err-Wait-clause-served
returns-in-Err-Wait-clause-served g c =
    subst (λ (a : OpenAsk). OpensIn c.args.state.now c.args.folders.now (g.L.Library.files c.args.library.now) c.args.hart (opens a) (Again c.in-Err-Wait.shown) c.args.state.now)
    c.in_ok-ask.ensures
    (waits_so (IsOver (machine_of c.args.state.now.harts) c.args.folders.now (g.L.Library.files c.args.library.now)) c.args.state.now.events c.args.hart c.in_ok-ask.ask c.in-Err-Wait.shown
    (λ w over. subst (IsUnplanned w (after c.args.state.now.events) c.args.hart c.in_ok-ask.ask) c.in-Err-Wait.field-0-is (c.in-Err-Wait.ensures.unplanned w over)))

-- ---- what the library shows

pub returns-in-Ok-clause-counts : goal.returns-in-Ok-clause-counts
returns-in-Ok-clause-counts g c =
    unrefused_shows c.carry_out.result (ArePaths c.args.folders.now) (g.L.Library.faults c.args.library.now) (g.L.Library.faults c.plan.new.library) (g.L.Library.misses c.args.library.now)
    (g.L.Library.misses c.plan.new.library) c.carry_out.ensures.unrefused

pub returns-in-Err-Refused-clause-counts : goal.returns-in-Err-Refused-clause-counts
returns-in-Err-Refused-clause-counts g c =
    refused_shows c.refuse.result (ArePaths c.args.folders.now) c.in-Err-Refused.fault (g.L.Library.faults c.args.library.now) (g.L.Library.faults c.plan.new.library)
    (g.L.Library.misses c.args.library.now) (g.L.Library.misses c.plan.new.library)
    (subst (λ (why : Unopened). ShowsInCounts (ArePaths c.args.folders.now) (fault_in why) (g.L.Library.faults c.args.library.now) (g.L.Library.faults c.plan.new.library)
    (g.L.Library.misses c.args.library.now) (g.L.Library.misses c.plan.new.library)) c.in-Err-Refused.field-0-is c.in-Err-Refused.ensures.counts)
    c.refuse.ensures.served

pub returns-in-Err-Wait-clause-counts : goal.returns-in-Err-Wait-clause-counts
returns-in-Err-Wait-clause-counts g c =
    counts_none (ArePaths c.args.folders.now) (g.L.Library.faults c.args.library.now) (g.L.Library.faults c.plan.new.library) (g.L.Library.misses c.args.library.now)
    (g.L.Library.misses c.plan.new.library)

pub returns-in-Ok-clause-unread : goal.returns-in-Ok-clause-unread
returns-in-Ok-clause-unread g c = λ needs. c.plan.ensures.unread (subst (NeedsNoRead (after c.args.state.now.events)) (sym c.in_ok-ask.ensures) needs)

pub returns-in-Err-Refused-clause-unread : goal.returns-in-Err-Refused-clause-unread
returns-in-Err-Refused-clause-unread g c = λ needs. c.plan.ensures.unread (subst (NeedsNoRead (after c.args.state.now.events)) (sym c.in_ok-ask.ensures) needs)

pub returns-in-Err-Wait-clause-unread : goal.returns-in-Err-Wait-clause-unread
returns-in-Err-Wait-clause-unread g c = λ needs. c.plan.ensures.unread (subst (NeedsNoRead (after c.args.state.now.events)) (sym c.in_ok-ask.ensures) needs)

pub returns-in-Err-Memory-clause-unread : goal.returns-in-Err-Memory-clause-unread
returns-in-Err-Memory-clause-unread g c = λ needs. c.plan.ensures.unread (subst (NeedsNoRead (after c.args.state.now.events)) (sym c.in_ok-ask.ensures) needs)
