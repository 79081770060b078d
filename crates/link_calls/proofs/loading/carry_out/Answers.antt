use Rattle.std.proofs.Common.{◌≡◌, ℕ, [], IfOk, OnOk, sym, subst}
use Rattle.history_calls.specs.CallLaws.Coming.{IsOver}
use Rattle.history_journal.specs.Following.{MayFollow, machine_of}
use Rattle.history_event.specs.declared.event.Event.TheVariants.{Open}
use Rattle.history_event.specs.declared.event.OpenAnswer.{OpenAnswer}
use Rattle.history_state.specs.After.{after}
use Rattle.history_state.specs.Step.{binds, seen_after}
use Rattle.link_calls.specs.LinkOpening.Planned.{IsPlanIn}
use Rattle.history_calls.specs.declared.link_served.served.Served.TheVariants.{Done as Returns}
use Rattle.link_state.specs.Opening.{AreChosen}
use Rattle.link_state.specs.Table.{appended}
use Rattle.link_calls.specs.Opening.{MayPlan}
use Rattle.link_calls.proofs.Opened.{absent_if, may_be_absent, may_be_there, none_choose, returned, there_if}
use Rattle.link_calls.proofs.loading.carry_out.Goals as goal

pub note-requires-clause-may : goal.note-requires-clause-may
note-requires-clause-may c =
    may_be_absent c.args.state.now.harts c.args.state.now.events c.args.hart c.args.ask c.args.plan.ns
    (subst (MayPlan c.args.state.now.harts (after c.args.state.now.events) c.args.hart c.args.ask c.args.plan.ns) c.in-Absent.is c.requires.may)

pub note-requires-in-There-clause-may : goal.note-requires-in-There-clause-may
note-requires-in-There-clause-may c =
    subst (λ (a : OpenAnswer). MayFollow c.args.state.now.harts c.args.state.now.events (Open c.args.hart c.args.ask a)) (sym c.there-answer.ensures)
    (may_be_there c.args.state.now.harts c.args.state.now.events c.args.hart c.args.ask c.args.plan.ns c.in-There.root
    (subst (MayPlan c.args.state.now.harts (after c.args.state.now.events) c.args.hart c.args.ask c.args.plan.ns) c.in-There.is c.requires.may))

pub note-requires-in-There-clause-chosen : goal.note-requires-in-There-clause-chosen
note-requires-in-There-clause-chosen c =
    subst (AreChosen (after c.args.state.now.events) c.args.ask []) (sym c.there-answer.ensures)
    (none_choose (seen_after (after c.args.state.now.events) c.args.ask c.args.plan.ns c.in-There.root []) (binds (after c.args.state.now.events) c.args.ask))

pub returns-in-Absent-clause-served : goal.returns-in-Absent-clause-served
returns-in-Absent-clause-served c = λ folders files planned.
    absent_if c.note.result c.args.state.now c.note.new.state (IsOver (machine_of c.args.state.now.harts) folders files) c.args.hart c.args.ask c.note.ensures.served c.note.ensures.noted
    (λ w over. subst (IsPlanIn w (after c.args.state.now.events) c.args.hart c.args.ask c.args.plan.ns) c.in-Absent.is (planned w over))

pub returns-in-Absent-clause-unrefused : goal.returns-in-Absent-clause-unrefused
returns-in-Absent-clause-unrefused c = returned c.note.result 0 c.note.ensures.served

pub returns-in-There-clause-served : goal.returns-in-There-clause-served
returns-in-There-clause-served c = λ folders files planned.
    there_if c.note-in-There.result c.args.state.now c.note-in-There.new.state (IsOver (machine_of c.args.state.now.harts) folders files) c.args.hart c.args.plan.ns c.in-There.root c.args.ask
    (subst (λ (n : ℕ). IfOk c.note-in-There.result (λ came. came ≡ Returns n)) c.number.ensures c.note-in-There.ensures.served)
    (subst (λ (a : OpenAnswer). OnOk c.note-in-There.result (c.note-in-There.new.state ≡ appended c.args.state.now (Open c.args.hart c.args.ask a))) c.there-answer.ensures c.note-in-There.ensures.noted)
    (λ w over. subst (IsPlanIn w (after c.args.state.now.events) c.args.hart c.args.ask c.args.plan.ns) c.in-There.is (planned w over))

pub returns-in-There-clause-unrefused : goal.returns-in-There-clause-unrefused
returns-in-There-clause-unrefused c = returned c.note-in-There.result c.number.result c.note-in-There.ensures.served

pub load-requires : goal.load-requires
load-requires c = record { may = subst (MayPlan c.args.state.now.harts (after c.args.state.now.events) c.args.hart c.args.ask c.args.plan.ns) c.in-New.is c.requires.may }

pub returns-in-New-clause-served : goal.returns-in-New-clause-served
returns-in-New-clause-served c = λ folders files planned.
    c.load.ensures.served folders files (λ w over. subst (IsPlanIn w (after c.args.state.now.events) c.args.hart c.args.ask c.args.plan.ns) c.in-New.is (planned w over))
