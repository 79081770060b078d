use Rattle.std.proofs.Common.{◌≡◌, ℕ, ◌<◌, true, sym, ap, subst, ◌∙◌}
use Rattle.history_state.specs.Setting.{Machine}
use Rattle.word_rule.specs.declared.view.HartView.{HartView}
use Rattle.word_rule.specs.declared.view.KeeperView.{KeeperView}
use Rattle.word_rule.specs.KeeperSteps.{awaited_if}
use Rattle.word_rule.specs.Views.{known_of, row_of}
use Rattle.link_keeper.proofs.Attended.{attends, awaited_state, nobodys_came}
use Rattle.link_keeper.proofs.Left.{settled_first}
use Rattle.link_keeper.proofs.Settled.{none_open}
use Rattle.link_keeper.proofs.attending.attend.Goals as goal

pub begin-requires-clause-step : goal.begin-requires-clause-step
begin-requires-clause-step g c = ap (λ (h : HartView). known_of h.lane) c.tell.ensures.heard ∙ c.tell.ensures.issued
    ∙ ap (λ (n : ℕ). (row_of c.args.keeper.now n).issued) (sym (ap (λ (h : HartView). h.number) c.tell.ensures.heard))
    ∙ ap (λ (k : KeeperView). (row_of k c.tell.new.seat.number).issued) (sym c.tell.ensures.keeper)

pub settle_all-requires : goal.settle_all-requires
settle_all-requires g c = awaited_state c.records_stay.ensures.alike c.records_stay.ensures.awaited g.J.RunNaming.setting g.J.RunNaming.journal c.args.state.now c.args.keeper.now c.begin.new.keeper c.args.id
    (subst (λ n. n < 16) (c.number.ensures.number ∙ sym c.requires.id) c.number.ensures.low) c.requires.keeps
    (c.begin.ensures.keeper ∙ ap (λ (k : KeeperView). awaited_if c.args.id true k) c.tell.ensures.keeper)

pub returns-clause-attends : goal.returns-clause-attends
returns-clause-attends g c = attends c.entries_are_events.ensures.tail g.J.RunNaming.setting g.J.RunNaming.journal c.args.keeper.now c.begin.new.keeper c.settle_all.new.keeper c.args.seat.now c.tell.new.seat c.begin.new.seat c.args.id
    c.requires.keeps.view c.requires.heard (c.number.ensures.lane.idle c.requires.calling) c.requires.id
    (subst (λ n. n < 16) (c.number.ensures.number ∙ sym c.requires.id) c.number.ensures.low)
    (c.begin.ensures.keeper ∙ ap (λ (k : KeeperView). awaited_if c.args.id true k) c.tell.ensures.keeper)
    c.tell.ensures.heard c.tell.ensures.begun c.tell.ensures.issued c.begin.ensures.seat c.begin.ensures.calling c.begin.ensures.step c.settle_all.ensures.settled c.tell.ensures.readings
    (none_open g.J.RunNaming.setting g.J.RunNaming.journal c.settle_all.new.state c.settle_all.new.keeper c.settle_all.ensures.keeps
    (c.accepted_object.ensures.machine g.J.RunNaming.setting.machine (ap (λ (m : Machine). m.verdict) c.settle_all.ensures.keeps.machine)) c.slots_stand.ensures.granted c.args.id)

pub returns-clause-settled : goal.returns-clause-settled
returns-clause-settled g c = nobodys_came c.args.keeper.now c.begin.new.keeper c.settle_all.new.keeper c.args.id
    (c.begin.ensures.keeper ∙ ap (λ (k : KeeperView). awaited_if c.args.id true k) c.tell.ensures.keeper) c.settle_all.ensures.settled

pub returns-clause-first : goal.returns-clause-first
returns-clause-first g c = settled_first c.args.seat.now.number c.args.keeper.now c.begin.new.keeper c.settle_all.new.keeper
    (subst (λ n. c.begin.new.keeper ≡ awaited_if n true c.args.keeper.now) c.requires.id
    (c.begin.ensures.keeper ∙ ap (λ (k : KeeperView). awaited_if c.args.id true k) c.tell.ensures.keeper)) c.settle_all.ensures.settled
    (none_open g.J.RunNaming.setting g.J.RunNaming.journal c.settle_all.new.state c.settle_all.new.keeper c.settle_all.ensures.keeps
    (c.accepted_object.ensures.machine g.J.RunNaming.setting.machine (ap (λ (m : Machine). m.verdict) c.settle_all.ensures.keeps.machine)) c.slots_stand.ensures.granted)
