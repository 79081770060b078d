use Rattle.std.proofs.Common.{[], refl, sym, ap, length, ◌∙◌}
use Rattle.history_event.specs.declared.event.Event.TheVariants.{Ended}
use Rattle.link_state.specs.Table.{LinkTable}
use Rattle.link_keeper.proofs.Ended.{end_follows, end_low, end_may, end_next, end_times, end_within, ends}
use Rattle.link_keeper.proofs.Left.{end_behind_settled}
use Rattle.link_keeper.proofs.Shown.{one_more_came}
use Rattle.link_keeper.proofs.ends.end_hart.Goals as goal

pub ended-requires-clause-hart : goal.ended-requires-clause-hart
ended-requires-clause-hart g c = end_within g.J.RunNaming.setting g.J.RunNaming.journal c.attend.new.state c.attend.new.keeper c.id_of-id.result c.attend.ensures.keeps
    (end_low c.harts_fit.ensures.others c.running_is_not_over.ensures.runs c.harts_fit.ensures.may_end g.J.RunNaming.setting g.J.RunNaming.journal c.attend.new.state c.attend.new.keeper c.args.seat.now c.attend.new.seat c.id_of-id.result
    c.attend.ensures.keeps c.requires.heard c.id_of-id.ensures c.requires.run c.attend.ensures.attends)

pub ended-requires-clause-times : goal.ended-requires-clause-times
ended-requires-clause-times g c = end_times c.ends_are_few.ensures g.J.RunNaming.setting g.J.RunNaming.journal c.attend.new.state c.attend.new.keeper c.id_of-id.result c.attend.ensures.keeps
    (end_may c.harts_fit.ensures.others c.running_is_not_over.ensures.runs c.harts_fit.ensures.may_end g.J.RunNaming.setting g.J.RunNaming.journal c.attend.new.state c.attend.new.keeper c.args.seat.now c.attend.new.seat c.id_of-id.result
    c.attend.ensures.keeps c.requires.heard c.id_of-id.ensures c.requires.run c.attend.ensures.attends)

pub ended-requires-clause-may : goal.ended-requires-clause-may
ended-requires-clause-may g c = end_follows c.harts_fit.ensures.others c.running_is_not_over.ensures.runs c.harts_fit.ensures.may_end g.J.RunNaming.setting g.J.RunNaming.journal c.attend.new.state c.attend.new.keeper c.args.seat.now
    c.attend.new.seat c.id_of-id.result c.attend.ensures.keeps c.requires.heard c.id_of-id.ensures c.requires.run c.attend.ensures.attends c.args.reason

pub pass_next-requires-clause-hart : goal.pass_next-requires-clause-hart
pass_next-requires-clause-hart g c = c.id_of-id.ensures ∙ sym c.attend.ensures.attends.number

pub pass_next-requires-clause-index : goal.pass_next-requires-clause-index
pass_next-requires-clause-index g c = ap length (c.as_slice-index.ensures ∙ c.journal.ensures.events ∙ sym c.attend.ensures.keeps.same)

pub pass_next-requires-clause-next : goal.pass_next-requires-clause-next
pass_next-requires-clause-next g c = (
  Ended c.id_of-id.result c.args.reason,
  [],
  end_next c.harts_fit.ensures.others c.running_is_not_over.ensures.runs c.harts_fit.ensures.may_end g.J.RunNaming.setting g.J.RunNaming.journal c.attend.new.state c.attend.new.keeper c.args.seat.now
      c.attend.new.seat c.id_of-id.result c.attend.ensures.keeps c.requires.heard c.id_of-id.ensures c.requires.run c.attend.ensures.attends c.states_stay.ensures.events c.records_stay.ensures.quiet c.args.reason
      c.ended.new.self (ap (λ (t : LinkTable). t.events) c.ended.ensures) (ap (λ (t : LinkTable). t.harts) c.ended.ensures),
)

pub returns-clause-keeps : goal.returns-clause-keeps
returns-clause-keeps g c =
    (ends c.harts_fit.ensures.others c.running_is_not_over.ensures.runs c.harts_fit.ensures.may_end c.states_stay.ensures.events c.records_stay.ensures.quiet g.J.RunNaming.setting g.J.RunNaming.journal c.attend.new.state c.ended.new.self
    c.attend.new.keeper c.pass_next.new.keeper c.args.seat.now c.attend.new.seat c.pass_next.new.seat c.id_of-id.result c.args.reason c.args.hart.now.hart c.stop.new.hart.hart c.attend.ensures.keeps c.requires.heard
    c.id_of-id.ensures c.requires.run (c.number.ensures.lane.idle c.requires.calling) c.attend.ensures.attends c.ended.ensures c.pass_next.ensures.passed c.stop.ensures).keeps

pub returns-clause-turn : goal.returns-clause-turn
returns-clause-turn g c =
    (ends c.harts_fit.ensures.others c.running_is_not_over.ensures.runs c.harts_fit.ensures.may_end c.states_stay.ensures.events c.records_stay.ensures.quiet g.J.RunNaming.setting g.J.RunNaming.journal c.attend.new.state c.ended.new.self
    c.attend.new.keeper c.pass_next.new.keeper c.args.seat.now c.attend.new.seat c.pass_next.new.seat c.id_of-id.result c.args.reason c.args.hart.now.hart c.stop.new.hart.hart c.attend.ensures.keeps c.requires.heard
    c.id_of-id.ensures c.requires.run (c.number.ensures.lane.idle c.requires.calling) c.attend.ensures.attends c.ended.ensures c.pass_next.ensures.passed c.stop.ensures).turn

pub returns-clause-heard : goal.returns-clause-heard
returns-clause-heard g c =
    (ends c.harts_fit.ensures.others c.running_is_not_over.ensures.runs c.harts_fit.ensures.may_end c.states_stay.ensures.events c.records_stay.ensures.quiet g.J.RunNaming.setting g.J.RunNaming.journal c.attend.new.state c.ended.new.self
    c.attend.new.keeper c.pass_next.new.keeper c.args.seat.now c.attend.new.seat c.pass_next.new.seat c.id_of-id.result c.args.reason c.args.hart.now.hart c.stop.new.hart.hart c.attend.ensures.keeps c.requires.heard
    c.id_of-id.ensures c.requires.run (c.number.ensures.lane.idle c.requires.calling) c.attend.ensures.attends c.ended.ensures c.pass_next.ensures.passed c.stop.ensures).heard

pub returns-clause-calling : goal.returns-clause-calling
returns-clause-calling g c =
    (ends c.harts_fit.ensures.others c.running_is_not_over.ensures.runs c.harts_fit.ensures.may_end c.states_stay.ensures.events c.records_stay.ensures.quiet g.J.RunNaming.setting g.J.RunNaming.journal c.attend.new.state c.ended.new.self
    c.attend.new.keeper c.pass_next.new.keeper c.args.seat.now c.attend.new.seat c.pass_next.new.seat c.id_of-id.result c.args.reason c.args.hart.now.hart c.stop.new.hart.hart c.attend.ensures.keeps c.requires.heard
    c.id_of-id.ensures c.requires.run (c.number.ensures.lane.idle c.requires.calling) c.attend.ensures.attends c.ended.ensures c.pass_next.ensures.passed c.stop.ensures).calling

pub returns-clause-blocks : goal.returns-clause-blocks
returns-clause-blocks g c =
    (ends c.harts_fit.ensures.others c.running_is_not_over.ensures.runs c.harts_fit.ensures.may_end c.states_stay.ensures.events c.records_stay.ensures.quiet g.J.RunNaming.setting g.J.RunNaming.journal c.attend.new.state c.ended.new.self
    c.attend.new.keeper c.pass_next.new.keeper c.args.seat.now c.attend.new.seat c.pass_next.new.seat c.id_of-id.result c.args.reason c.args.hart.now.hart c.stop.new.hart.hart c.attend.ensures.keeps c.requires.heard
    c.id_of-id.ensures c.requires.run (c.number.ensures.lane.idle c.requires.calling) c.attend.ensures.attends c.ended.ensures c.pass_next.ensures.passed c.stop.ensures).blocks

pub returns-clause-opened : goal.returns-clause-opened
returns-clause-opened g c = one_more_came c.args.keeper.now.events c.attend.new.keeper.events c.pass_next.new.keeper.events (Ended c.id_of-id.result c.args.reason) c.attend.ensures.settled
    (ends c.harts_fit.ensures.others c.running_is_not_over.ensures.runs c.harts_fit.ensures.may_end c.states_stay.ensures.events c.records_stay.ensures.quiet g.J.RunNaming.setting g.J.RunNaming.journal c.attend.new.state c.ended.new.self
    c.attend.new.keeper c.pass_next.new.keeper c.args.seat.now c.attend.new.seat c.pass_next.new.seat c.id_of-id.result c.args.reason c.args.hart.now.hart c.stop.new.hart.hart c.attend.ensures.keeps c.requires.heard
    c.id_of-id.ensures c.requires.run (c.number.ensures.lane.idle c.requires.calling) c.attend.ensures.attends c.ended.ensures c.pass_next.ensures.passed c.stop.ensures).events refl

pub returns-clause-settled : goal.returns-clause-settled
returns-clause-settled g c = end_behind_settled g.J.RunNaming.setting c.args.seat.now.number c.args.keeper.now c.attend.new.keeper c.pass_next.new.keeper c.attend.new.seat c.pass_next.new.seat c.id_of-id.result
    c.args.reason c.id_of-id.ensures c.attend.ensures.first c.attend.ensures.attends.free
    (end_may c.harts_fit.ensures.others c.running_is_not_over.ensures.runs c.harts_fit.ensures.may_end g.J.RunNaming.setting g.J.RunNaming.journal c.attend.new.state c.attend.new.keeper c.args.seat.now c.attend.new.seat c.id_of-id.result
    c.attend.ensures.keeps c.requires.heard c.id_of-id.ensures c.requires.run c.attend.ensures.attends)
    (c.pass_next.ensures.passed (Ended c.id_of-id.result c.args.reason) [] (end_next c.harts_fit.ensures.others c.running_is_not_over.ensures.runs c.harts_fit.ensures.may_end g.J.RunNaming.setting g.J.RunNaming.journal c.attend.new.state c.attend.new.keeper c.args.seat.now
    c.attend.new.seat c.id_of-id.result c.attend.ensures.keeps c.requires.heard c.id_of-id.ensures c.requires.run c.attend.ensures.attends c.states_stay.ensures.events c.records_stay.ensures.quiet c.args.reason
    c.ended.new.self (ap (λ (t : LinkTable). t.events) c.ended.ensures) (ap (λ (t : LinkTable). t.harts) c.ended.ensures)))
