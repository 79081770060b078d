use Rattle.std.proofs.Common.{[], refl, sym, ap, length, ◌∙◌}
use Rattle.history_event.specs.declared.event.Event.TheVariants.{Ended}
use Rattle.history_event.specs.declared.hart_end.HartEnd.TheVariants.{Memory}
use Rattle.link_state.specs.Table.{LinkTable}
use Rattle.link_keeper.proofs.Ended.{again_low, again_may, end_times, end_within, ends_again, noted_follows, noted_next}
use Rattle.link_keeper.proofs.Left.{end_behind_settled}
use Rattle.link_keeper.proofs.Shown.{one_more_came}
use Rattle.link_keeper.proofs.beginning.end_again.Goals as goal

pub ended-requires-clause-hart : goal.ended-requires-clause-hart
ended-requires-clause-hart g c = end_within g.J.RunNaming.setting g.J.RunNaming.journal c.attend.new.state c.attend.new.keeper c.id_of-id.result c.attend.ensures.keeps
    (again_low g.J.RunNaming.setting c.id_of-id.result (c.id_of-id.ensures ∙ c.requires.zeroth) c.requires.some)

pub ended-requires-clause-times : goal.ended-requires-clause-times
ended-requires-clause-times g c = end_times c.ends_are_few.ensures g.J.RunNaming.setting g.J.RunNaming.journal c.attend.new.state c.attend.new.keeper c.id_of-id.result c.attend.ensures.keeps
    (again_may g.J.RunNaming.setting g.J.RunNaming.journal c.args.keeper.now c.attend.new.keeper c.args.seat.now c.attend.new.seat c.id_of-id.result c.attend.ensures.settled (c.id_of-id.ensures ∙ c.requires.zeroth) c.requires.over)

pub ended-requires-clause-may : goal.ended-requires-clause-may
ended-requires-clause-may g c =
    let w = g.J.RunNaming.setting in
    let zeroth = c.id_of-id.ensures ∙ c.requires.zeroth in
    noted_follows w g.J.RunNaming.journal c.attend.new.state c.attend.new.keeper c.args.seat.now c.attend.new.seat c.id_of-id.result c.attend.ensures.keeps c.requires.heard c.id_of-id.ensures c.attend.ensures.attends
    (again_may w g.J.RunNaming.journal c.args.keeper.now c.attend.new.keeper c.args.seat.now c.attend.new.seat c.id_of-id.result c.attend.ensures.settled zeroth c.requires.over)
    (again_low w c.id_of-id.result zeroth c.requires.some) (λ _. zeroth) Memory

pub pass_next-requires-clause-hart : goal.pass_next-requires-clause-hart
pass_next-requires-clause-hart g c = c.id_of-id.ensures ∙ sym c.attend.ensures.attends.number

pub pass_next-requires-clause-index : goal.pass_next-requires-clause-index
pass_next-requires-clause-index g c = ap length (c.as_slice-index.ensures ∙ c.journal.ensures.events ∙ sym c.attend.ensures.keeps.same)

pub pass_next-requires-clause-next : goal.pass_next-requires-clause-next
pass_next-requires-clause-next g c =
    let w = g.J.RunNaming.setting in
    let zeroth = c.id_of-id.ensures ∙ c.requires.zeroth in (
      Ended c.id_of-id.result Memory,
      [],
      noted_next w g.J.RunNaming.journal c.attend.new.state c.attend.new.keeper c.args.seat.now c.attend.new.seat c.id_of-id.result c.attend.ensures.keeps c.requires.heard c.id_of-id.ensures c.attend.ensures.attends
          (again_may w g.J.RunNaming.journal c.args.keeper.now c.attend.new.keeper c.args.seat.now c.attend.new.seat c.id_of-id.result c.attend.ensures.settled zeroth c.requires.over)
          (again_low w c.id_of-id.result zeroth c.requires.some) (λ _. zeroth) c.states_stay.ensures.events c.records_stay.ensures.quiet Memory c.ended.new.self
          (ap (λ (t : LinkTable). t.events) c.ended.ensures) (ap (λ (t : LinkTable). t.harts) c.ended.ensures),
    )

pub returns-clause-keeps : goal.returns-clause-keeps
returns-clause-keeps g c =
    (ends_again c.states_stay.ensures.events c.records_stay.ensures.quiet g.J.RunNaming.setting g.J.RunNaming.journal c.attend.new.state c.ended.new.self c.args.keeper.now c.attend.new.keeper c.pass_next.new.keeper
    c.args.seat.now c.attend.new.seat c.pass_next.new.seat c.id_of-id.result c.attend.ensures.keeps c.requires.heard c.id_of-id.ensures (c.id_of-id.ensures ∙ c.requires.zeroth) c.requires.some c.requires.over
    c.attend.ensures.settled (c.number.ensures.lane.idle c.requires.calling) c.attend.ensures.attends c.ended.ensures c.pass_next.ensures.passed).keeps

pub returns-clause-again : goal.returns-clause-again
returns-clause-again g c =
    (ends_again c.states_stay.ensures.events c.records_stay.ensures.quiet g.J.RunNaming.setting g.J.RunNaming.journal c.attend.new.state c.ended.new.self c.args.keeper.now c.attend.new.keeper c.pass_next.new.keeper
    c.args.seat.now c.attend.new.seat c.pass_next.new.seat c.id_of-id.result c.attend.ensures.keeps c.requires.heard c.id_of-id.ensures (c.id_of-id.ensures ∙ c.requires.zeroth) c.requires.some c.requires.over
    c.attend.ensures.settled (c.number.ensures.lane.idle c.requires.calling) c.attend.ensures.attends c.ended.ensures c.pass_next.ensures.passed).again

pub returns-clause-opened : goal.returns-clause-opened
returns-clause-opened g c = one_more_came c.args.keeper.now.events c.attend.new.keeper.events c.pass_next.new.keeper.events (Ended c.id_of-id.result Memory) c.attend.ensures.settled
    (ends_again c.states_stay.ensures.events c.records_stay.ensures.quiet g.J.RunNaming.setting g.J.RunNaming.journal c.attend.new.state c.ended.new.self c.args.keeper.now c.attend.new.keeper c.pass_next.new.keeper
    c.args.seat.now c.attend.new.seat c.pass_next.new.seat c.id_of-id.result c.attend.ensures.keeps c.requires.heard c.id_of-id.ensures (c.id_of-id.ensures ∙ c.requires.zeroth) c.requires.some c.requires.over
    c.attend.ensures.settled (c.number.ensures.lane.idle c.requires.calling) c.attend.ensures.attends c.ended.ensures c.pass_next.ensures.passed).events refl

pub returns-clause-settled : goal.returns-clause-settled
returns-clause-settled g c =
    let w = g.J.RunNaming.setting in
    let zeroth = c.id_of-id.ensures ∙ c.requires.zeroth in
    let may = again_may w g.J.RunNaming.journal c.args.keeper.now c.attend.new.keeper c.args.seat.now c.attend.new.seat c.id_of-id.result c.attend.ensures.settled zeroth c.requires.over in
    let next = noted_next w g.J.RunNaming.journal c.attend.new.state c.attend.new.keeper c.args.seat.now c.attend.new.seat c.id_of-id.result c.attend.ensures.keeps c.requires.heard c.id_of-id.ensures c.attend.ensures.attends
    may
    (again_low w c.id_of-id.result zeroth c.requires.some) (λ _. zeroth) c.states_stay.ensures.events c.records_stay.ensures.quiet Memory c.ended.new.self
    (ap (λ (t : LinkTable). t.events) c.ended.ensures) (ap (λ (t : LinkTable). t.harts) c.ended.ensures) in
    end_behind_settled w c.args.seat.now.number c.args.keeper.now c.attend.new.keeper c.pass_next.new.keeper c.attend.new.seat c.pass_next.new.seat c.id_of-id.result Memory
    c.id_of-id.ensures c.attend.ensures.first c.attend.ensures.attends.free may
    (c.pass_next.ensures.passed (Ended c.id_of-id.result Memory) [] next)
