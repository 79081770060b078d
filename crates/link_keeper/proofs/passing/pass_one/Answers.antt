use Rattle.std.proofs.Common.{◌<◌, length, sym, subst, ap, ◌∙◌}
use Rattle.word_rule.specs.declared.view.HartView.{HartView}
use Rattle.word_rule.specs.declared.view.KeeperView.{KeeperView}
use Rattle.link_keeper.specs.Passing.{MayPass}
use Rattle.link_keeper.proofs.Passed.{awaits_pass}
use Rattle.link_keeper.proofs.Rest.{left_some, one_next, one_passed, one_passes}
use Rattle.link_keeper.proofs.passing.pass_one.Goals as goal

pub pass_next-requires-clause-hart : goal.pass_next-requires-clause-hart
pass_next-requires-clause-hart g c = c.requires.passing.number ∙ sym (ap (λ (h : HartView). h.number) c.begin.ensures.seat)

pub pass_next-requires-clause-index : goal.pass_next-requires-clause-index
pass_next-requires-clause-index g c = c.requires.index ∙ ap (λ (k : KeeperView). length k.events) (sym c.begin.ensures.keeper)

pub pass_next-requires-clause-may : goal.pass_next-requires-clause-may
pass_next-requires-clause-may g c = subst (λ (k : KeeperView). MayPass k c.args.id) (sym c.begin.ensures.keeper)
    (awaits_pass c.args.keeper.now c.args.id c.requires.passing.view.kept.long (subst (λ n. n < 16) (c.number.ensures.number ∙ sym c.requires.passing.number) c.number.ensures.low) c.requires.passing.settled)

pub pass_next-requires-clause-next : goal.pass_next-requires-clause-next
pass_next-requires-clause-next g c =
    let at = left_some g.J.RunNaming.setting g.J.RunNaming.journal c.args.state.now c.args.keeper.now c.args.seat.now c.args.id c.args.index c.requires.passing c.requires.index c.requires.left in (
      at.0,
      at.1,
      one_next c.states_stay.ensures.events c.records_stay.ensures.alike c.records_stay.ensures.awaited c.records_stay.ensures.quiet g.J.RunNaming.setting g.J.RunNaming.journal c.args.state.now c.args.keeper.now
          c.args.seat.now c.args.id c.requires.passing (c.number.ensures.lane.idle c.requires.passing.idle) c.begin.new.keeper c.begin.new.seat c.begin.ensures.keeper c.begin.ensures.seat at.0 at.1 at.2,
    )

pub returns-clause-passing : goal.returns-clause-passing
returns-clause-passing g c =
    let at = left_some g.J.RunNaming.setting g.J.RunNaming.journal c.args.state.now c.args.keeper.now c.args.seat.now c.args.id c.args.index c.requires.passing c.requires.index c.requires.left in
    let next = one_next c.states_stay.ensures.events c.records_stay.ensures.alike c.records_stay.ensures.awaited c.records_stay.ensures.quiet g.J.RunNaming.setting g.J.RunNaming.journal c.args.state.now c.args.keeper.now
    c.args.seat.now c.args.id c.requires.passing (c.number.ensures.lane.idle c.requires.passing.idle) c.begin.new.keeper c.begin.new.seat c.begin.ensures.keeper c.begin.ensures.seat at.0 at.1 at.2 in
    one_passes c.states_stay.ensures.events c.records_stay.ensures.alike c.records_stay.ensures.awaited c.records_stay.ensures.quiet g.J.RunNaming.setting g.J.RunNaming.journal c.args.state.now c.args.keeper.now
    c.args.seat.now c.args.id c.requires.passing (c.number.ensures.lane.idle c.requires.passing.idle) c.begin.new.keeper c.begin.new.seat c.begin.ensures.keeper c.begin.ensures.seat
    c.pass_next.new.keeper c.pass_next.new.seat at.0 at.1 at.2 (c.pass_next.ensures.passed at.0 at.1 next)

pub returns-clause-passed : goal.returns-clause-passed
returns-clause-passed g c e rest are =
    let next = one_next c.states_stay.ensures.events c.records_stay.ensures.alike c.records_stay.ensures.awaited c.records_stay.ensures.quiet g.J.RunNaming.setting g.J.RunNaming.journal c.args.state.now c.args.keeper.now
    c.args.seat.now c.args.id c.requires.passing (c.number.ensures.lane.idle c.requires.passing.idle) c.begin.new.keeper c.begin.new.seat c.begin.ensures.keeper c.begin.ensures.seat e rest are in
    one_passed c.states_stay.ensures.events c.records_stay.ensures.alike c.records_stay.ensures.awaited c.records_stay.ensures.quiet g.J.RunNaming.setting g.J.RunNaming.journal c.args.state.now c.args.keeper.now
    c.args.seat.now c.args.id c.requires.passing (c.number.ensures.lane.idle c.requires.passing.idle) c.begin.new.keeper c.begin.new.seat c.begin.ensures.keeper c.begin.ensures.seat
    c.pass_next.new.keeper c.pass_next.new.seat e rest are (c.pass_next.ensures.passed e rest next)
