use Rattle.std.proofs.Common.{◌+◌, sym, ap, subst, ◌∙◌}
use Rattle.link_keeper.specs.Handing.{IsPassed}
use Rattle.link_keeper.proofs.Handed.{passes_all_of}
use Rattle.link_keeper.proofs.handing.pass_events.Goals as goal

pub pass_next-requires-clause-may : goal.pass_next-requires-clause-may
pass_next-requires-clause-may g c =
    (passes_all_of c.states_stay.ensures.events c.records_stay.ensures.quiet c.remade_is_kept.ensures.kept g.J.RunNaming.setting g.J.RunNaming.journal c.args.state.now c.args.keeper.now c.remake.new.keeper c.args.seat.now
    c.args.id c.requires.events.0 c.requires.events.1 c.args.change.now c.accepted_object.ensures.machine c.requires.hand c.requires.events.2 c.remake.ensures).may

pub pass_next-requires-clause-next : goal.pass_next-requires-clause-next
pass_next-requires-clause-next g c = (
  c.requires.events.0,
  c.requires.events.1,
  (passes_all_of c.states_stay.ensures.events c.records_stay.ensures.quiet c.remade_is_kept.ensures.kept g.J.RunNaming.setting g.J.RunNaming.journal c.args.state.now c.args.keeper.now c.remake.new.keeper c.args.seat.now
      c.args.id c.requires.events.0 c.requires.events.1 c.args.change.now c.accepted_object.ensures.machine c.requires.hand c.requires.events.2 c.remake.ensures).next,
)

pub pass_rest-requires-clause-first : goal.pass_rest-requires-clause-first
pass_rest-requires-clause-first g c =
    let x = passes_all_of c.states_stay.ensures.events c.records_stay.ensures.quiet c.remade_is_kept.ensures.kept g.J.RunNaming.setting g.J.RunNaming.journal c.args.state.now c.args.keeper.now c.remake.new.keeper c.args.seat.now
    c.args.id c.requires.events.0 c.requires.events.1 c.args.change.now c.accepted_object.ensures.machine c.requires.hand c.requires.events.2 c.remake.ensures in
    ap (λ n. n + 1) c.requires.index ∙ sym (x.more c.pass_next.new.keeper c.pass_next.new.seat (c.pass_next.ensures.passed c.requires.events.0 c.requires.events.1 x.next)).1

pub pass_rest-requires-clause-passing : goal.pass_rest-requires-clause-passing
pass_rest-requires-clause-passing g c =
    let x = passes_all_of c.states_stay.ensures.events c.records_stay.ensures.quiet c.remade_is_kept.ensures.kept g.J.RunNaming.setting g.J.RunNaming.journal c.args.state.now c.args.keeper.now c.remake.new.keeper c.args.seat.now
    c.args.id c.requires.events.0 c.requires.events.1 c.args.change.now c.accepted_object.ensures.machine c.requires.hand c.requires.events.2 c.remake.ensures in
    (x.more c.pass_next.new.keeper c.pass_next.new.seat (c.pass_next.ensures.passed c.requires.events.0 c.requires.events.1 x.next)).0

pub returns-clause-passed : goal.returns-clause-passed
returns-clause-passed g c e rest ev =
    let x = passes_all_of c.states_stay.ensures.events c.records_stay.ensures.quiet c.remade_is_kept.ensures.kept g.J.RunNaming.setting g.J.RunNaming.journal c.args.state.now c.args.keeper.now c.remake.new.keeper c.args.seat.now
    c.args.id e rest c.args.change.now c.accepted_object.ensures.machine c.requires.hand ev c.remake.ensures in
    subst (IsPassed _ _ _ _ _ _ _ _) (sym (c.entry_at-entry.ensures c.args.keeper.now.events e rest ev.ahead (sym c.requires.index) ev.quiet))
    (x.all c.pass_next.new.keeper c.pass_rest.new.keeper c.pass_next.new.seat c.pass_rest.new.seat (c.pass_next.ensures.passed e rest x.next) c.pass_rest.ensures.passing c.pass_rest.ensures.passed)
