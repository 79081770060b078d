use Rattle.std.proofs.Common.{get_or, sym, subst}
use Rattle.std.specs.Prelude.{slice_set}
use Rattle.world_answers.specs.GuestsPart.GuestWorlds.Worlds.{world_of}
use Rattle.world_answers.specs.GuestsPart.Next.{NeverWaits}
use Rattle.world_answers.proofs.GuestsPart.Carried.{came_out, carried_out, count_is, never_by, ready}
use Rattle.world_answers.proofs.guests.carrying.carry_out.Goals as goal

pub settle_first-requires : goal.settle_first-requires
settle_first-requires c =
    (c.guests_may_turn.ensures.settles c.args.state.now.harts c.requires.run.1.0 c.requires.run.1.1 (world_of c.args.state.now c.requires.run.0 c.args.harts.now) c.requires.run.1.2).may

pub carry_out-requires-clause-planned : goal.carry_out-requires-clause-planned
carry_out-requires-clause-planned c =
    (ready c.guests_may_turn.ensures.settles c.guests_may_turn.ensures.finals c.freed_harts_move.ensures.due c.settling_keeps_finals.ensures.plans c.args.state.now c.settle_first.new.state
    c.args.harts.now c.settle_first.new.harts c.number-index.result c.args.id c.args.plan c.index-harts-index.result c.requires.run c.requires.last (c.settle_first.ensures c.args.id)
    c.requires.planned c.requires.room c.number-index.ensures c.requires.hart).planned

pub carry_out-requires-clause-may : goal.carry_out-requires-clause-may
carry_out-requires-clause-may c =
    (ready c.guests_may_turn.ensures.settles c.guests_may_turn.ensures.finals c.freed_harts_move.ensures.due c.settling_keeps_finals.ensures.plans c.args.state.now c.settle_first.new.state
    c.args.harts.now c.settle_first.new.harts c.number-index.result c.args.id c.args.plan c.index-harts-index.result c.requires.run c.requires.last (c.settle_first.ensures c.args.id)
    c.requires.planned c.requires.room c.number-index.ensures c.requires.hart).may_in

pub carry_out-requires-clause-fuel : goal.carry_out-requires-clause-fuel
carry_out-requires-clause-fuel c =
    (ready c.guests_may_turn.ensures.settles c.guests_may_turn.ensures.finals c.freed_harts_move.ensures.due c.settling_keeps_finals.ensures.plans c.args.state.now c.settle_first.new.state
    c.args.harts.now c.settle_first.new.harts c.number-index.result c.args.id c.args.plan c.index-harts-index.result c.requires.run c.requires.last (c.settle_first.ensures c.args.id)
    c.requires.planned c.requires.room c.number-index.ensures c.requires.hart).fuel

pub carry_out-requires-clause-room : goal.carry_out-requires-clause-room
carry_out-requires-clause-room c =
    (ready c.guests_may_turn.ensures.settles c.guests_may_turn.ensures.finals c.freed_harts_move.ensures.due c.settling_keeps_finals.ensures.plans c.args.state.now c.settle_first.new.state
    c.args.harts.now c.settle_first.new.harts c.number-index.result c.args.id c.args.plan c.index-harts-index.result c.requires.run c.requires.last (c.settle_first.ensures c.args.id)
    c.requires.planned c.requires.room c.number-index.ensures c.requires.hart).room

pub returns-clause-turn : goal.returns-clause-turn
returns-clause-turn c = λ words w on.
    let ready = (ready c.guests_may_turn.ensures.settles c.guests_may_turn.ensures.finals c.freed_harts_move.ensures.due c.settling_keeps_finals.ensures.plans c.args.state.now c.settle_first.new.state
    c.args.harts.now c.settle_first.new.harts c.number-index.result c.args.id c.args.plan c.index-harts-index.result c.requires.run c.requires.last (c.settle_first.ensures c.args.id)
    c.requires.planned c.requires.room c.number-index.ensures c.requires.hart) in
    carried_out c.guests_may_turn.ensures.settles c.guests_may_turn.ensures.finals c.freed_harts_move.ensures.due c.settling_keeps_finals.ensures.plans c.args.state.now c.settle_first.new.state
    c.args.harts.now c.settle_first.new.harts c.number-index.result c.args.id c.args.plan c.index-harts-index.result c.requires.run c.requires.last (c.settle_first.ensures c.args.id)
    c.others_leave_memory.ensures.leave c.others_leave_memory.ensures.all_stay w c.carry_out.new.state words c.carry_out.new.hart
    (c.carry_out.ensures.turn w c.requires.last.hart (ready.may w on) ready.is) c.carry_out.ensures.events c.number-index.ensures

pub returns-clause-comes : goal.returns-clause-comes
returns-clause-comes c = λ words.
    came_out c.guests_may_turn.ensures.settles c.guests_may_turn.ensures.finals c.freed_harts_move.ensures.due c.settling_keeps_finals.ensures.plans c.args.state.now c.settle_first.new.state
    c.args.harts.now c.settle_first.new.harts c.number-index.result c.args.id c.args.plan c.index-harts-index.result c.requires.run c.requires.last (c.settle_first.ensures c.args.id)
    c.carry_out.new.state words c.carry_out.new.hart c.index-harts-index-2.result c.turn_of.result c.number-index.ensures c.requires.hart c.turn_of.ensures

pub returns-clause-count : goal.returns-clause-count
returns-clause-count c =
    count_is c.guests_may_turn.ensures.settles c.guests_may_turn.ensures.finals c.freed_harts_move.ensures.due c.settling_keeps_finals.ensures.plans c.args.state.now c.settle_first.new.state
    c.args.harts.now c.settle_first.new.harts c.number-index.result c.args.id c.args.plan c.index-harts-index.result c.requires.run c.requires.last (c.settle_first.ensures c.args.id)
    c.carry_out.new.state c.carry_out.ensures.events

pub returns-clause-no_wait : goal.returns-clause-no_wait
returns-clause-no_wait c =
    subst NeverWaits (sym c.turn_of.ensures)
    (never_by (get_or (slice_set c.settle_first.new.harts c.number-index.result c.carry_out.new.hart) c.number-index.result c.index-harts-index-2.result).hart.«end»)
