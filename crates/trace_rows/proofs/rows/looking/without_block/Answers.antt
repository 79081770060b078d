use Rattle.std.proofs.Common.{ℕ, List, refl, subst}
use Rattle.history_journal.specs.Following.{machine_of}
use Rattle.history_state.specs.After.{after}
use Rattle.trace_rows.specs.Blocks.{HasNoRoom, StandsAt}
use Rattle.trace_rows.proofs.Found.{has_segment, not_before, without_room}
use Rattle.trace_rows.proofs.rows.looking.without_block.Goals as goal

pub returns-in_default : goal.returns-in_default
returns-in_default c = λ past x.
    absurd (has_segment (after past) c.args.replay.now c.args.hart c.args.ask.now c.args.serial c.args.index c.args.offset x.state
    (c.symbols_are_stored.ensures (machine_of c.args.replay.now.harts) past (c.accepted_object.ensures.machine (machine_of c.args.replay.now.harts) refl) x.lawful)
    (c.requires.finds past x) (c.requires.none past x) c.in_default.ensures.of)

pub returns-in-Ok : goal.returns-in-Ok
returns-in-Ok c = λ past x.
    not_before (after past) c.args.replay.now c.args.hart c.args.ask.now c.args.serial c.args.index c.args.offset c.in-Ok.field-0 c.in-Some.segment x.state
    (c.symbols_are_stored.ensures (machine_of c.args.replay.now.harts) past (c.accepted_object.ensures.machine (machine_of c.args.replay.now.harts) refl) x.lawful)
    (c.requires.finds past x) (c.requires.none past x) c.in-Some.ensures.of (subst (λ (free : List ℕ). StandsAt free c.in-Some.segment c.in-Ok.field-0) c.regions.ensures c.in-Ok.ensures)

pub returns-in-Err : goal.returns-in-Err
returns-in-Err c = λ past x.
    without_room (after past) c.args.replay.now c.args.hart c.args.ask.now c.args.serial c.args.index c.args.offset c.in-Err.field-0.0 c.in-Some.segment x.state
    (c.symbols_are_stored.ensures (machine_of c.args.replay.now.harts) past (c.accepted_object.ensures.machine (machine_of c.args.replay.now.harts) refl) x.lawful)
    (c.requires.finds past x) (c.requires.none past x) c.in-Some.ensures.of (subst (λ (free : List ℕ). HasNoRoom free c.in-Some.segment c.in-Err.field-0.0) c.regions.ensures c.in-Err.ensures)
