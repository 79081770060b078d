use Rattle.link_keeper.proofs.Passed.{read_has_row, read_mark, took_seat}
use Rattle.link_keeper.proofs.rows.receive.Goals as goal

pub accept-requires-clause-row : goal.accept-requires-clause-row
accept-requires-clause-row g c = read_has_row c.args.seat.now c.read_handed.new.seat c.read_handed.result c.args.keeper.now.events c.read_handed.ensures.seat

pub accept-requires-clause-mark : goal.accept-requires-clause-mark
accept-requires-clause-mark g c = read_mark c.args.seat.now c.read_handed.new.seat c.read_handed.result c.args.keeper.now.events c.args.entry c.read_handed.ensures.seat c.read_handed.ensures.entry c.requires.mark

pub returns-clause-seat : goal.returns-clause-seat
returns-clause-seat g c = took_seat c.args.seat.now c.read_handed.new.seat c.accept.new.seat c.read_handed.result c.accept.result c.args.entry c.args.keeper.now.events
    c.read_handed.ensures.entry c.read_handed.ensures.seat c.accept.ensures.taken c.accept.ensures.entry
