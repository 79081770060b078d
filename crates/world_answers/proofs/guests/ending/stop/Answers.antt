use Rattle.std.proofs.Common.{get_or}
use Rattle.hart_seat.specs.Table.{HartTable}
use Rattle.hart_moves.specs.Moves.{ended}
use Rattle.world_answers.specs.GuestsPart.Lemmas.Places.{read_at, written_at}
use Rattle.world_answers.proofs.guests.ending.stop.Goals as goal

pub returns : goal.returns
returns c =
    let hart : HartTable = get_or c.args.harts.now c.number.result c.index-harts-number.result in
    record {
      before = hart.hart;
      there = read_at c.args.harts.now c.number.result c.args.id c.index-harts-number.result c.number.ensures c.requires;
      left = written_at c.args.harts.now c.number.result c.args.id c.stop.new.self (ended c.args.reason.now hart.hart) c.number.ensures c.stop.ensures;
    }
