use Rattle.std.proofs.Common.{◌<◌, length, arith}
use Rattle.std.proofs.lemmas.Iterator.Adapters.{YieldsList-from_vec}
use Rattle.std.proofs.lemmas.Iterator.Consumers.{YieldsList-turn}
use Rattle.world_threads.proofs.run.seats_of.Goals as goal

pub push_reserved-requires : goal.push_reserved-requires
push_reserved-requires g c =
    let turn = YieldsList-turn (YieldsList-from_vec c.args.runs.items (cc) (cc)) c.loop-run.yielded c.loop-run.run-iterator c.loop-run.yielded_by c.next.result c.next.new.self c.in-Some.run'
    c.in-Some.is c.next.ensures.steps in
    let low : length c.loop-run.yielded < length c.args.runs.items = turn.0 in
    omega (arith, low, c.requires.room, c.loop-run.invariant.long, c.loop-run.invariant.room)
