use Rattle.std.proofs.Common.{◌<◌, length, arith}
use Rattle.std.proofs.lemmas.Iterator.Adapters.{YieldsList-from_vec}
use Rattle.std.proofs.lemmas.Iterator.Consumers.{YieldsList-turn}
use Rattle.link_open_images.proofs.opening_steps.parts.keep_all.Goals as goal

pub push-requires : goal.push-requires
push-requires c =
    let turn = YieldsList-turn (YieldsList-from_vec c.args.parts.items (cc) (cc)) c.loop-part.yielded c.loop-part.part-iterator c.loop-part.yielded_by c.next.result c.next.new.self c.in-Some.part
    c.in-Some.is c.next.ensures.steps in
    let fewer : length c.loop-part.yielded < length c.args.parts.items = turn.0 in
    omega (arith, fewer, c.loop-part.invariant.room, c.requires)
