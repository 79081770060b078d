use Rattle.std.proofs.Common.{Some, None, arith}
use Rattle.link_startup.proofs.StartParts.Seeing.{has_room, tp_is}
use Rattle.link_startup.proofs.start_parts.entries.tp_of.Goals as goal

pub overflow_add-result : goal.overflow_add-result
overflow_add-result c =
    let room = has_room c.args.ranges.now c.args.tp c.args.hart c.in-Some.range c.requires.room c.in-Some.ensures in
    omega (arith, room)

pub returns-in-Some : goal.returns-in-Some
returns-in-Some c = λ s are is. tp_is s c.args.ranges.now c.args.tp c.args.hart (Some c.in-Some.range) c.in-Some.ensures are is

pub returns-in-None : goal.returns-in-None
returns-in-None c = λ s are is. tp_is s c.args.ranges.now c.args.tp c.args.hart None c.in-None.ensures are is
