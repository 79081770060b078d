use Rattle.std.proofs.Common.{◌<◌, length, arith}
use Rattle.plain_world.proofs.Parts.{ended_at}
use Rattle.plain_world.proofs.record.ends_of.Goals as goal

pub end_of-requires : goal.end_of-requires
end_of-requires c =
    let within : c.loop-hart.hart-index < length c.args.harts.now = omega (arith, c.loop-hart-test.true) in
    ended_at c.args.harts.now c.loop-hart.hart-index c.hart-item.result within c.hart-item.is c.requires.over
