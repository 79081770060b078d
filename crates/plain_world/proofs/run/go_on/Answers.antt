use Rattle.std.proofs.lemmas.Option.{slice_get_within}
use Rattle.std.proofs.Common.{◌<◌, length, arith}
use Rattle.plain_world.proofs.run.go_on.Goals as goal

pub next_turns-requires-clause-hart : goal.next_turns-requires-clause-hart
next_turns-requires-clause-hart g c =
    let within : c.args.id < length c.args.run.now.world.harts = slice_get_within c.args.run.now.world.harts c.args.id c.requires.0 c.requires.1 in
    omega (arith, within, c.count.ensures.count, c.count.ensures.harts)
