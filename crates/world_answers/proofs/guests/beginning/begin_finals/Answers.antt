use Rattle.std.proofs.Common.{refl}
use Rattle.hart_moves.specs.Starting.{starting_registers}
use Rattle.world_answers.specs.GuestsPart.GuestWorlds.Worlds.{world_of}
use Rattle.world_answers.proofs.GuestsPart.Starting.{lacks_still}
use Rattle.world_answers.proofs.guests.beginning.begin_finals.Goals as goal

pub returns-in-Err-clause-begins : goal.returns-in-Err-clause-begins
returns-in-Err-clause-begins c = λ words.
    lacks_still c.args.state.now words c.args.harts.now 0 c.index-harts-0-2.result c.begin.new.hart (world_of c.lack_memory.new.state words c.lack_memory.new.harts) c.lack_memory.result
    refl c.requires.some c.in-Err.ensures.err c.lack_memory.ensures.result (c.lack_memory.ensures.lacks words) (starting_registers c.args.entry)
