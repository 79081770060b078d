use Rattle.std.proofs.Common.{List, ap, ◌∙◌}
use Rattle.hart_seat.specs.Table.{HartTable}
use Rattle.world_answers.specs.GuestsPart.GuestWorlds.Worlds.{world_of}
use Rattle.world_turns.specs.Run.{is_starting}
use Rattle.plain_world.specs.Table.{WorldTable}
use Rattle.plain_world.proofs.world.World.is_starting.Goals as goal

pub returns : goal.returns
returns c =
    c.is_starting.ensures c.self.inside.state c.self.inside.memory
    ∙ ap (λ (hs : List HartTable). is_starting (world_of c.self.inside.state c.self.inside.memory hs)) c.as_slice.ensures.value
    ∙ ap (λ (t : WorldTable). is_starting t.world) c.self.view_is
