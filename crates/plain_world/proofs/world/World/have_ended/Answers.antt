use Rattle.std.proofs.Common.{ap, ◌∙◌}
use Rattle.std.specs.List.{list_all}
use Rattle.hart_seat.specs.Table.{HartTable}
use Rattle.world_turns.specs.Run.{has_ended, have_ended}
use Rattle.plain_world.specs.Table.{WorldTable}
use Rattle.plain_world.proofs.Parts.{all_in}
use Rattle.plain_world.proofs.world.World.have_ended.Goals as goal

pub returns : goal.returns
returns c =
    c.have_ended.ensures ∙ ap (list_all (λ (h : HartTable). has_ended h.hart)) c.as_slice.ensures.value ∙ all_in has_ended c.self.inside.harts.items
    ∙ ap (λ (t : WorldTable). have_ended t.world) c.self.view_is
