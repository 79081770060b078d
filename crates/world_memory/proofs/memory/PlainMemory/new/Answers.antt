use Rattle.std.proofs.Common.{refl, sym, ◌∙◌}
use Rattle.world_memory.specs.Front.{front_count}
use Rattle.world_memory.proofs.Spreading.{are_fresh}
use Rattle.world_memory.proofs.memory.PlainMemory.new.Goals as goal

pub returns : goal.returns
returns c =
    are_fresh front_count c.in_ok-front.front.items c.in_ok-page.page.items refl c.in_ok-front.ensures.items
    (sym c.in_ok-page.page.ok.0 ∙ c.in_ok-page.ensures.len) c.in_ok-page.ensures.each
