use Rattle.world_laws.proofs.RunMoments.Throughout.{turns_true}
use Rattle.world_laws.proofs.run_moments.law.turns_are_true.Goals as goal

pub returns : goal.returns
returns c = turns_true (record {
  new_blocks = c.harts_have_new_blocks.ensures;
  unmaps = record { legal = c.turns_are_legal.ensures.legal; behind = c.closings_unmap_first.ensures.behind; changes = c.memory_changes.ensures };
})
