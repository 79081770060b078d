use Rattle.std.proofs.Common.{rules, ap, ◌∙◌, arith}
use Rattle.world_memory.proofs.Spreading.{no_nowheres, one_nowhere_more}
use Rattle.rv_hart.specs.Doublewords.{nowhere}
use Rattle.std.proofs.Common.{List, [], ◌∷◌, ◌++◌}
use Rattle.rv_hart.specs.declared.doubleword.Doubleword.{Doubleword}
use Rattle.world_memory.proofs.memory.extend.Goals as goal

pub loop-more-init : goal.loop-more-init
loop-more-init c = record { items = no_nowheres c.args.front.now.items; len = omega arith; room = search rules }

pub loop-more-preserved : goal.loop-more-preserved
loop-more-preserved c = record {
  items = c.push_reserved.ensures.items ∙ ap (λ (ws : List Doubleword). ws ++ nowhere ∷ []) c.loop-more.invariant.items
      ∙ one_nowhere_more c.args.front.now.items c.loop-more._more;
  len = omega arith;
  room = c.push_reserved.ensures.capacity ∙ c.loop-more.invariant.room;
}
