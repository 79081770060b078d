use Rattle.std.proofs.Common.{sym, ◌∙◌}
use Rattle.link_keeper.proofs.Answered.{at_generation, keeps_one}
use Rattle.link_keeper.proofs.blocks.keep_answer.Goals as goal

pub returns-in-Some : goal.returns-in-Some
returns-in-Some c = keeps_one c.args.modules.now.generation c.args.entry c.args.blocks.now c.begin.new.self c.keep.new.self c.args.modules.now.modules c.in-Some.module (sym c.in-Some.ensures)
    (sym c.is_stored.ensures ∙ c.if-is_stored.true) (at_generation c.args.blocks.now c.generation.ensures c.begin.ensures.entries) (c.begin.ensures.generation ∙ c.generation.ensures) c.keep.ensures.blocks c.keep.ensures.generation
