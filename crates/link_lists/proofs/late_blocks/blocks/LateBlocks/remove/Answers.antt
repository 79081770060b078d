use Rattle.std.proofs.Common.{◌≡◌, Bool, not, rules, ap, ◌∙◌}
use Rattle.std.specs.List.{filter}
use Rattle.std.proofs.lemmas.Fn.{filter_same}
use Rattle.history_event.specs.declared.state.Block.{Block}
use Rattle.history_graph.specs.Initialised.{is_one_of}
use Rattle.link_lists.specs.LateBlocksPart.Blocks.{BlockList}
use Rattle.link_lists.proofs.late_blocks.blocks.LateBlocks.remove.Goals as goal

pub returns : goal.returns
returns c =
    let other : Block → Bool = λ b. not (is_one_of c.args.set.now b.serial) in
    let others : c.retain.new.self.items ≡ filter other c.self.inside.blocks.items =
    filter_same _ other _ (λ x b f' k. search rules) _ _ c.retain.ensures.filtered in
    others ∙ ap (λ (v : BlockList). filter other v.blocks) c.self.view_is
