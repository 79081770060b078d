use Rattle.std.proofs.Common.{◌≡◌, ℕ, eqb, Option, Some, ap, ◌∙◌}
use Rattle.std.specs.List.{find}
use Rattle.history_event.specs.declared.state.Module.{Module}
use Rattle.history_state.specs.State.{State}
use Rattle.history_state.specs.Storage.{tls_block}
use Rattle.link_search.specs.Blocks.{ShowsBlocks, static_at}
use Rattle.link_search.proofs.Standing.{at_offset, if_ok, late_at, no_module}
use Rattle.link_search.proofs.blocks.block_in.Goals as goal

pub returns-in_default : goal.returns-in_default
returns-in_default c = λ s shows.
    no_module s c.args.ranges.now c.args.modules.now c.args.blocks.now c.args.hart c.args.serial shows
    (c.in_default.ensures ∙ ap (find (λ (m : Module). eqb m.serial c.args.serial)) c.as_slice.ensures)

pub returns-in-Some-offset : goal.returns-in-Some-offset
returns-in-Some-offset c =
    if_ok c.static_block.result (λ (block : Option ℕ). block ≡ Some (static_at c.args.ranges.now c.tp.result c.args.hart c.in-Some-offset.offset))
    (λ (block : Option ℕ). (s : State) → ShowsBlocks s c.args.ranges.now c.args.modules.now c.args.blocks.now → block ≡ tls_block s c.args.hart c.args.serial)
    (λ block is s shows.
    is ∙ ap (λ n. Some (static_at c.args.ranges.now n c.args.hart c.in-Some-offset.offset)) c.tp.ensures
    ∙ at_offset s c.args.ranges.now c.args.modules.now c.args.blocks.now c.args.hart c.args.serial shows c.in-Some.found c.in-Some-offset.offset
    (c.in-Some.ensures ∙ ap (find (λ (m : Module). eqb m.serial c.args.serial)) c.as_slice.ensures) c.in-Some-offset.is) c.static_block.ensures

pub returns-in-None : goal.returns-in-None
returns-in-None c = λ s shows.
    c.find.ensures ∙ late_at s c.args.ranges.now c.args.modules.now c.args.blocks.now c.args.hart c.args.serial shows c.in-Some.found
    (c.in-Some.ensures ∙ ap (find (λ (m : Module). eqb m.serial c.args.serial)) c.as_slice.ensures) c.in-None.is
