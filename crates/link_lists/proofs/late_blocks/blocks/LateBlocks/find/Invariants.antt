use Rattle.std.proofs.Common.{◌≡◌, drop}
use Rattle.link_lists.specs.LateBlocksPart.Blocks.{block_of}
use Rattle.link_lists.proofs.late_blocks.blocks.LateBlocks.find.Given as goal

-- the search of the rest is the search of the whole
abbrev pub invariant-loop-block : goal.invariant-loop-block
invariant-loop-block l = block_of l.hart l.serial (drop l.block-index l.block-items) ≡ block_of l.hart l.serial l.block-items
