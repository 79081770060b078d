use Rattle.link_open_images.proofs.NewBlocks.Installed.{new_block_had}
use Rattle.link_open_images.proofs.new_blocks.law.harts_have_new_blocks.Goals as goal

pub returns : goal.returns
returns c = new_block_had
