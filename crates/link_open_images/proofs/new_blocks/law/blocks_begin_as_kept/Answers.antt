use Rattle.link_open_images.proofs.NewBlocks.Bytes.{among_segment, storage_long}
use Rattle.link_open_images.proofs.new_blocks.law.blocks_begin_as_kept.Goals as goal

pub returns-clause-bytes : goal.returns-clause-bytes
returns-clause-bytes c = among_segment

pub returns-clause-count : goal.returns-clause-count
returns-clause-count c = storage_long
