use Rattle.link_open_images.proofs.NewBlocks.Installed.{block_installed}
use Rattle.link_open_images.proofs.new_blocks.law.new_blocks_are_installed.Goals as goal

pub returns : goal.returns
returns c = block_installed
    (record { low = c.pages_hold_segments.ensures.low; high = c.pages_hold_segments.ensures.high; from = c.pages_hold_segments.ensures.from; to = c.pages_hold_segments.ensures.to; some = c.pages_hold_segments.ensures.some; few = c.pages_hold_segments.ensures.few; one = c.pages_hold_segments.ensures.one })
    (record { serials = c.serials_follow.ensures; leads = c.found_stands.ensures.names; founds = c.found_stands.ensures.founds })
    c.reads_candidates.ensures.candidates
    (record { more = c.modules_stay_numbered.ensures.more; fewer = c.modules_stay_numbered.ensures.fewer })
