use Rattle.history_state.proofs.BlocksApart.{blocks_apart}
use Rattle.history_state.proofs.law.blocks_are_apart.Goals as goal

pub returns : goal.returns
returns c = blocks_apart
    (record { more = c.modules_stay_numbered.ensures.more; fewer = c.modules_stay_numbered.ensures.fewer })
    (record { serials = c.serials_follow.ensures; leads = c.found_stands.ensures.names; founds = c.found_stands.ensures.founds })
