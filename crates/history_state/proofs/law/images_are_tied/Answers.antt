use Rattle.history_state.proofs.Tied.{images_tied}
use Rattle.history_state.proofs.law.images_are_tied.Goals as goal

pub returns : goal.returns
returns c m events only lawful = images_tied
    (record { serials = c.serials_follow.ensures; leads = c.found_stands.ensures.names; founds = c.found_stands.ensures.founds })
    c.reads_candidates.ensures.candidates m only events lawful
