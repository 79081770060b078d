use Rattle.history_state.specs.Lemmas.Defined.{symbols_stored}
use Rattle.history_state.proofs.law.symbols_are_stored.Goals as goal

pub returns : goal.returns
returns c m events only lawful = symbols_stored
    (record { more = c.modules_stay_numbered.ensures.more; fewer = c.modules_stay_numbered.ensures.fewer })
    (record { serials = c.serials_follow.ensures; leads = c.found_stands.ensures.names; founds = c.found_stands.ensures.founds })
    c.reads_candidates.ensures.candidates m only events lawful
