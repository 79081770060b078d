use Rattle.history_calls.proofs.Asks.{dlsym_fits, dlvsym_fits}
use Rattle.history_calls.proofs.Every.{complete}
use Rattle.history_calls.proofs.OpenAnswered.{opens_unless}
use Rattle.history_calls.proofs.law.calls_are_answered.Goals as goal

pub returns-clause-all : goal.returns-clause-all
returns-clause-all c = complete
    (record { more = c.modules_stay_numbered.ensures.more; fewer = c.modules_stay_numbered.ensures.fewer })
    (record { serials = c.serials_follow.ensures; leads = c.found_stands.ensures.names; founds = c.found_stands.ensures.founds })
    c.reads_candidates.ensures.candidates

pub returns-clause-opens : goal.returns-clause-opens
returns-clause-opens c = opens_unless

pub returns-clause-dlsym : goal.returns-clause-dlsym
returns-clause-dlsym c = dlsym_fits

pub returns-clause-dlvsym : goal.returns-clause-dlvsym
returns-clause-dlvsym c = dlvsym_fits
