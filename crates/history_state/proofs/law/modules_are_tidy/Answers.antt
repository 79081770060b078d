use Rattle.history_state.specs.After.{after}
use Rattle.history_state.specs.Lemmas.Moduled.{new_numbers}
use Rattle.history_state.specs.Lemmas.Offsets.{modules_tidy}
use Rattle.history_state.proofs.law.modules_are_tidy.Goals as goal

pub returns-clause-tidy : goal.returns-clause-tidy
returns-clause-tidy c = modules_tidy
    (record { more = c.modules_stay_numbered.ensures.more; fewer = c.modules_stay_numbered.ensures.fewer })
    (record { serials = c.serials_follow.ensures; leads = c.found_stands.ensures.names; founds = c.found_stands.ensures.founds })

pub returns-clause-least : goal.returns-clause-least
returns-clause-least c w past hart id root ask added ranges may = new_numbers w (after past) hart ask id root added ranges may
