use Rattle.history_state.specs.After.{after}
use Rattle.history_state.specs.Lemmas.Brought.{LoadLaws}
use Rattle.history_state.specs.Lemmas.Serials.{new_serials, serials_in_order}
use Rattle.history_state.specs.Lemmas.Steps.{good_after}
use Rattle.history_state.proofs.law.serials_are_in_order.Goals as goal

pub returns-clause-order : goal.returns-clause-order
returns-clause-order c = serials_in_order (record { serials = c.serials_follow.ensures; leads = c.found_stands.ensures.names; founds = c.found_stands.ensures.founds })

pub returns-clause-new : goal.returns-clause-new
returns-clause-new c m w past hart id root ask added ranges is lawful may =
    let laws : LoadLaws = (record { serials = c.serials_follow.ensures; leads = c.found_stands.ensures.names; founds = c.found_stands.ensures.founds }) in
    new_serials laws w (after past) (good_after laws m past lawful) hart ask id root added ranges ask.name may.name
