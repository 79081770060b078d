use Rattle.history_calls.specs.Lemmas.Finishing.{finishes_stay, next_finishes}
use Rattle.history_calls.proofs.law.destructors_follow.Goals as goal

pub returns-clause-next : goal.returns-clause-next
returns-clause-next c = next_finishes (record { serials = c.serials_follow.ensures; leads = c.found_stands.ensures.names; founds = c.found_stands.ensures.founds })

pub returns-clause-stay : goal.returns-clause-stay
returns-clause-stay c m w past e closing same lawful may there other =
    finishes_stay (record { serials = c.serials_follow.ensures; leads = c.found_stands.ensures.names; founds = c.found_stands.ensures.founds }) m w past e closing lawful may there other
