use Rattle.history_state.specs.After.{after}
use Rattle.history_state.specs.Lemmas.Tidy.{tidy_after}
use Rattle.kept_words.proofs.Posted.{posted_stays}
use Rattle.kept_words.proofs.Settled.{settled_stays}
use Rattle.kept_words.proofs.Staying.{events_stay, states_stay}
use Rattle.kept_words.proofs.law.states_stay.Goals as goal

pub returns-clause-stay : goal.returns-clause-stay
returns-clause-stay c = states_stay

pub returns-clause-events : goal.returns-clause-events
returns-clause-events c = events_stay

pub returns-clause-settled : goal.returns-clause-settled
returns-clause-settled c m events k number h g fate standing lawful is long low pending of settles =
    settled_stays (after events) (tidy_after m events lawful) k number is long h low g pending of fate standing settles

pub returns-clause-posted : goal.returns-clause-posted
returns-clause-posted c s k number next m g x long is posts of = posted_stays s k number next m g x long is posts of
