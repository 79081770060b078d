use Rattle.history_state.specs.After.{after}
use Rattle.history_state.proofs.Spare.{closes_spare}
use Rattle.history_state.specs.Lemmas.Steps.{good_after}
use Rattle.history_state.proofs.law.closed_are_spare.Goals as goal

pub returns : goal.returns
returns c m w past hart handle set is lawful may =
    closes_spare (after past) handle set (good_after (record { serials = c.serials_follow.ensures; leads = c.found_stands.ensures.names; founds = c.found_stands.ensures.founds }) m past lawful) may
