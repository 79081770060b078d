use Rattle.history_state.specs.Lemmas.Begun.{begins_untouched}
use Rattle.history_state.proofs.law.nothing_comes_before_startup.Goals as goal

pub returns : goal.returns
returns c m events lawful = begins_untouched (record { serials = c.serials_follow.ensures; leads = c.found_stands.ensures.names; founds = c.found_stands.ensures.founds }) m events lawful
