use Rattle.history_state.proofs.FullBindings.{images_bound}
use Rattle.history_state.proofs.law.images_are_bound.Goals as goal

pub returns : goal.returns
returns c m events only lawful = images_bound c.reads_candidates.ensures.candidates m only events lawful
