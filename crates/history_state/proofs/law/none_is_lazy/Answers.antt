use Rattle.history_state.specs.Lemmas.Lazy.{none_lazy}
use Rattle.history_state.proofs.law.none_is_lazy.Goals as goal

pub returns : goal.returns
returns c m events only lawful = none_lazy
    (record { serials = c.serials_follow.ensures; leads = c.found_stands.ensures.names; founds = c.found_stands.ensures.founds })
    c.reads_candidates.ensures.candidates
    (record { low = c.pages_hold_segments.ensures.low; high = c.pages_hold_segments.ensures.high; from = c.pages_hold_segments.ensures.from; to = c.pages_hold_segments.ensures.to; some = c.pages_hold_segments.ensures.some; few = c.pages_hold_segments.ensures.few; one = c.pages_hold_segments.ensures.one })
    m only events lawful
