use Rattle.history_state.proofs.Frame.{memory_changes}
use Rattle.history_state.proofs.law.memory_changes.Goals as goal

pub returns : goal.returns
returns c m w past e is only lawful may = memory_changes
    (record { low = c.pages_hold_segments.ensures.low; high = c.pages_hold_segments.ensures.high; from = c.pages_hold_segments.ensures.from; to = c.pages_hold_segments.ensures.to; some = c.pages_hold_segments.ensures.some; few = c.pages_hold_segments.ensures.few; one = c.pages_hold_segments.ensures.one })
    (record { serials = c.serials_follow.ensures; leads = c.found_stands.ensures.names; founds = c.found_stands.ensures.founds }) c.reads_candidates.ensures.candidates m only w is past e lawful may
