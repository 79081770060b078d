use Rattle.history_calls.proofs.CallLaws.Executable.{elsewhere, held}
use Rattle.history_calls.proofs.call_laws.law.executable_by_holder.Goals as goal

pub returns-clause-held : goal.returns-clause-held
returns-clause-held c = held
    (record { low = c.pages_hold_segments.ensures.low; high = c.pages_hold_segments.ensures.high; from = c.pages_hold_segments.ensures.from; to = c.pages_hold_segments.ensures.to; some = c.pages_hold_segments.ensures.some; few = c.pages_hold_segments.ensures.few; one = c.pages_hold_segments.ensures.one })
    (record { serials = c.serials_follow.ensures; leads = c.found_stands.ensures.names; founds = c.found_stands.ensures.founds })
    c.reads_candidates.ensures.candidates

pub returns-clause-elsewhere : goal.returns-clause-elsewhere
returns-clause-elsewhere c = elsewhere
    (record { low = c.pages_hold_segments.ensures.low; high = c.pages_hold_segments.ensures.high; from = c.pages_hold_segments.ensures.from; to = c.pages_hold_segments.ensures.to; some = c.pages_hold_segments.ensures.some; few = c.pages_hold_segments.ensures.few; one = c.pages_hold_segments.ensures.one })
    (record { serials = c.serials_follow.ensures; leads = c.found_stands.ensures.names; founds = c.found_stands.ensures.founds })
    c.reads_candidates.ensures.candidates
