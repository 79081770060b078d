use Rattle.std.proofs.Common.{refl}
use Rattle.history_journal.specs.Following.{machine_of}
use Rattle.link_open_laws.proofs.Placed.{new_placed}
use Rattle.link_open_laws.proofs.law.new_objects_are_placed.Goals as goal

pub returns : goal.returns
returns c harts past hart id root ask added ranges lawful next o new =
    new_placed (record { serials = c.serials_follow.ensures; leads = c.found_stands.ensures.names; founds = c.found_stands.ensures.founds }) c.reads_candidates.ensures.candidates
    (record { low = c.pages_hold_segments.ensures.low; high = c.pages_hold_segments.ensures.high; from = c.pages_hold_segments.ensures.from; to = c.pages_hold_segments.ensures.to; some = c.pages_hold_segments.ensures.some; few = c.pages_hold_segments.ensures.few; one = c.pages_hold_segments.ensures.one })
    (machine_of harts) (c.accepted_object.ensures.machine (machine_of harts) refl) next.setting next.machine past lawful hart ask id root added ranges next.may o new
