use Rattle.history_state.specs.After.{after}
use Rattle.history_state.specs.Lemmas.Brought.{LoadLaws}
use Rattle.history_state.specs.Lemmas.Lazy.{PageLaws}
use Rattle.history_state.specs.Lemmas.Map.{Mapped, mapped_after}
use Rattle.history_memory.proofs.Standing.{granted_slots, slot_is_doubleword, slot_stands}
use Rattle.history_memory.proofs.law.slots_stand.Goals as goal

pub returns-clause-there : goal.returns-clause-there
returns-clause-there c m events i slot r only lawful there at =
    let pages : PageLaws = record { low = c.pages_hold_segments.ensures.low; high = c.pages_hold_segments.ensures.high; from = c.pages_hold_segments.ensures.from; to = c.pages_hold_segments.ensures.to; some = c.pages_hold_segments.ensures.some; few = c.pages_hold_segments.ensures.few; one = c.pages_hold_segments.ensures.one } in
    let loads : LoadLaws = record { serials = c.serials_follow.ensures; leads = c.found_stands.ensures.names; founds = c.found_stands.ensures.founds } in
    let now : Mapped (after events) = mapped_after loads c.reads_candidates.ensures.candidates m only events lawful in
    slot_stands pages (after events) now i there slot r at

pub returns-clause-whole : goal.returns-clause-whole
returns-clause-whole c m events i slot r only lawful there at =
    let pages : PageLaws = record { low = c.pages_hold_segments.ensures.low; high = c.pages_hold_segments.ensures.high; from = c.pages_hold_segments.ensures.from; to = c.pages_hold_segments.ensures.to; some = c.pages_hold_segments.ensures.some; few = c.pages_hold_segments.ensures.few; one = c.pages_hold_segments.ensures.one } in
    let loads : LoadLaws = record { serials = c.serials_follow.ensures; leads = c.found_stands.ensures.names; founds = c.found_stands.ensures.founds } in
    let now : Mapped (after events) = mapped_after loads c.reads_candidates.ensures.candidates m only events lawful in
    slot_is_doubleword pages (after events) now i there slot r at

pub returns-clause-granted : goal.returns-clause-granted
returns-clause-granted c m events g only lawful there open_yet =
    let pages : PageLaws = record { low = c.pages_hold_segments.ensures.low; high = c.pages_hold_segments.ensures.high; from = c.pages_hold_segments.ensures.from; to = c.pages_hold_segments.ensures.to; some = c.pages_hold_segments.ensures.some; few = c.pages_hold_segments.ensures.few; one = c.pages_hold_segments.ensures.one } in
    let loads : LoadLaws = record { serials = c.serials_follow.ensures; leads = c.found_stands.ensures.names; founds = c.found_stands.ensures.founds } in
    let now : Mapped (after events) = mapped_after loads c.reads_candidates.ensures.candidates m only events lawful in
    granted_slots loads pages m events lawful now (c.images_are_mapped.ensures m events lawful) (c.grants_are_held.ensures m events lawful) g there open_yet
