use Rattle.history_state.specs.After.{after}
use Rattle.history_state.specs.Lemmas.Brought.{LoadLaws}
use Rattle.history_state.specs.Lemmas.Lazy.{PageLaws}
use Rattle.history_state.specs.Lemmas.LoadWords.{load_word}
use Rattle.history_state.specs.Lemmas.Map.{Mapped, mapped_after}
use Rattle.history_state.specs.Lemmas.Tidy.{tidy_after}
use Rattle.history_memory.proofs.Standing.{granted_slots}
use Rattle.history_memory.specs.Lemmas.Settled.{may_bind, may_lose}
use Rattle.history_memory.proofs.law.grants_settle.Goals as goal

pub returns-clause-bound : goal.returns-clause-bound
returns-clause-bound c m events won g memory only lawful there open_yet holds won_it =
    let pages : PageLaws = record { low = c.pages_hold_segments.ensures.low; high = c.pages_hold_segments.ensures.high; from = c.pages_hold_segments.ensures.from; to = c.pages_hold_segments.ensures.to; some = c.pages_hold_segments.ensures.some; few = c.pages_hold_segments.ensures.few; one = c.pages_hold_segments.ensures.one } in
    let loads : LoadLaws = record { serials = c.serials_follow.ensures; leads = c.found_stands.ensures.names; founds = c.found_stands.ensures.founds } in
    let now : Mapped (after events) = mapped_after loads c.reads_candidates.ensures.candidates m only events lawful in
    let slot = granted_slots loads pages m events lawful now (c.images_are_mapped.ensures m events lawful) (c.grants_are_held.ensures m events lawful) g there open_yet in
    may_bind (after events) now (c.slots_begin.ensures m events only lawful) (c.images_are_mapped.ensures m events lawful) (c.none_is_lazy.ensures m events only lawful) (tidy_after m events lawful)
    won slot.0 g (load_word m events lawful g.owner g.slot) slot.1 memory holds won_it

pub returns-clause-lost : goal.returns-clause-lost
returns-clause-lost c m events won a g memory only lawful may holds unwon other =
    let loads : LoadLaws = record { serials = c.serials_follow.ensures; leads = c.found_stands.ensures.names; founds = c.found_stands.ensures.founds } in
    let now : Mapped (after events) = mapped_after loads c.reads_candidates.ensures.candidates m only events lawful in
    may_lose (after events) now (c.slots_begin.ensures m events only lawful) (c.images_are_mapped.ensures m events lawful) (c.none_is_lazy.ensures m events only lawful) (tidy_after m events lawful)
    won a g (load_word m events lawful g.owner g.slot) may memory holds unwon other
