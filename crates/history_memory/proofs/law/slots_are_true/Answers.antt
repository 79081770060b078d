use Rattle.history_state.specs.After.{after}
use Rattle.history_state.specs.Lemmas.Brought.{LoadLaws}
use Rattle.history_state.specs.Lemmas.Lazy.{PageLaws}
use Rattle.history_state.specs.Lemmas.LoadWords.{grant_word, load_word}
use Rattle.history_state.specs.Lemmas.Map.{Mapped, mapped_after}
use Rattle.history_memory.proofs.Entered.{slots_true}
use Rattle.history_memory.proofs.law.slots_are_true.Goals as goal

pub returns : goal.returns
returns c m events won memory only lawful holds =
    let pages : PageLaws = record { low = c.pages_hold_segments.ensures.low; high = c.pages_hold_segments.ensures.high; from = c.pages_hold_segments.ensures.from; to = c.pages_hold_segments.ensures.to; some = c.pages_hold_segments.ensures.some; few = c.pages_hold_segments.ensures.few; one = c.pages_hold_segments.ensures.one } in
    let loads : LoadLaws = record { serials = c.serials_follow.ensures; leads = c.found_stands.ensures.names; founds = c.found_stands.ensures.founds } in
    let now : Mapped (after events) = mapped_after loads c.reads_candidates.ensures.candidates m only events lawful in
    slots_true pages (after events) now (c.slots_begin.ensures m events only lawful) (c.images_are_mapped.ensures m events lawful) (c.slots_lead_to_rx.ensures m events only lawful)
    (load_word m events lawful) (grant_word loads m events lawful) won memory holds
