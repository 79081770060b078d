use Rattle.history_state.specs.After.{after}
use Rattle.history_state.specs.Lemmas.Brought.{LoadLaws}
use Rattle.history_state.specs.Lemmas.Map.{Mapped, mapped_after}
use Rattle.history_state.specs.Lemmas.Tidy.{tidy_after}
use Rattle.history_memory.specs.Lemmas.Exchanged.{exchange_holds}
use Rattle.history_memory.proofs.law.exchanges_keep.Goals as goal

pub returns : goal.returns
returns c m events won a g old left only lawful may holds wins =
    let loads : LoadLaws = record { serials = c.serials_follow.ensures; leads = c.found_stands.ensures.names; founds = c.found_stands.ensures.founds } in
    let now : Mapped (after events) = mapped_after loads c.reads_candidates.ensures.candidates m only events lawful in
    exchange_holds (after events) now (c.slots_begin.ensures m events only lawful) (c.images_are_mapped.ensures m events lawful) (c.none_is_lazy.ensures m events only lawful) (tidy_after m events lawful)
    won a g may old left holds wins
