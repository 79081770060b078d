use Rattle.history_state.specs.After.{after}
use Rattle.history_state.specs.Lemmas.Brought.{LoadLaws}
use Rattle.history_state.specs.Lemmas.LoadWords.{load_word}
use Rattle.history_state.specs.Lemmas.Map.{mapped_after}
use Rattle.history_state.specs.Lemmas.Tidy.{tidy_after}
use Rattle.kept_words.proofs.Settling.{StateLaws, lost_may_lose, won_may_bind}
use Rattle.kept_words.proofs.law.fates_settle.Goals as goal

pub returns-clause-won : goal.returns-clause-won
returns-clause-won c m events k number h n g only lawful is low pending tells won =
    let loads : LoadLaws = record { serials = c.serials_follow.ensures; leads = c.found_stands.ensures.names; founds = c.found_stands.ensures.founds } in
    let laws : StateLaws (after events) = record {
      mapped = mapped_after loads c.reads_candidates.ensures.candidates m only events lawful;
      begins = c.slots_begin.ensures m events only lawful;
      images = c.images_are_mapped.ensures m events lawful;
      lazy = c.none_is_lazy.ensures m events only lawful;
      tidy = tidy_after m events lawful;
      fits = λ owner slot. load_word m events lawful owner slot;
    } in
    won_may_bind (after events) laws k number is h low g pending n tells won

pub returns-clause-lost : goal.returns-clause-lost
returns-clause-lost c m events k number h n saw g only lawful is long low pending tells seen =
    let loads : LoadLaws = record { serials = c.serials_follow.ensures; leads = c.found_stands.ensures.names; founds = c.found_stands.ensures.founds } in
    let laws : StateLaws (after events) = record {
      mapped = mapped_after loads c.reads_candidates.ensures.candidates m only events lawful;
      begins = c.slots_begin.ensures m events only lawful;
      images = c.images_are_mapped.ensures m events lawful;
      lazy = c.none_is_lazy.ensures m events only lawful;
      tidy = tidy_after m events lawful;
      fits = λ owner slot. load_word m events lawful owner slot;
    } in
    lost_may_lose (after events) laws k number is h low g pending n tells long saw seen
