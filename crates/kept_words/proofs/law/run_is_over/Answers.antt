use Rattle.std.proofs.Common.{◌≢◌}
use Rattle.std.specs.List.{Contains}
use Rattle.history_event.specs.declared.state.Granting.{Granting}
use Rattle.history_event.specs.declared.state.Standing.TheVariants.{Open}
use Rattle.history_state.specs.After.{after}
use Rattle.history_state.specs.Lemmas.Brought.{LoadLaws}
use Rattle.history_state.specs.Lemmas.History.{legal_is_lawful}
use Rattle.history_state.specs.Lemmas.LoadWords.{load_word}
use Rattle.history_state.specs.Lemmas.Map.{mapped_after}
use Rattle.history_state.specs.Lemmas.Tidy.{tidy_after}
use Rattle.kept_words.specs.Staying.{number_in}
use Rattle.kept_words.proofs.Over.{fates_are_exchanges, lost_settled, none_open, trails_are_true}
use Rattle.kept_words.proofs.Settling.{StateLaws}
use Rattle.kept_words.proofs.law.run_is_over.Goals as goal

pub returns-clause-whole : goal.returns-clause-whole
returns-clause-whole c w begun k accepts kept over finished =
    let lawful = legal_is_lawful w k.events kept.legal in
    let loads : LoadLaws = record { serials = c.serials_follow.ensures; leads = c.found_stands.ensures.names; founds = c.found_stands.ensures.founds } in
    let laws : StateLaws (after k.events) = record {
      mapped = mapped_after loads c.reads_candidates.ensures.candidates w.machine accepts k.events lawful;
      begins = c.slots_begin.ensures w.machine k.events accepts lawful;
      images = c.images_are_mapped.ensures w.machine k.events lawful;
      lazy = c.none_is_lazy.ensures w.machine k.events accepts lawful;
      tidy = tidy_after w.machine k.events lawful;
      fits = λ owner slot. load_word w.machine k.events lawful owner slot;
    } in
    let settled : (g : Granting) → Contains (after k.events).grants g → g.standing ≢ Open =
    (λ g there open_yet. none_open (after k.events) laws k (number_in k.events) kept.words over.settled g (c.slots_stand.ensures.granted w.machine k.events g accepts lawful there open_yet) open_yet) in
    record {
      settled = settled;
      lost = λ g saw. lost_settled (after k.events) laws k (number_in k.events) kept.words over.decided kept.seen g saw (λ y there open_yet. absurd (settled y there open_yet));
      finished = finished;
    }

pub returns-clause-trails : goal.returns-clause-trails
returns-clause-trails c = trails_are_true

pub returns-clause-fates : goal.returns-clause-fates
returns-clause-fates c = fates_are_exchanges
