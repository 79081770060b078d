use Rattle.history_state.specs.Lemmas.Map.{mapped_after}
use Rattle.history_state.specs.Lemmas.Tidy.{tidy_after}
use Rattle.world_laws.proofs.WorldWhole.Runs.{runs_whole}
use Rattle.world_laws.proofs.WorldWhole.Turns.{turns_keep_seen}
use Rattle.world_laws.proofs.world_whole.law.runs_are_whole.Goals as goal

pub returns-clause-turn : goal.returns-clause-turn
returns-clause-turn c = turns_keep_seen
    (λ m only journal lawful. record {
      mapped = mapped_after (record { serials = c.serials_follow.ensures; leads = c.found_stands.ensures.names; founds = c.found_stands.ensures.founds }) c.reads_candidates.ensures.candidates m only journal lawful;
      begins = c.slots_begin.ensures m journal only lawful;
      images = c.images_are_mapped.ensures m journal lawful;
      lazy = c.none_is_lazy.ensures m journal only lawful;
      tidy = tidy_after m journal lawful;
      stand = λ i slot r. c.slots_stand.ensures.there m journal i slot r only lawful;
      whole = λ i slot r. c.slots_stand.ensures.whole m journal i slot r only lawful;
    })
    (record { serials = c.serials_follow.ensures; leads = c.found_stands.ensures.names; founds = c.found_stands.ensures.founds })
    (λ m. record { new = λ w past hart id root ask added ranges. c.serials_are_in_order.ensures.new m w past hart id root ask added ranges })
    c.turns_stay_sound.ensures.turns c.turns_keep_slots.ensures

pub returns-clause-run : goal.returns-clause-run
returns-clause-run c = runs_whole (record {
  know = λ m only journal lawful. record {
    mapped = mapped_after (record { serials = c.serials_follow.ensures; leads = c.found_stands.ensures.names; founds = c.found_stands.ensures.founds }) c.reads_candidates.ensures.candidates m only journal lawful;
    begins = c.slots_begin.ensures m journal only lawful;
    images = c.images_are_mapped.ensures m journal lawful;
    lazy = c.none_is_lazy.ensures m journal only lawful;
    tidy = tidy_after m journal lawful;
    stand = λ i slot r. c.slots_stand.ensures.there m journal i slot r only lawful;
    whole = λ i slot r. c.slots_stand.ensures.whole m journal i slot r only lawful;
  };
  turns = c.turns_stay_sound.ensures.turns;
  begins = c.turns_stay_sound.ensures.finals;
  lacks = c.turns_stay_sound.ensures.no_memory;
  seen = returns-clause-turn c;
  runs = c.runs_stay_sound.ensures.run;
  settle = c.runs_stay_sound.ensures.settled;
  finish = c.runs_end_once.ensures.finished;
})
