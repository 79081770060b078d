use Rattle.history_state.specs.Lemmas.Map.{mapped_after}
use Rattle.history_state.specs.Lemmas.Tidy.{tidy_after}
use Rattle.world_laws.specs.WorldSlots.Lemmas.Turns.{turns_keep}
use Rattle.world_laws.proofs.world_slots.law.turns_keep_slots.Goals as goal

pub returns : goal.returns
returns c = turns_keep c.turns_stay_sound.ensures.turns (λ m only. record {
  know = λ journal lawful. record {
    mapped = mapped_after (record { serials = c.serials_follow.ensures; leads = c.found_stands.ensures.names; founds = c.found_stands.ensures.founds }) c.reads_candidates.ensures.candidates m only journal lawful;
    begins = c.slots_begin.ensures m journal only lawful;
    images = c.images_are_mapped.ensures m journal lawful;
    lazy = c.none_is_lazy.ensures m journal only lawful;
    tidy = tidy_after m journal lawful;
    stand = λ i slot r. c.slots_stand.ensures.there m journal i slot r only lawful;
    whole = λ i slot r. c.slots_stand.ensures.whole m journal i slot r only lawful;
  };
  keep = λ w past e old new a same. c.slots_stay.ensures.event m w past e old new a same only;
})
