use Rattle.history_state.specs.Lemmas.Map.{mapped_after}
use Rattle.history_state.specs.Lemmas.Tidy.{tidy_after}
use Rattle.world_turns.specs.Lemmas.Turning.{begins_sound, lacks_sound, settles_sound, turns_sound}
use Rattle.world_turns.proofs.law.turns_stay_sound.Goals as goal

pub returns-clause-turns : goal.returns-clause-turns
returns-clause-turns c = turns_sound (λ m only. record {
  know = λ journal lawful. record {
    mapped = mapped_after (record { serials = c.serials_follow.ensures; leads = c.found_stands.ensures.names; founds = c.found_stands.ensures.founds }) c.reads_candidates.ensures.candidates m only journal lawful;
    begins = c.slots_begin.ensures m journal only lawful;
    images = c.images_are_mapped.ensures m journal lawful;
    lazy = c.none_is_lazy.ensures m journal only lawful;
    tidy = tidy_after m journal lawful;
    stand = λ i slot r. c.slots_stand.ensures.there m journal i slot r only lawful;
    whole = λ i slot r. c.slots_stand.ensures.whole m journal i slot r only lawful;
  };
  changes = λ w past e same. c.memory_changes.ensures m w past e same only;
  keep = c.events_keep.ensures.kept;
  exchanges = λ journal won a g old new. c.exchanges_keep.ensures m journal won a g old new only;
  bound = λ journal won g memory. c.grants_settle.ensures.bound m journal won g memory only;
  lost = λ journal won a g memory. c.grants_settle.ensures.lost m journal won a g memory only;
})

pub returns-clause-finals : goal.returns-clause-finals
returns-clause-finals c = begins_sound

pub returns-clause-settling : goal.returns-clause-settling
returns-clause-settling c = settles_sound (λ m only. record {
  know = λ journal lawful. record {
    mapped = mapped_after (record { serials = c.serials_follow.ensures; leads = c.found_stands.ensures.names; founds = c.found_stands.ensures.founds }) c.reads_candidates.ensures.candidates m only journal lawful;
    begins = c.slots_begin.ensures m journal only lawful;
    images = c.images_are_mapped.ensures m journal lawful;
    lazy = c.none_is_lazy.ensures m journal only lawful;
    tidy = tidy_after m journal lawful;
    stand = λ i slot r. c.slots_stand.ensures.there m journal i slot r only lawful;
    whole = λ i slot r. c.slots_stand.ensures.whole m journal i slot r only lawful;
  };
  changes = λ w past e same. c.memory_changes.ensures m w past e same only;
  keep = c.events_keep.ensures.kept;
  exchanges = λ journal won a g old new. c.exchanges_keep.ensures m journal won a g old new only;
  bound = λ journal won g memory. c.grants_settle.ensures.bound m journal won g memory only;
  lost = λ journal won a g memory. c.grants_settle.ensures.lost m journal won a g memory only;
})

pub returns-clause-no_memory : goal.returns-clause-no_memory
returns-clause-no_memory c = lacks_sound (λ m only. record {
  know = λ journal lawful. record {
    mapped = mapped_after (record { serials = c.serials_follow.ensures; leads = c.found_stands.ensures.names; founds = c.found_stands.ensures.founds }) c.reads_candidates.ensures.candidates m only journal lawful;
    begins = c.slots_begin.ensures m journal only lawful;
    images = c.images_are_mapped.ensures m journal lawful;
    lazy = c.none_is_lazy.ensures m journal only lawful;
    tidy = tidy_after m journal lawful;
    stand = λ i slot r. c.slots_stand.ensures.there m journal i slot r only lawful;
    whole = λ i slot r. c.slots_stand.ensures.whole m journal i slot r only lawful;
  };
  changes = λ w past e same. c.memory_changes.ensures m w past e same only;
  keep = c.events_keep.ensures.kept;
  exchanges = λ journal won a g old new. c.exchanges_keep.ensures m journal won a g old new only;
  bound = λ journal won g memory. c.grants_settle.ensures.bound m journal won g memory only;
  lost = λ journal won a g memory. c.grants_settle.ensures.lost m journal won a g memory only;
})
