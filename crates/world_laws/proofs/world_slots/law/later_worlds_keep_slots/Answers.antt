use Rattle.world_laws.proofs.WorldSlots.Later.{later_is_sound, later_keeps_slots, runs_go_on}
use Rattle.world_laws.proofs.world_slots.law.later_worlds_keep_slots.Goals as goal

pub returns-clause-sound : goal.returns-clause-sound
returns-clause-sound c = later_is_sound (record {
  turns = c.turns_stay_sound.ensures.turns;
  begins = c.turns_stay_sound.ensures.finals;
  lacks = c.turns_stay_sound.ensures.no_memory;
  settles = c.turns_stay_sound.ensures.settling;
})

pub returns-clause-slots : goal.returns-clause-slots
returns-clause-slots c = later_keeps_slots
    (λ m. record {
      load = record { serials = c.serials_follow.ensures; leads = c.found_stands.ensures.names; founds = c.found_stands.ensures.founds };
      serials = record { new = λ w past hart id root ask added ranges. c.serials_are_in_order.ensures.new m w past hart id root ask added ranges };
      mapped = c.images_are_mapped.ensures m;
    })
    (record {
      turns = c.turns_stay_sound.ensures.turns;
      begins = c.turns_stay_sound.ensures.finals;
      lacks = c.turns_stay_sound.ensures.no_memory;
      settles = c.turns_stay_sound.ensures.settling;
    })
    c.turns_keep_slots.ensures

pub returns-clause-runs : goal.returns-clause-runs
returns-clause-runs c = runs_go_on
