use Rattle.history_state.specs.Accepted.{AcceptsOnly}
use Rattle.history_state.specs.Setting.{Machine}
use Rattle.history_state.specs.Lemmas.Brought.{LoadLaws}
use Rattle.history_state.specs.Lemmas.Map.{mapped_after}
use Rattle.world_laws.proofs.RunMoments.Throughout.{MomentLaws, reached_is_true, reached_stays_true}
use Rattle.world_laws.proofs.run_moments.law.worlds_are_true.Goals as goal

laws : (c : goal.After-turns_are_true) (m : Machine) → AcceptsOnly m → MomentLaws m
laws c m only =
    let load : LoadLaws = record { serials = c.serials_follow.ensures; leads = c.found_stands.ensures.names; founds = c.found_stands.ensures.founds } in
    record {
      mapped = λ journal lawful. mapped_after load c.reads_candidates.ensures.candidates m only journal lawful;
      stands = λ journal i slot r lawful there at. c.slots_stand.ensures.there m journal i slot r only lawful there at;
      journals = c.journals_are_true.ensures;
      slot_true = c.slots_are_true.ensures;
      sound = c.later_worlds_keep_slots.ensures.sound;
      slots = c.later_worlds_keep_slots.ensures.slots;
      frames = record {
        start_sound = c.runs_start_sound.ensures;
        sound = c.later_worlds_keep_slots.ensures.sound;
        start_ends = c.ends_fit.ensures.start;
        turns_end = c.ends_fit.ensures.turns;
        finals_end = c.ends_fit.ensures.final_turns;
        finals_begin = c.ends_fit.ensures.finals;
        finals_lack = c.ends_fit.ensures.no_memory;
        settled_before = c.ends_fit.ensures.settled_before;
        settled_finals = c.ends_fit.ensures.settled_finals;
        start = c.frames_belong.ensures.start;
        turns = c.frames_belong.ensures.turns;
        begin = c.finals_belong.ensures.begin;
        finals = c.finals_belong.ensures.turns;
        settling = c.settling_keeps_frames.ensures.frames;
        settling_finals = c.settling_keeps_frames.ensures.finals;
      };
      turns = c.turns_are_true.ensures;
    }

pub returns-clause-reached : goal.returns-clause-reached
returns-clause-reached c = reached_is_true (laws c)

pub returns-clause-later : goal.returns-clause-later
returns-clause-later c = reached_stays_true (laws c)
