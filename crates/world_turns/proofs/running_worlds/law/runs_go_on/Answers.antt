use Rattle.world_turns.proofs.RunningWorlds.Going.{Laws, finals_lack_runs, finals_run, settled_runs, start_runs, turns_run}
use Rattle.world_turns.proofs.running_worlds.law.runs_go_on.Goals as goal

laws : (c : goal.After-settling_keeps_frames) → Laws
laws c = record {
  past = c.startup_is_past.ensures;
  start_sound = c.runs_start_sound.ensures;
  turns_sound = c.turns_stay_sound.ensures.turns;
  finals_sound = c.turns_stay_sound.ensures.finals;
  lack_sound = c.turns_stay_sound.ensures.no_memory;
  settling_sound = c.turns_stay_sound.ensures.settling;
  start_ends = c.ends_fit.ensures.start;
  turns_before = c.ends_fit.ensures.turns;
  turns_finals = c.ends_fit.ensures.final_turns;
  finals_begin = c.ends_fit.ensures.finals;
  finals_lack = c.ends_fit.ensures.no_memory;
  start_frames = c.frames_belong.ensures.start;
  turns_frames = c.frames_belong.ensures.turns;
  begin_frames = c.finals_belong.ensures.begin;
  finals_frames = c.finals_belong.ensures.turns;
  settled_frames = c.settling_keeps_frames.ensures.frames;
  settled_finals = c.settling_keeps_frames.ensures.finals;
}

pub returns-clause-start : goal.returns-clause-start
returns-clause-start c = start_runs (laws c)

pub returns-clause-turns : goal.returns-clause-turns
returns-clause-turns c = turns_run (laws c)

pub returns-clause-finals : goal.returns-clause-finals
returns-clause-finals c = finals_run (laws c)

pub returns-clause-no_memory : goal.returns-clause-no_memory
returns-clause-no_memory c = finals_lack_runs (laws c)

pub returns-clause-settling : goal.returns-clause-settling
returns-clause-settling c = settled_runs (laws c)
