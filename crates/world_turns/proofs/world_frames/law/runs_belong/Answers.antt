use Rattle.world_turns.proofs.WorldFrames.Runs.{runs_belong}
use Rattle.world_turns.proofs.world_frames.law.runs_belong.Goals as goal

pub returns : goal.returns
returns c = runs_belong (record {
  start_sound = c.runs_start_sound.ensures;
  turns_sound = c.turns_stay_sound.ensures.turns;
  start_ends = c.ends_fit.ensures.start;
  turns_end = c.ends_fit.ensures.turns;
  start = c.frames_belong.ensures.start;
  turns = c.frames_belong.ensures.turns;
})
