use Rattle.world_laws.proofs.RunOnce.Runs.{one_run}
use Rattle.world_laws.proofs.run_once.law.runs_are_one.Goals as goal

pub returns : goal.returns
returns c = one_run (record {
  turn = c.turns_are_one.ensures;
  sound = c.turns_stay_sound.ensures.turns;
  begins = c.turns_stay_sound.ensures.finals;
  start = c.runs_start_sound.ensures;
  starts = c.one_startup.ensures.starts;
})
