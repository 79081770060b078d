use Rattle.ldso_cli.proofs.Kept.{histories}
use Rattle.ldso_cli.proofs.law.answers_are_histories.Goals as goal

pub returns : goal.returns
returns c = histories (record {
  accepts = c.accepted_object.ensures.machine;
  fails = c.served_calls_are_legal.ensures.fails;
  sound = c.runs_stay_sound.ensures.run;
  whole = c.runs_are_whole.ensures.run;
  journals = c.runs_have_journals.ensures;
  follow = c.harts_follow.ensures;
  are_true = c.moments_are_true.ensures;
  moments = c.journals_are_true.ensures;
  slots = c.slots_end.ensures;
  starts = c.one_startup.ensures.one;
})
