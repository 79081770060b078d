use Rattle.world_laws.proofs.RunJournals.Runs.{runs_have_journals}
use Rattle.world_laws.proofs.run_journals.law.runs_have_journals.Goals as goal

pub returns : goal.returns
returns c = runs_have_journals (record {
  start = c.run_journals_grow.ensures.start;
  grow = c.run_journals_grow.ensures.grow;
  own = c.turns_are_legal.ensures.own;
  over = c.turns_are_counted.ensures.ended;
  append = c.turns_append.ensures.events;
  begun = c.ends_fit.ensures.start;
  before = c.ends_fit.ensures.turns;
  finals = c.ends_fit.ensures.final_turns;
  begin = c.ends_fit.ensures.finals;
  lack = c.ends_fit.ensures.no_memory;
  may = c.harts_may_end.ensures;
  fit = c.runs_end_once.ensures.fit;
})
