use Rattle.history_calls.proofs.ProgramLast.{program_is_last}
use Rattle.history_calls.proofs.law.the_program_is_last.Goals as goal

pub returns : goal.returns
returns c = program_is_last (record {
  breadth_first = c.loads_breadth_first.ensures;
  root_is = c.root_is_new.ensures;
})
