use Rattle.trace_laws.proofs.Threads.{threads_begin_alone}
use Rattle.trace_laws.proofs.law.threads_begin_alone.Goals as goal

pub returns : goal.returns
returns c = threads_begin_alone (record {
  own = c.turns_are_legal.ensures.own;
  append = c.turns_append.ensures.events;
  away = c.turns_append.ensures.no_finals;
  leave = c.turns_leave_frames.ensures;
  begins = c.nothing_comes_before_startup.ensures;
})
