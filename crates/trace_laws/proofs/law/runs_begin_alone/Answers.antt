use Rattle.trace_laws.proofs.Alone.{runs_begin_alone}
use Rattle.trace_laws.proofs.law.runs_begin_alone.Goals as goal

pub returns : goal.returns
returns c = runs_begin_alone (record {
  own = c.turns_are_legal.ensures.own;
  append = c.turns_append.ensures.events;
  away = c.turns_append.ensures.no_finals;
  leave = c.turns_leave_frames.ensures;
  begins = c.nothing_comes_before_startup.ensures;
})
