use Rattle.std.proofs.Common.{refl}
use Rattle.history_journal.specs.Following.{machine_of}
use Rattle.trace_laws.proofs.Passing.{runs_pass}
use Rattle.trace_laws.proofs.law.runs_pass.Goals as goal

pub returns : goal.returns
returns c = runs_pass (record {
  pass = c.legal_traces_pass.ensures;
  name = c.starts_name_harts.ensures;
  alone = c.runs_begin_alone.ensures;
  last = c.end_lines_are_last.ensures;
  sound = c.runs_stay_sound.ensures.run;
  whole = c.runs_are_whole.ensures.run;
  only = λ harts. c.accepted_object.ensures.machine (machine_of harts) refl;
})
