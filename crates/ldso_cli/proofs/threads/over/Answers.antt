use Rattle.std.proofs.Common.{List, refl, subst}
use Rattle.history_event.specs.declared.hart_end.HartEnd.{HartEnd}
use Rattle.trace_text.specs.RunTexts.Ends.{IsRunEnd}
use Rattle.ldso_cli.proofs.threads.over.Goals as goal

pub returns : goal.returns
returns c = record {
  left_is = refl;
  trails_are = refl;
  run_end = c.of-run_end.result;
  ended_is = refl;
  decides = subst (λ (l : List HartEnd). IsRunEnd l c.of-run_end.result) c.as_slice.ensures c.of-run_end.ensures;
}
