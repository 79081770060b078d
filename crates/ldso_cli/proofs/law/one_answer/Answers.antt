use Rattle.ldso_cli.specs.Outside.{handed_to}
use Rattle.ldso_cli.proofs.Whole.{one_answer}
use Rattle.ldso_cli.proofs.law.one_answer.Goals as goal

pub returns : goal.returns
returns g c = λ words files first second old new old' new'.
    one_answer c.words_are_one_command.ensures
    (record {
      one_walk = c.one_outcome.ensures.one_walk;
      one_stop = c.one_outcome.ensures.one_stop;
      not_both = c.one_outcome.ensures.not_both;
      sources = record { one = c.one_answer.ensures.one; never_both = c.one_answer.ensures.never_both; one_fault = c.one_answer.ensures.one_fault };
      runs = record {
        one = c.runs_are_one.ensures;
        starts = c.one_startup.ensures.one;
        fails = c.one_startup.ensures.fails;
        accepts = c.accepted_object.ensures.machine;
        run_end = c.one_run_end.ensures.one;
      };
      one_set = c.one_set.ensures;
      one_verdict = c.one_verdict.ensures;
    })
    (handed_to g.K.Sink.writes old new) (handed_to g.J.Sink.writes old' new') words files first second
