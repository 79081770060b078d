use Rattle.history_calls.specs.Lemmas.Finishing.{passed_first, runs_a_function}
use Rattle.history_calls.proofs.law.functions_run_in_order.Goals as goal

pub returns-clause-passed : goal.returns-clause-passed
returns-clause-passed c = passed_first

pub returns-clause-runs : goal.returns-clause-runs
returns-clause-runs c = runs_a_function
