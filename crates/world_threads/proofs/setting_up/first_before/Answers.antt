use Rattle.std.proofs.lemmas.Result.{on_ok_weaker}
use Rattle.world_threads.proofs.Setting.{runs_first}
use Rattle.world_threads.proofs.setting_up.first_before.Goals as goal

pub returns-clause-harts : goal.returns-clause-harts
returns-clause-harts g c = on_ok_weaker c.run_before.result
    (λ ran fuel entries got same.
    runs_first (λ r. r.hart.hart) c.args.runs.now _ c.index-runs-0.result c.args.entry c.args.functions fuel entries got same ran)
    c.run_before.ensures.run
