use Rattle.std.proofs.Common.{ap, map}
use Rattle.history_state.specs.Setting.{Setting}
use Rattle.link_open_plan.specs.Startup.{run_of}
use Rattle.world_answers.specs.GuestsPart.Counting.{counts_at}
use Rattle.world_threads.proofs.Named.{comes, set_off}
use Rattle.world_threads.proofs.run.run_named.Goals as goal

pub set_up-requires-clause-accepts : goal.set_up-requires-clause-accepts
set_up-requires-clause-accepts g c =
    c.accepted_object.ensures.machine g.J.RunNaming.setting.machine (ap (λ (w : Setting). w.machine.verdict) c.requires.run.setting_is)

pub returns-in-Ok-clause-comes : goal.returns-in-Ok-clause-comes
returns-in-Ok-clause-comes g c =
    let w = run_of c.args.setup.now (g.L.Library.files c.args.library) in
    let first = counts_at g.L.Library.faults g.L.Library.misses c.args.library in
    comes g.J.RunNaming.setting g.J.RunNaming.journal g.J.RunNaming.counts w c.args.state.events first c.requires.run c.args.setup.now c.run_ready-ran.result.0
    (counts_at g.L.Library.faults g.L.Library.misses c.run_ready-ran.result.1)
    (c.run_ready-ran.ensures.threaded c.args.setup.now c.args.started
    (set_off g.J.RunNaming.setting g.J.RunNaming.journal g.J.RunNaming.counts w c.args.state.events first c.requires.run c.args.setup.now c.args.started c.in-Ok.ready.entry
    (map (λ r. r.seat) c.in-Ok.ready.runs.items) (map (λ r. r.hart.hart) c.in-Ok.ready.runs.items) (map (λ r. r.blocks) c.in-Ok.ready.runs.items)
    c.requires.starts c.in-Ok.ensures.entry c.in-Ok.ensures.runs))
    c.run_ready-ran.ensures.begins c.run_ready-ran.ensures.shown c.run_ready-ran.ensures.rise
