use Rattle.std.proofs.Common.{IfOk, subst}
use Rattle.link_open_plan.specs.Startup.{run_of}
use Rattle.ldso_cli.specs.Outside.{library_at}
use Rattle.ldso_cli.specs.Threads.{ComesOnThreads}
use Rattle.ldso_cli.proofs.Threaded.{come_legal, run_answers}
use Rattle.ldso_cli.proofs.threads.run.Goals as goal

pub told-requires : goal.told-requires
told-requires g c =
    let before = library_at g.L.Library.files g.L.Library.faults g.L.Library.misses c.args.library in
    let after = library_at g.L.Library.files g.L.Library.faults g.L.Library.misses c.run_setup-threaded.result.1 in
    let left = c.in-Ok.threaded.played.left in
    let comes = subst (λ r. IfOk r (λ t. ComesOnThreads c.args.command.now.setup before after t.played.ended t.played.left t.trails)) c.in-Ok.is c.run_setup-threaded.ensures.comes in
    c.events_are_sayable.ensures.legal (run_of c.args.command.now.setup before.files) left.journal.events
    (come_legal c.served_calls_are_legal.ensures.fails c.args.command.now.setup before after c.in-Ok.threaded.played.ended left c.in-Ok.threaded.trails comes)

pub returns-in-Ok-clause-comes : goal.returns-in-Ok-clause-comes
returns-in-Ok-clause-comes g c =
    let before = library_at g.L.Library.files g.L.Library.faults g.L.Library.misses c.args.library in
    let after = library_at g.L.Library.files g.L.Library.faults g.L.Library.misses c.run_setup-threaded.result.1 in
    let comes = subst (λ r. IfOk r (λ t. ComesOnThreads c.args.command.now.setup before after t.played.ended t.played.left t.trails)) c.in-Ok.is c.run_setup-threaded.ensures.comes in
    run_answers c.args.command.now before after c.in-Ok.threaded c.told.result comes c.told.ensures.end c.told.ensures.text
