use Rattle.link_open_plan.specs.Startup.{run_of}
use Rattle.world_answers.specs.GuestsPart.Counting.{counts_at}
use Rattle.world_answers.specs.GuestsPart.Lemmas.Starts.{started_shows}
use Rattle.plain_world.proofs.Counting.{goes_up, unstarted_shows}
use Rattle.plain_world.proofs.world.World.start.Goals as goal

pub set_up-requires-clause-starts : goal.set_up-requires-clause-starts
set_up-requires-clause-starts g c = (g.L.Library.files c.args.library.now, c.in_ok-state.ensures.starts)

pub returns-clause-starts : goal.returns-clause-starts
returns-clause-starts g c = c.in-Ok.ensures.starts (g.L.Library.files c.args.library.now) c.in_ok-state.ensures.starts

pub returns-clause-shows : goal.returns-clause-shows
returns-clause-shows g c =
    let starts = returns-clause-starts g c in
    started_shows (run_of c.args.setup.now (g.L.Library.files c.args.library.now)) c.args.setup.now c.in-Ok.run'.world.journal starts.starts.started
    (counts_at g.L.Library.faults g.L.Library.misses c.args.library.now) (counts_at g.L.Library.faults g.L.Library.misses c.startup.new.library)
    (goes_up g.L.Library.faults g.L.Library.misses c.args.library.now c.startup.new.library c.startup.ensures.faults c.startup.ensures.misses) starts.starts.starts

pub returns-in_err-state-clause-shows : goal.returns-in_err-state-clause-shows
returns-in_err-state-clause-shows g c =
    unstarted_shows (run_of c.args.setup.now (g.L.Library.files c.args.library.now)) c.args.setup.now
    c.from_residual.result c.in_err-state.field-0.0
    (counts_at g.L.Library.faults g.L.Library.misses c.args.library.now) (counts_at g.L.Library.faults g.L.Library.misses c.startup.new.library)
    (goes_up g.L.Library.faults g.L.Library.misses c.args.library.now c.startup.new.library c.startup.ensures.faults c.startup.ensures.misses)
    c.from_residual.ensures.1 c.in_err-state.ensures.refused c.in_err-state.ensures.counts
