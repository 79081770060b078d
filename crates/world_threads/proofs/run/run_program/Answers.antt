use Rattle.std.proofs.Common.{◌≤◌, refl, subst, sym, arith}
use Rattle.history_calls.specs.CallLaws.Counts.{ArePathsAtStart, ShowsInCounts}
use Rattle.history_calls.specs.Startup.{Starts}
use Rattle.history_calls.specs.declared.link_served.startup.Started.{Started}
use Rattle.link_open_plan.specs.Startup.{run_of}
use Rattle.link_startup.specs.Startup.{StartsWhereItCan, startup_refusal}
use Rattle.link_state.specs.Table.{LinkTable}
use Rattle.world_answers.specs.GuestsPart.Counting.{counts_at}
use Rattle.world_threads.specs.Running.{ComesOf}
use Rattle.world_threads.specs.declared.run.Ran.{Ran}
use Rattle.world_threads.proofs.Comes.{counted, ran, refused, rises, shows, unstarted_whole, whole}
use Rattle.world_threads.proofs.Counted.{unstarted_shows}
use Rattle.world_threads.proofs.run.run_program.Goals as goal

pub run_started-requires-clause-starts : goal.run_started-requires-clause-starts
run_started-requires-clause-starts g c = λ _ _.
    subst (λ fs. Starts (run_of c.args.setup.now fs) c.args.setup.now c.in-Ok.state.events c.in-Ok.started) (sym c.startup.ensures.files) c.in-Ok.ensures.starts

pub returns-in-Ok-clause-ran : goal.returns-in-Ok-clause-ran
returns-in-Ok-clause-ran g c =
    let last = counts_at g.L.Library.faults g.L.Library.misses c.run_started.result.1 in
    let between = counts_at g.L.Library.faults g.L.Library.misses c.startup.new.library in
    ran (run_of c.args.setup.now (g.L.Library.files c.args.library)) c.args.setup.now c.in-Ok.state.events between last c.run_started.result.0
    (subst (λ fs. ComesOf (run_of c.args.setup.now fs) c.args.setup.now c.in-Ok.state.events between c.run_started.result.0 last) c.startup.ensures.files c.run_started.ensures.comes)

pub returns-in-Ok-clause-refused : goal.returns-in-Ok-clause-refused
returns-in-Ok-clause-refused g c =
    let last = counts_at g.L.Library.faults g.L.Library.misses c.run_started.result.1 in
    let between = counts_at g.L.Library.faults g.L.Library.misses c.startup.new.library in
    refused (run_of c.args.setup.now (g.L.Library.files c.args.library)) c.args.setup.now c.in-Ok.state.events between last c.run_started.result.0
    (subst (λ fs. ComesOf (run_of c.args.setup.now fs) c.args.setup.now c.in-Ok.state.events between c.run_started.result.0 last) c.startup.ensures.files c.run_started.ensures.comes)

pub returns-in-Ok-clause-whole : goal.returns-in-Ok-clause-whole
returns-in-Ok-clause-whole g c =
    let last = counts_at g.L.Library.faults g.L.Library.misses c.run_started.result.1 in
    let between = counts_at g.L.Library.faults g.L.Library.misses c.startup.new.library in
    whole (run_of c.args.setup.now (g.L.Library.files c.startup.new.library)) c.args.setup.now c.in-Ok.state.events between last c.run_started.result.0 c.run_started.ensures.comes
    (g.L.Library.files c.args.library) (g.L.Library.faults c.args.library) (g.L.Library.faults c.run_started.result.1)

pub returns-in-Ok-clause-counts : goal.returns-in-Ok-clause-counts
returns-in-Ok-clause-counts g c =
    let last = counts_at g.L.Library.faults g.L.Library.misses c.run_started.result.1 in
    let between = counts_at g.L.Library.faults g.L.Library.misses c.startup.new.library in
    counted (run_of c.args.setup.now (g.L.Library.files c.startup.new.library)) c.args.setup.now c.in-Ok.state.events between last c.run_started.result.0 c.run_started.ensures.comes
    (ArePathsAtStart c.args.setup.now.folders c.args.setup.now.program)
    (g.L.Library.faults c.args.library) (g.L.Library.faults c.run_started.result.1) (g.L.Library.misses c.args.library) (g.L.Library.misses c.run_started.result.1)

pub returns-in-Ok-clause-shows : goal.returns-in-Ok-clause-shows
returns-in-Ok-clause-shows g c =
    let last = counts_at g.L.Library.faults g.L.Library.misses c.run_started.result.1 in
    let between = counts_at g.L.Library.faults g.L.Library.misses c.startup.new.library in
    let first = counts_at g.L.Library.faults g.L.Library.misses c.args.library in
    shows (run_of c.args.setup.now (g.L.Library.files c.args.library)) c.args.setup.now c.in-Ok.state.events between last c.counts_show.ensures.join c.in-Ok.started first
    (record { faults = c.startup.ensures.faults; misses = c.startup.ensures.misses }) c.in-Ok.ensures.starts refl c.run_started.result.0
    (subst (λ fs. ComesOf (run_of c.args.setup.now fs) c.args.setup.now c.in-Ok.state.events between c.run_started.result.0 last) c.startup.ensures.files c.run_started.ensures.comes)

pub returns-in-Ok-clause-faults : goal.returns-in-Ok-clause-faults
returns-in-Ok-clause-faults g c =
    let last = counts_at g.L.Library.faults g.L.Library.misses c.run_started.result.1 in
    let between = counts_at g.L.Library.faults g.L.Library.misses c.startup.new.library in
    let later = rises (run_of c.args.setup.now (g.L.Library.files c.startup.new.library)) c.args.setup.now c.in-Ok.state.events between last c.run_started.result.0 c.run_started.ensures.comes in
    let more : g.L.Library.faults c.startup.new.library ≤ g.L.Library.faults c.run_started.result.1 = later.faults in
    omega (arith, c.startup.ensures.faults, more)

pub returns-in-Ok-clause-misses : goal.returns-in-Ok-clause-misses
returns-in-Ok-clause-misses g c =
    let last = counts_at g.L.Library.faults g.L.Library.misses c.run_started.result.1 in
    let between = counts_at g.L.Library.faults g.L.Library.misses c.startup.new.library in
    let later = rises (run_of c.args.setup.now (g.L.Library.files c.startup.new.library)) c.args.setup.now c.in-Ok.state.events between last c.run_started.result.0 c.run_started.ensures.comes in
    let more : g.L.Library.misses c.startup.new.library ≤ g.L.Library.misses c.run_started.result.1 = later.misses in
    omega (arith, c.startup.ensures.misses, more)

pub returns-in-Err-clause-whole : goal.returns-in-Err-clause-whole
returns-in-Err-clause-whole g c =
    unstarted_whole (LinkTable × Started) Ran c.args.setup.now (g.L.Library.files c.args.library) (g.L.Library.faults c.args.library) (g.L.Library.faults c.startup.new.library) c.in-Err.why
    (subst (λ r. StartsWhereItCan c.args.setup.now (g.L.Library.files c.args.library) (g.L.Library.faults c.args.library) (g.L.Library.faults c.startup.new.library) r) c.in-Err.is c.startup.ensures.whole)

pub returns-in-Err-clause-counts : goal.returns-in-Err-clause-counts
returns-in-Err-clause-counts g c =
    subst (λ r. ShowsInCounts (ArePathsAtStart c.args.setup.now.folders c.args.setup.now.program) (startup_refusal r)
    (g.L.Library.faults c.args.library) (g.L.Library.faults c.startup.new.library) (g.L.Library.misses c.args.library) (g.L.Library.misses c.startup.new.library)) c.in-Err.is c.startup.ensures.counts

pub returns-in-Err-clause-shows : goal.returns-in-Err-clause-shows
returns-in-Err-clause-shows g c =
    let last = counts_at g.L.Library.faults g.L.Library.misses c.startup.new.library in
    let first = counts_at g.L.Library.faults g.L.Library.misses c.args.library in
    unstarted_shows (run_of c.args.setup.now (g.L.Library.files c.args.library)) c.args.setup.now c.in-Err.why first last
    (record { faults = c.startup.ensures.faults; misses = c.startup.ensures.misses }) c.in-Err.ensures.refused
    (subst (λ r. ShowsInCounts (ArePathsAtStart c.args.setup.now.folders c.args.setup.now.program) (startup_refusal r)
    (g.L.Library.faults c.args.library) (g.L.Library.faults c.startup.new.library) (g.L.Library.misses c.args.library) (g.L.Library.misses c.startup.new.library)) c.in-Err.is c.startup.ensures.counts)
