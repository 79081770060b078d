use Rattle.std.proofs.Common.{◌<◌, ℕ, List, Some, Err, subst, sym}
use Rattle.history_calls.specs.CallLaws.Counts.{ArePathsAtStart, ShowsInCounts}
use Rattle.history_calls.specs.declared.link_served.startup.StartFault.{StartFault}
use Rattle.history_calls.specs.Startup.{FailsToStart}
use Rattle.link_startup.specs.Startup.{IsNotStarted, refusal_of_start}
use Rattle.link_open_plan.specs.Startup.{run_of}
use Rattle.plain_world.specs.Started.{start_events}
use Rattle.world_turns.specs.Counts.{Counts, ShowInCounts}
use Rattle.world_turns.specs.Run.{Run}
use Rattle.ldso_cli.specs.Outside.{counts_in, library_at}
use Rattle.ldso_cli.proofs.Turned.{IsStart, both_show, is_run, refusal_comes, run_comes}
use Rattle.ldso_cli.proofs.play.play.Goals as goal

pub run-requires : goal.run-requires
run-requires g c = λ item there. subst (λ (count : ℕ). item.hart < count) (sym c.in-Ok.ensures.count) (c.requires.within item there)

pub returns-in-Ok-clause-plays : goal.returns-in-Ok-clause-plays
returns-in-Ok-clause-plays g c =
    let before = library_at g.L.Library.files g.L.Library.faults g.L.Library.misses c.args.library.now in
    let after = library_at g.L.Library.files g.L.Library.faults g.L.Library.misses c.run.new.library in
    let setup = c.args.setup.now in
    let start : IsStart setup before.files c.in-Ok.run' = record { starts = c.in-Ok.ensures.starts; count = c.in-Ok.ensures.count; folders = c.in-Ok.ensures.folders; begun = c.in-Ok.ensures.begun } in
    let run : Run (run_of setup before.files) setup c.args.items.now c.run.new.self.world =
    is_run c.played_worlds_are_runs.ensures.played setup before.files c.args.items.now c.in-Ok.run' c.run.new.self.world start (rw c.start.ensures.files at c.run.ensures.plays) in
    let between : Counts = record { faults = g.L.Library.faults c.start.new.library; misses = g.L.Library.misses c.start.new.library } in
    let counted = c.run.ensures.counts in
    let shown : ShowInCounts setup.folders counted.appended between (counts_in after) =
    subst (λ (folders : List (List ℕ)). ShowInCounts folders counted.appended between (counts_in after)) c.in-Ok.ensures.folders counted.all in
    let shows : ShowInCounts setup.folders c.run.new.self.world.journal (counts_in before) (counts_in after) =
    both_show c.counts_show.ensures.join setup c.in-Ok.run'.world.journal counted.appended c.run.new.self.world.journal before after between counted.are c.in-Ok.ensures.shows shown in
    run_comes setup before after c.args.items.now c.run.new.self.world c.over.result.ended c.over.result.left run c.over.ensures shows

pub returns-in-Err-Refused-clause-plays : goal.returns-in-Err-Refused-clause-plays
returns-in-Err-Refused-clause-plays g c =
    let before = library_at g.L.Library.files g.L.Library.faults g.L.Library.misses c.args.library.now in
    let after = library_at g.L.Library.files g.L.Library.faults g.L.Library.misses c.start.new.library in
    let setup = c.args.setup.now in
    let w = run_of setup before.files in
    let fails : FailsToStart w setup c.in-Err-Refused.fault c.in-Err-Refused.journal.events = subst (IsNotStarted w setup) c.in-Err-Refused.field-0-is c.in-Err-Refused.ensures.refused in
    let Refuses : StartFault → Type 0 = λ why. ShowsInCounts (ArePathsAtStart setup.folders setup.program) (refusal_of_start why) before.faults after.faults before.misses after.misses in
    let counts : ShowsInCounts (ArePathsAtStart setup.folders setup.program) (Some c.in-Err-Refused.fault) before.faults after.faults before.misses after.misses =
    subst Refuses c.in-Err-Refused.field-0-is c.in-Err-Refused.ensures.counts in
    let Shown : StartFault → Type 0 = λ why. ShowInCounts setup.folders (start_events (Err why)) (counts_in before) (counts_in after) in
    let shows : ShowInCounts setup.folders c.in-Err-Refused.journal.events (counts_in before) (counts_in after) = subst Shown c.in-Err-Refused.field-0-is c.in-Err-Refused.ensures.shows in
    refusal_comes setup before after c.args.items.now c.in-Err-Refused.fault c.in-Err-Refused.journal.events c.not_started.result.ended c.not_started.result.left fails c.not_started.ensures counts shows
