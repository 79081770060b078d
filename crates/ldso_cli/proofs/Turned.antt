-- What a run comes to: one that was played, and one that was refused.
use Rattle.std.proofs.Common.{◌≡◌, inl, inr, suc, Bool, List, [], ◌∷◌, ◌++◌, length, map, Option, Some, Result, Ok, Err, refl, sym, ap, subst, ◌∙◌}
use Rattle.ld_base.specs.declared.fault.DlFault.{DlFault}
use Rattle.ld_base.specs.declared.fault.DlFault.TheVariants as dl
use Rattle.ld_base.specs.declared.linking.File.{File}
use Rattle.history_calls.specs.CallLaws.Coming.{IsOver}
use Rattle.history_calls.specs.CallLaws.Counts.{ArePathsAtStart, ShowsInCounts}
use Rattle.hart_moves.specs.Harts.{HartState}
use Rattle.hart_moves.specs.Starting.{starting_registers}
use Rattle.history_journal.specs.Following.{machine_of}
use Rattle.history_event.specs.declared.event.Event.{Event}
use Rattle.history_event.specs.declared.hart_end.HartEnd.{HartEnd}
use Rattle.history_state.specs.Setting.{Setting}
use Rattle.history_calls.specs.declared.link_served.startup.Setup.{Setup}
use Rattle.history_calls.specs.Startup.{FailsToStart, harts_of}
use Rattle.link_open_plan.specs.Startup.{run_of}
use Rattle.plain_world.specs.Ends.{AreEndsOf}
use Rattle.plain_world.specs.Laws.{PlayedIsRun}
use Rattle.plain_world.specs.Playing.{InEachRun, Plays}
use Rattle.plain_world.specs.Started.{StartsAt}
use Rattle.plain_world.specs.Table.{WorldTable}
use Rattle.trace_text.specs.declared.run_texts.record.RunRecord.{RunRecord}
use Rattle.trace_text.specs.declared.run_texts.run_end.RunEnd.{RunEnd}
use Rattle.world_turns.specs.declared.schedules.schedule.TurnItem.{TurnItem}
use Rattle.world_turns.specs.Counts.{Counts, CountsJoin, ShowInCounts}
use Rattle.world_turns.specs.Run.{Run}
use Rattle.world_turns.specs.World.{World}
use Rattle.ldso_cli.specs.Outside.{LibraryAt, counts_in}
use Rattle.ldso_cli.specs.Played.{IsPlayed, LeavesRefusal, LeavesRun}

-- ---- the run

-- a run that has just started is that of its setup
pub record IsStart (setup : Setup) (files : Option (List File)) (run : WorldTable) : Type 0 where
  pub starts : StartsAt (run_of setup files) setup run.world run.entry
  pub count : run.count ≡ harts_of setup
  pub folders : run.folders ≡ setup.folders
  pub begun : run.begun ≡ Bool.false

pub is_run : PlayedIsRun → (setup : Setup) (files : Option (List File)) (items : List TurnItem) (run : WorldTable) (world : World) → IsStart setup files run
    → InEachRun run files (λ w. Plays w run.begun (starting_registers run.entry) items run.world world) → Run (run_of setup files) setup items world
is_run played setup files items run world start plays =
    let w : Setting = run_of setup files in
    let over : IsOver (machine_of run.count) run.folders files w = record { machine = ap machine_of (sym start.count); folders_are = sym start.folders; files_are = refl } in
    played w setup run.entry items run.world world start.starts (subst (λ (b : Bool). Plays w b (starting_registers run.entry) items run.world world) start.begun (plays w over))

-- ---- ends

pub ends_length : (harts : List HartState) (ends : List HartEnd) → AreEndsOf harts ends → length ends ≡ length harts
ends_length [] [] are = refl
ends_length [] (e ∷ ends) are = absurd cc
ends_length (b ∷ harts) [] are = absurd cc
ends_length (b ∷ harts) (e ∷ ends) are =
    let rest : map (λ (x : HartState). x.«end») harts ≡ map Some ends = cc in
    ap suc (ends_length harts ends rest)

-- ---- what it comes to

-- the counts are shown of the journal
abbrev Shows : Setup → List Event → (before after : LibraryAt) → Type 0
Shows setup journal before after = ShowInCounts setup.folders journal (counts_in before) (counts_in after)

-- startup's first, and then the run's
pub both_show : CountsJoin → (setup : Setup) (one other journal : List Event) (before after : LibraryAt) (between : Counts) → journal ≡ one ++ other
    → ShowInCounts setup.folders one (counts_in before) between → ShowInCounts setup.folders other between (counts_in after) → Shows setup journal before after
both_show join setup one other journal before after between are first second =
    subst (λ (es : List Event). Shows setup es before after) (sym are) (join setup.folders one other (counts_in before) between (counts_in after) first second)

pub run_comes : (setup : Setup) (before after : LibraryAt) (items : List TurnItem) (world : World) (ended : Result RunEnd DlFault) (left : RunRecord) → Run (run_of setup before.files) setup items world → LeavesRun world ended left
    → Shows setup world.journal before after → IsPlayed setup items before after ended left
run_comes setup before after items world ended left run leaves shows = record {
  is = inr (record { world = world; runs = run; leaves = leaves });
  read_fault = λ path e. absurd (other (dl.ReadFault path) e);
  missing = λ name e. absurd (other (dl.MissingLibrary name) e);
  counted = subst (λ (es : List Event). Shows setup es before after) (sym leaves.journal) shows;
}
  where
    other : (fault : DlFault) → ended ≡ Err fault → ⊥
    other fault e = (let no : Ok leaves.run_end ≡ Err fault = sym leaves.ended_is ∙ e in cc no)

pub refusal_comes : (setup : Setup) (before after : LibraryAt) (items : List TurnItem) (fault : DlFault) (events : List Event) (ended : Result RunEnd DlFault) (left : RunRecord) → FailsToStart (run_of setup before.files) setup fault events
    → LeavesRefusal fault events ended left → ShowsInCounts (ArePathsAtStart setup.folders setup.program) (Some fault) before.faults after.faults before.misses after.misses → Shows setup events before after → IsPlayed setup items before after ended left
refusal_comes setup before after items fault events ended left fails leaves counts shows = record {
  is = inl (record { fault = fault; events = events; fails = fails; leaves = leaves });
  read_fault = λ path e. counts.failed path (ap Some (same (dl.ReadFault path) e));
  missing = λ name e. counts.missed name (ap Some (same (dl.MissingLibrary name) e));
  counted = subst (λ (es : List Event). Shows setup es before after) (sym leaves.journal) shows;
}
  where
    same : (other : DlFault) → ended ≡ Err other → fault ≡ other
    same other e = (let one : Err fault ≡ Err other = sym leaves.ended_is ∙ e in cc)
