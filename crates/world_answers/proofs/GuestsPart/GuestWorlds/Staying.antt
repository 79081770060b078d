-- A run stays at a moment: with its start, each turn, and the begin of its final destructors or want of memory for them.
use Rattle.std.proofs.Common.{◌≡◌, ℕ, refl, sym, ap, subst, ◌∙◌}
use Rattle.std.proofs.lemmas.Bool.{true≢false}
use Rattle.history_calls.specs.declared.link_served.startup.Setup.{Setup}
use Rattle.history_state.specs.Accepted.{AcceptsOnly}
use Rattle.history_state.specs.Setting.{Machine, Setting}
use Rattle.history_journal.specs.Following.{machine_of}
use Rattle.history_calls.specs.UntoldFiles.Untold.{AllowedUntold, ServesUntold, StartsUntold, untold}
use Rattle.world_turns.specs.TurnWrites.Laws.{FinalsBeginWriting, FinalsLackWriting, StartWrites, WorldsKeepWrites}
use Rattle.world_turns.specs.Run.{IsStarted, LacksMemory}
use Rattle.world_turns.specs.Turn.{TakesTurn, Turn}
use Rattle.world_turns.specs.World.{World}
use Rattle.world_turns.specs.WorldEnds.Ends.{BeforeFinals}
use Rattle.world_turns.specs.WorldEnds.Laws.{StartFits, TurnsKeepBefore}
use Rattle.world_turns.specs.RunningWorlds.Laws.{FinalsLackRuns, FinalsRun, StartRuns, TurnsRun}
use Rattle.world_turns.specs.RunningWorlds.Running.{IsRunning}
use Rattle.world_answers.specs.GuestsPart.GuestWorlds.Laws.{FinalsBeginAt, FinalsLackAt, StartIsAt, TurnsStayAt}
use Rattle.world_answers.specs.GuestsPart.GuestWorlds.Worlds.{MayBeAt, setting_without}
use Rattle.world_answers.proofs.GuestsPart.GuestWorlds.Moving.{untold_turn}

pub record Laws : Type 0 where
  pub only : (count : ℕ) → AcceptsOnly (machine_of count)
  pub untold_events : AllowedUntold
  pub untold_calls : ServesUntold
  pub untold_starts : StartsUntold
  pub start_runs : StartRuns
  pub start_ends : StartFits
  pub start_writes : StartWrites
  pub turns_run : TurnsRun
  pub turns_before : TurnsKeepBefore
  pub turns_write : WorldsKeepWrites
  pub finals_run : FinalsRun
  pub finals_write : FinalsBeginWriting
  pub lack_runs : FinalsLackRuns
  pub lack_writes : FinalsLackWriting

module _ (laws : Laws) where
  -- ---- the start

  -- what the run is given without files is what it is set up with
  without : (w : Setting) (setup : Setup) (world : World) (count : ℕ) → w.machine ≡ machine_of count → IsStarted w setup world
      → untold w ≡ setting_without count setup.folders setup.preload
  without w setup world count same started =
      ap (λ (m : Machine). record (untold w) { machine = m }) same
      ∙ ap (λ (v : Setting). setting_without count v.folders v.preload) started.starts.set_up

  untold_start : (w : Setting) (setup : Setup) (world : World) → IsStarted w setup world → IsStarted (untold w) setup world
  untold_start w setup world x = record {
    started = x.started;
    starts = laws.untold_starts w setup world.journal x.started x.starts;
    fresh = x.fresh;
    are_fresh = x.are_fresh;
    words = x.words;
    harts = x.harts;
  }

  pub start_is_at : StartIsAt
  start_is_at w setup world count same started loaded =
      let without_files : untold w ≡ setting_without count setup.folders setup.preload = without w setup world count same started in
      let bare : IsStarted (untold w) setup world = untold_start w setup world started in
      record {
        preload = setup.preload;
        running = subst (λ (v : Setting). IsRunning v world) without_files
            (laws.start_runs (untold w) setup world (subst AcceptsOnly (sym same) (laws.only count)) bare loaded);
        before = λ none. subst (λ (v : Setting). BeforeFinals v world) without_files (laws.start_ends (untold w) setup world bare);
        writing = laws.start_writes w setup world started;
      }

  -- ---- each turn

  pub turns_stay_at : TurnsStayAt
  turns_stay_at count folders files begun h old new at takes =
      by (takes given (record { machine = refl; folders_are = refl; files_are = refl }))
    where
      given : Setting
      given = record { machine = machine_of count; folders = folders; preload = at.preload; files = files }

      after_turn : Turn (setting_without count folders at.preload) h old new → MayBeAt count folders begun new
      after_turn turn =
          let w : Setting = setting_without count folders at.preload in
          record {
            preload = at.preload;
            running = laws.turns_run w h old new (laws.only count) at.running turn;
            before = λ none. laws.turns_before w h old new turn (at.before none);
            writing = laws.turns_write w h old new turn at.writing;
          }

      by : TakesTurn given h old new → MayBeAt count folders begun new
      by (TakesTurn.turn turn) = after_turn (untold_turn laws.untold_events laws.untold_calls given h old new turn)
      by (TakesTurn.passed_over b reason there over same) = subst (MayBeAt count folders begun) (sym same) at

  -- ---- the final destructors

  pub finals_begin_at : FinalsBeginAt
  finals_begin_at count folders registers old new at over begins =
      record {
        preload = at.preload;
        running = laws.finals_run (setting_without count folders at.preload) registers old new over begins (at.before refl) at.running;
        before = λ none. absurd (true≢false none);
        writing = laws.finals_write registers old new begins at.writing;
      }

  pub finals_lack_at : FinalsLackAt
  finals_lack_at count folders old new at over lacks =
      let w : Setting = setting_without count folders at.preload in
      let lack : LacksMemory w old new = lacks w refl in
      record {
        preload = at.preload;
        running = laws.lack_runs w old new (laws.only count) over lack (at.before refl) at.running;
        before = λ none. absurd (true≢false none);
        writing = laws.lack_writes w old new lack at.writing;
      }
