-- Each step of a run keeps what holds at each moment of it.
use Rattle.std.proofs.Common.{◌≡◌, ℕ, false, List, ◌++◌, Some, sym, ap, subst, ◌∙◌}
use Rattle.std.specs.List.{slice_get}
use Rattle.std.proofs.lemmas.Option.{none-some}
use Rattle.history_event.specs.declared.event.Event.{Event}
use Rattle.history_event.specs.declared.hart_end.HartEnd.TheVariants as ends
use Rattle.history_state.specs.After.{after}
use Rattle.history_state.specs.Objects.{is_startup}
use Rattle.history_state.specs.Setting.{Setting}
use Rattle.hart_moves.specs.Harts.{HartState}
use Rattle.hart_moves.specs.Moves.{ended, events_of}
use Rattle.world_turns.specs.Laws.{FinalsBeginSound, FinalsLackSound, SettlingIsSound, StartIsSound, TurnsAreSound}
use Rattle.world_turns.specs.Run.{LacksMemory, settled}
use Rattle.world_turns.specs.Sound.{Sound}
use Rattle.world_turns.specs.Turn.{Turn}
use Rattle.world_turns.specs.World.{World, found_journal, settling}
use Rattle.world_turns.specs.WorldEnds.Laws.{FinalsBegin, FinalsLack, StartFits, TurnsKeepBefore, TurnsKeepFinals}
use Rattle.world_turns.proofs.WorldEnds.Turns.{settled_before, settled_finals}
use Rattle.world_turns.specs.WorldFrames.Finals.{FinalsBelong}
use Rattle.world_turns.specs.WorldFrames.Laws.{FinalsBeginBelong, FinalsKeepFrames, SettlingKeepsFinals, SettlingKeepsFrames, StartBelongs, TurnsKeepFrames}
use Rattle.world_turns.specs.RunningWorlds.Laws.{FinalsLackRuns, FinalsRun, SettledRuns, StartRuns, TurnsRun}
use Rattle.world_turns.specs.RunningWorlds.Running.{Moment, before_finals, in_finals}

abbrev pub StartupIsPast : Type 0
StartupIsPast = (events more : List Event) → is_startup (after events) ≡ false → is_startup (after (events ++ more)) ≡ false

pub record Laws : Type 0 where
  pub past : StartupIsPast
  pub start_sound : StartIsSound
  pub turns_sound : TurnsAreSound
  pub finals_sound : FinalsBeginSound
  pub lack_sound : FinalsLackSound
  pub settling_sound : SettlingIsSound
  pub start_ends : StartFits
  pub turns_before : TurnsKeepBefore
  pub turns_finals : TurnsKeepFinals
  pub finals_begin : FinalsBegin
  pub finals_lack : FinalsLack
  pub start_frames : StartBelongs
  pub turns_frames : TurnsKeepFrames
  pub begin_frames : FinalsBeginBelong
  pub finals_frames : FinalsKeepFrames
  pub settled_frames : SettlingKeepsFrames
  pub settled_finals : SettlingKeepsFinals

pub start_runs : Laws → StartRuns
start_runs laws w setup world only started loaded = record {
  loaded = loaded;
  sound = laws.start_sound w setup world only started;
  moment = before_finals (laws.start_ends w setup world started) (laws.start_frames w setup world started);
}

module _ (laws : Laws) where
  -- ---- a turn

  turn_moment : (w : Setting) (h : ℕ) (old new : World) → Sound w new → Turn w h old new → Moment w old → Moment w new
  turn_moment w h old new sound turn (before_finals ends frames) =
      before_finals (laws.turns_before w h old new turn ends) (laws.turns_frames w h old new sound.legal turn ends frames)
  turn_moment w h old new sound turn (in_finals ends frames) =
      in_finals (laws.turns_finals w h old new turn ends) (laws.finals_frames w h old new sound.legal turn ends frames)

  turn_loaded : (w : Setting) (h : ℕ) (old new : World) (turn : Turn w h old new) → is_startup (after old.journal) ≡ false
      → is_startup (after new.journal) ≡ false
  turn_loaded w h old new turn loaded =
      subst (λ (journal : List Event). is_startup (after journal) ≡ false) (sym turn.journal)
      (laws.past (found_journal old turn.did) (events_of turn.did) (laws.past old.journal _ loaded))

  pub turns_run : TurnsRun
  turns_run w h old new only running turn =
      let sound : Sound w new = laws.turns_sound w h old new only running.sound turn in record {
        loaded = turn_loaded w h old new turn running.loaded;
        sound = sound;
        moment = turn_moment w h old new sound turn running.moment;
      }

  -- ---- the final destructors

  pub finals_run : FinalsRun
  finals_run w registers old new over begins before running = record {
    loaded = ap (λ (v : World). is_startup (after v.journal)) begins.begun ∙ running.loaded;
    sound = laws.finals_sound w registers old new begins running.sound;
    moment = in_finals (laws.finals_begin w registers old new over begins before) (laws.begin_frames w registers old new over begins before);
  }

  -- the first hart has ended
  lack_belongs : (w : Setting) (old new : World) → LacksMemory w old new → FinalsBelong w new
  lack_belongs w old new lack first at on = absurd (none-some ends.Memory (sym on ∙ over))
    where
      is : Some (ended ends.Memory lack.first) ≡ Some first
      is = ap (λ (v : World). slice_get v.harts 0) (sym lack.leaves) ∙ at

      over : first.«end» ≡ Some ends.Memory
      over = let same : ended ends.Memory lack.first ≡ first = cc in ap (λ (b : HartState). b.«end») (sym same)

  pub finals_lack_runs : FinalsLackRuns
  finals_lack_runs w old new only over lack before running = record {
    loaded = subst (λ (v : World). is_startup (after v.journal) ≡ false) (sym lack.leaves) (laws.past (old.journal ++ settling old.harts) _ (laws.past old.journal (settling old.harts) running.loaded));
    sound = laws.lack_sound w old new only running.sound lack;
    moment = in_finals (laws.finals_lack w old new over lack before) (lack_belongs w old new lack);
  }

  -- ---- what is settled

  settled_moment : (w : Setting) (world : World) → Moment w world → Moment w (settled world)
  settled_moment w world (before_finals ends frames) = before_finals (settled_before w world ends) (laws.settled_frames world frames)
  settled_moment w world (in_finals ends frames) = in_finals (settled_finals w world ends) (laws.settled_finals w world frames)

  pub settled_runs : SettledRuns
  settled_runs w world only running = record {
    loaded = laws.past world.journal (settling world.harts) running.loaded;
    sound = laws.settling_sound w world only running.sound;
    moment = settled_moment w world running.moment;
  }
