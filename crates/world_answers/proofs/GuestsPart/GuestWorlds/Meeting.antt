-- What the next turn of a hart meets in a run at a moment.
use Rattle.std.proofs.Common.{◌≡◌, inr, ℕ, ◌<◌, List, length, refl, sym, ap, subst, ◌∙◌}
use Rattle.std.proofs.lemmas.Option.{slice_get_within}
use Rattle.history_event.specs.declared.event.Event.{Event}
use Rattle.history_event.specs.declared.event.Event.TheVariants.{Fini}
use Rattle.history_state.specs.Accepted.{AcceptsOnly}
use Rattle.history_state.specs.After.{after}
use Rattle.history_state.specs.Allowed.{Allowed, MayEnd}
use Rattle.history_state.specs.Legal.{Lawful}
use Rattle.history_state.specs.Owed.{ends_at_most, times_ended}
use Rattle.history_state.specs.Setting.{Setting}
use Rattle.history_state.specs.State.{State}
use Rattle.history_state.specs.Lemmas.History.{legal_is_lawful}
use Rattle.history_journal.specs.Following.{machine_of}
use Rattle.hart_moves.specs.Due.{Due, due}
use Rattle.hart_moves.specs.Harts.{HartState, Resolving}
use Rattle.hart_moves.specs.Moves.{AreAllowed, own_fini}
use Rattle.world_memory.specs.TurnParts.Settling.{SettlingMayCome}
use Rattle.world_turns.specs.TurnWrites.Laws.{ServedMayBeWritten, SettlingKeepsWriting}
use Rattle.world_turns.specs.World.{World}
use Rattle.world_turns.proofs.WorldEnds.Turns.{finals_are, settled_before}
use Rattle.world_turns.specs.WorldFrames.Laws.{FinalsPass}
use Rattle.world_turns.specs.RunningWorlds.Laws.{CompletesPass, FinalisesMay, HartsMayEnd, IdleIsFree, MayFinalise, SettledRuns, UnmapsFinished}
use Rattle.world_turns.specs.RunningWorlds.Running.{IsRunning}
use Rattle.world_answers.specs.ReturnsPart.Completing.{MayPass}
use Rattle.world_answers.specs.ReturnsPart.FinalTurns.Laws.{FinalsGoOn}
use Rattle.world_answers.specs.GuestsPart.GuestWorlds.Laws.{CallsNow, EndsNow, FinalsNow, FirstEndsNow, PassesNow, SettlesNow}
use Rattle.world_answers.specs.GuestsPart.GuestWorlds.Worlds.{MayEndNow, setting_without}
use Rattle.world_answers.proofs.GuestsPart.GuestWorlds.Dues.{HasTurn, has_turn}
use Rattle.world_answers.proofs.GuestsPart.GuestWorlds.Machines.{ends_there, exited_there, own_there}

-- a hart that may end has ended less often than it may
abbrev pub EndsAreFew : Type 0
EndsAreFew = (w : Setting) (events : List Event) (hart : ℕ) → Lawful w.machine events → MayEnd w (after events) hart
    → times_ended hart (after events).endings < ends_at_most hart

pub record Laws : Type 0 where
  pub only : (count : ℕ) → AcceptsOnly (machine_of count)
  pub may_settle : SettlingMayCome
  pub settled : SettledRuns
  pub settled_writes : SettlingKeepsWriting
  pub may_end : HartsMayEnd
  pub few_ends : EndsAreFew
  pub free : IdleIsFree
  pub finished : UnmapsFinished
  pub written : ServedMayBeWritten
  pub passes : CompletesPass
  pub finalises : FinalisesMay
  pub next_passes : FinalsPass
  pub goes_on : FinalsGoOn

module _ (laws : Laws) where
  pub settles_now : SettlesNow
  settles_now count folders begun world at =
      let w : Setting = setting_without count folders at.preload in
      record {
        may = record { setting = w; machine = refl; may = laws.may_settle w world (laws.only count) at.running.sound };
        at = record {
          preload = at.preload;
          running = laws.settled w world (laws.only count) at.running;
          before = λ none. settled_before w world (at.before none);
          writing = laws.settled_writes world at.writing;
        };
      }

  -- ---- ends

  may_end_now : (count : ℕ) (folders preload : List (List ℕ)) (world : World) (h : ℕ) → IsRunning (setting_without count folders preload) world
      → h < length world.harts → MayEnd (setting_without count folders preload) (after world.journal) h → MayEndNow count world.journal h
  may_end_now count folders preload world h running within may =
      let w : Setting = setting_without count folders preload in
      record {
        hart = subst (λ (n : ℕ). h < n) running.sound.harts within;
        times = laws.few_ends w world.journal h (legal_is_lawful w world.journal running.sound.legal) may;
        may = λ v on. ends_there w v (sym on) (after world.journal) h may;
      }

  pub ends_now : EndsNow
  ends_now count folders begun world h b at there runs =
      may_end_now count folders at.preload world h at.running (slice_get_within world.harts h b there)
      (laws.may_end (setting_without count folders at.preload) world h b at.running there runs)

  pub first_ends_now : FirstEndsNow
  first_ends_now count folders world at over some =
      may_end_now count folders at.preload world 0 at.running some
      (inr (refl, finals_are (setting_without count folders at.preload) world over (at.before refl)))

  -- ---- calls

  pub calls_now : CallsNow
  calls_now count folders begun world h b call to at there freed_already is =
      let w : Setting = setting_without count folders at.preload in
      let s : State = after world.journal in
      let has : HasTurn b = has_turn s b (Due.serve call to) is refl in
      let idle : b.resolving ≡ Resolving.idle = sym (ap (λ (x : HartState). x.resolving) freed_already) ∙ has.rests in
      record {
        started = at.running.loaded;
        free = laws.free w world h b at.running there idle;
        finished = λ set back so. laws.finished w world h b set back at.running there so;
        writes = λ bytes back so. laws.written s b bytes back (at.writing h b there) so;
        «end» = ends_now count folders begun world h b at there has.runs;
        fuel = has.fuel;
      }

  -- ---- functions that have run

  pub passes_now : PassesNow
  passes_now count folders begun world h b at there = by (due (after world.journal) b) refl
    where
      w : Setting
      w = setting_without count folders at.preload

      by : (d : Due) → due (after world.journal) b ≡ d → MayPass count world.journal h d
      by Due.nothing is = tt
      by (Due.exchange o) is = tt
      by (Due.finish o found) is = tt
      by Due.fuel_out is = tt
      by Due.instruction is = tt
      by (Due.copy copy start bytes) is = tt
      by (Due.serve call back) is = tt
      by (Due.wait for) is = tt
      by (Due.store text stored word more) is = tt
      by (Due.enter function frames) is = tt
      by (Due.complete purpose object rest below) is =
          record { setting = w; machine = refl; may = laws.passes w world h b purpose object rest below at.running there is }
      by (Due.finalise code object) is = tt

  pub finals_now : FinalsNow
  finals_now count folders begun world h b code object at there is =
      let w : Setting = setting_without count folders at.preload in
      let s : State = after world.journal in
      let now : MayFinalise w world h object = laws.finalises w world h b code object at.running there is in
      record {
        first = now.first;
        initialised = now.initialised;
        may = λ v on. laws.goes_on v world.journal h object
            (exited_there w v (sym on) s now.over)
            (subst (λ (n : ℕ). AreAllowed v world.journal (own_fini s n object)) (sym now.first) (own_there w v (sym on) world.journal 0 object now.may))
            (λ past d rest over next. subst (λ (n : ℕ). Allowed v past (Fini n d)) (sym now.first) (laws.next_passes v past d rest over next));
        fuel = (has_turn s b (Due.finalise code object) is refl).fuel;
      }
