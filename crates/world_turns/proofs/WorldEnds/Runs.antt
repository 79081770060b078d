-- The ends of a run's worlds, from its start to its end.
use Rattle.std.proofs.Common.{◌≡◌, inl, inr, ⊎_elim, ℕ, zero, suc, ◌+◌, false, IsTrue, List, [], ◌∷◌, ◌++◌, length, map, Some, None, refl, sym, ap, subst, ◌∙◌}
use Rattle.std.specs.List.{Contains, slice_get}
use Rattle.std.proofs.lemmas.Bool.{false≢true}
use Rattle.std.proofs.lemmas.Option.{none-some}
use Rattle.history_event.specs.declared.event.Event.{Event}
use Rattle.history_event.specs.declared.handed.Function.{Function}
use Rattle.history_event.specs.declared.handed.HartEntry.{HartEntry}
use Rattle.history_event.specs.declared.state.Ending.{Ending}
use Rattle.history_calls.specs.declared.link_served.startup.Setup.{Setup}
use Rattle.rv_hart.specs.Registers.{Registers}
use Rattle.history_state.specs.After.{after, after_from}
use Rattle.history_state.specs.Setting.{Setting, are_finals, exited}
use Rattle.history_state.specs.State.{State, empty_state}
use Rattle.history_state.specs.Step.{loaded, step}
use Rattle.history_state.specs.Lemmas.Lists.{none_in}
use Rattle.history_calls.specs.Startup.{FindHarts, found_at, opening}
use Rattle.history_calls.specs.Lemmas.Serving.{harts_have_entries}
use Rattle.hart_moves.specs.Harts.{HartState, Purpose}
use Rattle.hart_moves.specs.Moves.{all_finis, runs}
use Rattle.hart_moves.specs.Starting.{starting_hart, starting_harts, starting_registers}
use Rattle.hart_moves.specs.TurnEvents.Appends.{has_finals, is_of_end}
use Rattle.hart_moves.specs.TurnEvents.Lemmas.Frames.{runs_end, runs_some}
use Rattle.world_turns.specs.Run.{RunEnds, Finalises, IsStarted, has_ended, have_ended}
use Rattle.world_turns.specs.Turn.{Turn}
use Rattle.world_turns.specs.World.{World}
use Rattle.world_turns.specs.Lemmas.Running.{constructs, finishes, items_keep, rounds_end, turns_end}
use Rattle.world_turns.specs.WorldEnds.Ends.{AreEndings, BeforeFinals, EndsFit, InFinals}
use Rattle.world_turns.specs.WorldEnds.Laws.{RunsFinish, RunsFit, StartFits}
use Rattle.world_turns.specs.WorldEnds.Lemmas.Places.{count_none, each_passes}
use Rattle.world_turns.proofs.WorldEnds.Turns.{exits_are, lack_done, finals_begin, finals_lack, finals_settled, finis_settled, settled_before, settled_finals, turns_keep_before, turns_keep_finals}

-- ---- the start

-- a hart that hasn't ended and runs no final destructors
record IsBegun (b : HartState) : Type 0 where
  pub runs : b.«end» ≡ None
  pub none : has_finals b.frames ≡ false

abbrev AllBegun : List HartState → Type 0
AllBegun harts = (h : ℕ) (b : HartState) → slice_get harts h ≡ Some b → IsBegun b

others_begun : (fuel : ℕ) (entries : List HartEntry) → AllBegun (map (starting_hart fuel) entries)
others_begun fuel [] h b at = absurd (none-some b at)
others_begun fuel (entry ∷ rest) zero b at = subst IsBegun (let same : starting_hart fuel entry ≡ b = cc in same) (record { runs = refl; none = refl })
others_begun fuel (entry ∷ rest) (suc h) b at = others_begun fuel rest h b at

all_begun : (fuel : ℕ) (functions : List Function) (entries : List HartEntry) → AllBegun (starting_harts fuel functions entries)
all_begun fuel functions [] h b at = absurd (none-some b at)
all_begun fuel functions (entry ∷ rest) zero b at =
    let same : runs (Purpose.of_startup (starting_registers entry)) functions [] (starting_hart fuel entry) ≡ b = cc in
    subst IsBegun same (record {
      runs = runs_end (Purpose.of_startup (starting_registers entry)) functions [] (starting_hart fuel entry) refl;
      none = runs_some is_of_end (Purpose.of_startup (starting_registers entry)) functions [] (starting_hart fuel entry) refl;
    })
all_begun fuel functions (entry ∷ rest) (suc h) b at = others_begun fuel rest h b at

mapped_length : (fuel : ℕ) (entries : List HartEntry) → length (map (starting_hart fuel) entries) ≡ length entries
mapped_length fuel [] = refl
mapped_length fuel (entry ∷ rest) = ap suc (mapped_length fuel rest)

harts_length : (fuel : ℕ) (functions : List Function) (entries : List HartEntry) → length (starting_harts fuel functions entries) ≡ length entries
harts_length fuel functions [] = refl
harts_length fuel functions (entry ∷ rest) = ap suc (mapped_length fuel rest)

finds_endings : (w : Setting) (past : List Event) (h : ℕ) (names : List (List ℕ)) (found : List Event) (addresses : List ℕ) → FindHarts w past h names found addresses → (s : State) → (after_from s found).endings ≡ s.endings
unfolding after_from
finds_endings w past h names found addresses (FindHarts.no_more _ _) s = refl
finds_endings w past h names found addresses (FindHarts.one_more _ _ name rest serial index value more others finds later) s =
    finds_endings w (past ++ found_at h name serial index value ∷ []) (h + 1) rest more others later s

start_endings : (w : Setting) (setup : Setup) (world : World) (is : IsStarted w setup world) → (after world.journal).endings ≡ []
unfolding after_from loaded
start_endings w setup world is =
    ap (λ (es : List Event). (after es).endings) is.starts.are
    ∙ finds_endings w _ 1 setup.harts is.starts.found is.starts.addresses is.starts.finds (step empty_state (opening setup is.starts.root is.starts.added is.starts.ranges))

none_told : (harts : List HartState) → AllBegun harts → (endings : List Ending) → endings ≡ [] → AreEndings endings harts
none_told harts begun endings none = record {
  all = ap (λ (es : List Ending). length es) none ∙ sym (count_none harts (λ h b at. (begun h b at).runs));
  each = λ e there. absurd (none_in e (subst (λ (es : List Ending). Contains es e) none there));
  told = λ h b reason at over. absurd (none-some reason (sym (begun h b at).runs ∙ over));
}

pub start_fits : StartFits
start_fits w setup world is =
    let begun : AllBegun world.harts = subst AllBegun (sym is.harts) (all_begun setup.fuel is.started.functions is.started.entries) in
    record {
      harts = ap (λ (bs : List HartState). length bs) is.harts ∙ harts_length setup.fuel is.started.functions is.started.entries ∙ harts_have_entries w setup world.journal is.started is.starts ∙ sym (ap (λ (v : Setting). v.machine.harts) is.starts.set_up);
      endings = none_told world.harts begun (after world.journal).endings (start_endings w setup world is);
      none = λ h b at. (begun h b at).none;
    }

-- ---- a run

final_turns : (w : Setting) (old new : World) → RunEnds w old new → InFinals w old → InFinals w new
final_turns w old new (RunEnds.no_more _ all) x = x
final_turns w old new (RunEnds.one_more _ between _ runs turn more) x = final_turns w between new more (turns_keep_finals w 0 old between turn x)

finalised_fits : (w : Setting) (registers : Registers) (old new : World) → Finalises w registers old new → BeforeFinals w old → EndsFit w new
finalised_fits w registers old new (Finalises.none_runs exited same) x = inl (subst (BeforeFinals w) (sym same) x)
finalised_fits w registers old new (Finalises.none_is_left none same) x = inl (subst (BeforeFinals w) (sym same) x)
finalised_fits w registers old new (Finalises.no_memory exited lack) x = inr (finals_lack w old new exited lack x)
finalised_fits w registers old new (Finalises.all_run begun exited begin run) x = inr (final_turns w begun new run (finals_begin w registers old begun exited begin x))

pub runs_fit : RunsFit
runs_fit w setup items world run =
    let started : BeforeFinals w run.started = start_fits w setup run.started run.starts in
    let keeps : (h : ℕ) (old new : World) → BeforeFinals w old → Turn w h old new → BeforeFinals w new = λ h old new x turn. turns_keep_before w h old new turn x in
    let constructed : BeforeFinals w run.constructed = constructs w (BeforeFinals w) keeps run.started run.constructed run.constructs started in
    let scheduled : BeforeFinals w run.scheduled = items_keep w (BeforeFinals w) keeps items run.constructed run.scheduled run.follows constructed in
    let finished : BeforeFinals w run.finished = finishes w (BeforeFinals w) keeps run.scheduled run.finished run.finishes scheduled in
    let finalised : EndsFit w run.finalised = finalised_fits w (starting_registers run.entry) run.finished run.finalised run.finalises finished in
    record {
      started = started;
      constructed = constructed;
      scheduled = scheduled;
      finished = finished;
      finalised = finalised;
      ended = subst (EndsFit w) (sym run.ends)
          (⊎_elim (λ (y : BeforeFinals w run.finalised). inl (settled_before w run.finalised y)) (λ (y : InFinals w run.finalised). inr (settled_finals w run.finalised y)) finalised);
    }

-- ---- what is left at its end

done_of : (w : Setting) (world : World) (x : InFinals w world) → IsTrue (have_ended world) → IsTrue (are_finals w (after world.journal)) → all_finis (after world.journal) ≡ []
done_of w world x over are = x.done (each_passes has_ended world.harts 0 x.first over (ap (λ (bs : List HartState). slice_get bs 0) x.harts)) are

finalised_done : (w : Setting) (registers : Registers) (old new : World) → Finalises w registers old new → IsTrue (have_ended old) → BeforeFinals w old → IsTrue (are_finals w (after new.journal))
    → all_finis (after new.journal) ≡ []
finalised_done w registers old new (Finalises.none_runs exited same) over x are =
    absurd (false≢true (sym exited ∙ exits_are w old over x (subst (λ (y : World). IsTrue (are_finals w (after y.journal))) same are)))
finalised_done w registers old new (Finalises.none_is_left none same) over x are = ap (λ (y : World). all_finis (after y.journal)) same ∙ none
finalised_done w registers old new (Finalises.no_memory exited lack) over x are = lack_done w old new exited lack x are
finalised_done w registers old new (Finalises.all_run begun exited begin run) over x are =
    done_of w new (final_turns w begun new run (finals_begin w registers old begun exited begin x)) (turns_end w begun new run) are

pub runs_finish : RunsFinish
runs_finish w setup items world run are =
    let same : all_finis (after world.journal) ≡ all_finis (after run.finalised.journal) = ap (λ (x : World). all_finis (after x.journal)) run.ends ∙ finis_settled run.finalised in
    same ∙ finalised_done w (starting_registers run.entry) run.finished run.finalised run.finalises (rounds_end w run.scheduled run.finished run.finishes) (runs_fit w setup items world run).finished
    (finals_settled w run.finalised (subst (λ (x : World). IsTrue (are_finals w (after x.journal))) run.ends are))
