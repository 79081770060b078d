-- Harts fit as startup sets them off.
use Rattle.std.proofs.Common.{◌≡◌, inl, ℕ, zero, suc, false, List, [], ◌∷◌, map, Some, refl, sym, ap, subst, ◌∙◌}
use Rattle.std.specs.List.{Contains, slice_get}
use Rattle.std.proofs.lemmas.Option.{none-some}
use Rattle.history_event.specs.declared.event.Event.{Event}
use Rattle.history_event.specs.declared.event.Event.TheVariants.{Ended}
use Rattle.history_event.specs.declared.handed.Function.{Function}
use Rattle.history_event.specs.declared.handed.HartEntry.{HartEntry}
use Rattle.history_event.specs.declared.state.Ending.{Ending}
use Rattle.history_state.specs.After.{after, after_from}
use Rattle.history_state.specs.Lemmas.History.{after_push}
use Rattle.history_state.specs.Lemmas.Lists.{none_in}
use Rattle.history_state.specs.State.{State}
use Rattle.history_state.specs.Step.{step}
use Rattle.history_calls.specs.Laws.{OpeningBegins}
use Rattle.history_calls.specs.Startup.{opening}
use Rattle.hart_moves.specs.Harts.{HartState, Phase, Purpose}
use Rattle.hart_moves.specs.Moves.{runs, with_first}
use Rattle.hart_moves.specs.Starting.{starting_hart, starting_harts, starting_registers}
use Rattle.hart_moves.specs.TurnEvents.Appends.{has_finals}
use Rattle.world_turns.specs.TurnWrites.Writing.{HartWrites}
use Rattle.world_turns.specs.WorldFrames.Lemmas.Starting.{start_state, starting_fit}
use Rattle.hart_fits.specs.Fits.{StartFits}
use Rattle.hart_fits.specs.Over.{RunsYet}
use Rattle.hart_fits.specs.Lemmas.Ending.{Ends, ends}
use Rattle.hart_fits.specs.Lemmas.Waits.{is_waiting, waits_none}

-- ---- a hart that starts copies nothing, and runs no final destructors

record IsNew (b : HartState) : Type 0 where
  phase : b.phase ≡ Phase.at_pc
  none : has_finals b.frames ≡ false

first_is : (fuel : ℕ) (entry : HartEntry) (functions : List Function) → IsNew (runs (Purpose.of_startup (starting_registers entry)) functions [] (starting_hart fuel entry))
first_is fuel entry [] = record { phase = refl; none = refl }
first_is fuel entry (f ∷ rest) = by f.addresses refl
  where
    by : (addresses : List ℕ) → f.addresses ≡ addresses → IsNew (runs (Purpose.of_startup (starting_registers entry)) (f ∷ rest) [] (starting_hart fuel entry))
    by [] are = subst (λ (all : List ℕ). IsNew (with_first (Purpose.of_startup (starting_registers entry)) f.object all rest [] (starting_hart fuel entry))) (sym are) (record { phase = refl; none = refl })
    by (a ∷ more) are = subst (λ (all : List ℕ). IsNew (with_first (Purpose.of_startup (starting_registers entry)) f.object all rest [] (starting_hart fuel entry))) (sym are) (record { phase = refl; none = refl })

others_are : (fuel h : ℕ) (entries : List HartEntry) (b : HartState) → slice_get (map (starting_hart fuel) entries) h ≡ Some b → IsNew b
others_are fuel h [] b at = absurd (none-some b at)
others_are fuel zero (entry ∷ rest) b at = subst IsNew (let same : starting_hart fuel entry ≡ b = cc in same) (record { phase = refl; none = refl })
others_are fuel (suc h) (entry ∷ rest) b at = others_are fuel h rest b at

all_are : (fuel h : ℕ) (functions : List Function) (entries : List HartEntry) (b : HartState) → slice_get (starting_harts fuel functions entries) h ≡ Some b → IsNew b
all_are fuel h functions [] b at = absurd (none-some b at)
all_are fuel zero functions (entry ∷ rest) b at =
    subst IsNew (let same : runs (Purpose.of_startup (starting_registers entry)) functions [] (starting_hart fuel entry) ≡ b = cc in same) (first_is fuel entry functions)
all_are fuel (suc h) functions (entry ∷ rest) b at = others_are fuel h rest b at

writes : (b : HartState) → b.phase ≡ Phase.at_pc → HartWrites b
writes b is bytes now = absurd (no (sym is ∙ now))
  where
    no : Phase.at_pc ≡ Phase.writing bytes → ⊥
    no e = let it : Phase.at_pc ≡ Phase.writing bytes = e in cc

-- ---- no hart has ended

none_ended : (e : Event) → (step (after []) e).endings ≡ [] → (h : ℕ) → (past : List Event) → after past ≡ after (e ∷ []) → RunsYet h past
none_ended e none h past is there =
    none_in h (subst (λ (es : List Ending). Contains (map (λ x. x.hart) es) h) (ap (λ (s : State). s.endings) (is ∙ after_push [] e) ∙ none) there)

first_endings : (after []).endings ≡ []
unfolding after_from
first_endings = refl

pub start_fits : OpeningBegins → StartFits
start_fits begins w setup past started h b is low at = record {
  within = low;
  writes = writes b new.phase;
  waits = waits_none w past h b (ap is_waiting new.phase);
  place = inl (record {
    frames = starting_fit begins w setup past started is h b at;
    no_finals = new.none;
    runs = λ e. none_ended (opening setup is.root is.added is.ranges) (by (ends (after []) (opening setup is.root is.added is.ranges))) h past (start_state w setup past started is);
  });
}
  where
    new : IsNew b
    new = all_are setup.fuel h started.functions started.entries b at

    by : Ends (after []) (opening setup is.root is.added is.ranges) → (step (after []) (opening setup is.root is.added is.ranges)).endings ≡ []
    by (Ends.none same) = same ∙ first_endings
    by (Ends.one k reason is_end) = absurd (not_end is_end)
      where
        not_end : opening setup is.root is.added is.ranges ≡ Ended k reason → ⊥
        not_end e = let it : opening setup is.root is.added is.ranges ≡ Ended k reason = e in cc
