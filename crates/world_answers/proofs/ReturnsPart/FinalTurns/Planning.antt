-- What a turn is planned of: all that are left, with the object among them or without.
use Rattle.std.proofs.Common.{◌≡◌, ℕ, Bool, true, false, cond, drop, eqb, List, [], ◌∷◌, ◌++◌, map, take, refl, sym, ap, subst, ◌∙◌}
use Rattle.std.specs.List.{Contains, filter, list_any}
use Rattle.std.proofs.lemmas.List.{map-append}
use Rattle.history_event.specs.declared.event.Event.{Event}
use Rattle.history_event.specs.declared.event.Event.TheVariants.{Fini}
use Rattle.history_event.specs.declared.handed.Function.{Function}
use Rattle.history_state.specs.Objects.{has}
use Rattle.history_state.specs.State.{State}
use Rattle.history_state.specs.Lemmas.Lists.{from_filter}
use Rattle.history_calls.specs.Functions.{AreFinalDestructors, left, object_of, passed}
use Rattle.hart_moves.specs.Harts.{HartState, Purpose}
use Rattle.hart_moves.specs.Moves.{all_finis, did_by, freed, freed_by, own_fini, runs, settles, spent}
use Rattle.world_answers.specs.ReturnsPart.FinalTurns.Planned.{IsPlanned, is_other}
use Rattle.world_answers.specs.ReturnsPart.FinalTurns.Table.{FinalPlan, finis, plan_events}
use Rattle.world_answers.proofs.ReturnsPart.FinalTurns.Left.{any_of, counts_as_left}
use Rattle.world_answers.proofs.ReturnsPart.FinalTurns.Passing.{own_finis, own_object}

objects_kept : (p : ℕ → Bool) (functions : List Function) → map object_of (filter (λ f. p f.object) functions) ≡ filter p (map object_of functions)
objects_kept p [] = refl
objects_kept p (f ∷ rest) = by (p f.object) ∙ ap (λ (ds : List ℕ). cond (p f.object) (f.object ∷ ds) ds) (objects_kept p rest)
  where
    by : (b : Bool) → map object_of (cond b (f ∷ filter (λ g. p g.object) rest) (filter (λ g. p g.object) rest))
        ≡ cond b (f.object ∷ map object_of (filter (λ g. p g.object) rest)) (map object_of (filter (λ g. p g.object) rest))
    by true = refl
    by false = refl

pub planned : (s : State) (object : ℕ) (functions others : List Function) (own : Bool) (plan : FinalPlan) → has s.inits object ≡ true → AreFinalDestructors s functions
    → own ≡ list_any (λ f. eqb f.object object) functions → others ≡ filter (λ f. is_other object f.object) functions → plan.object ≡ object
    → plan.finalised ≡ cond own (object ∷ []) [] ++ passed others → plan.next ≡ take 1 (left others) → IsPlanned s plan
planned s object functions others own plan initialised are is_own kept is finalised next = record {
  others = others;
  order = ap (map object_of) kept ∙ objects_kept (is_other object) functions ∙ ap (filter (is_other object)) are.order ∙ ap (λ (d : ℕ). filter (is_other d) (all_finis s)) (sym is);
  addresses = λ f inside. are.addresses f (from_filter (λ g. is_other object g.object) functions f (subst (λ (fs : List Function). Contains fs f) kept inside)).0;
  events = λ h. ap (finis h) (finalised ∙ ap (λ (ds : List ℕ). ds ++ passed others) owned) ∙ map-append (Fini h) (own_object s object) (passed others)
      ∙ ap (λ (es : List Event). es ++ finis h (passed others)) (sym (own_finis s h object)) ∙ ap (λ (d : ℕ). own_fini s h d ++ finis h (passed others)) (sym is);
  next = next;
}
  where
    owned : cond own (object ∷ []) [] ≡ own_object s object
    owned = ap (λ (b : Bool). cond b (object ∷ []) [])
        (is_own ∙ any_of object_of (λ d. eqb d object) functions ∙ ap (λ (ds : List ℕ). has ds object) are.order ∙ sym (counts_as_left s object initialised))

-- ---- whether there are events

pub settled_first : (added : List Event) (b : HartState) → cond (settles (did_by added)) (freed b) b ≡ freed_by added b
settled_first [] b = refl
settled_first (e ∷ rest) b = refl

-- how the hart is left
pub carried : (plan : FinalPlan) (code : ℕ) (next : List Function) (h : ℕ) (b found between left : HartState) → code ≡ plan.code → next ≡ plan.next
    → found ≡ cond (settles (did_by (plan_events h plan))) (freed b) b → between ≡ runs (Purpose.of_end code) (drop 0 next) [] found → left ≡ spent between
    → left ≡ spent (runs (Purpose.of_end plan.code) plan.next [] (freed_by (plan_events h plan) b))
carried plan code next h b found between left is_code is_next is_found ran counted =
    counted ∙ ap spent (ran ∙ ap (λ (n : ℕ). runs (Purpose.of_end n) next [] found) is_code ∙ ap (λ (fs : List Function). runs (Purpose.of_end plan.code) fs [] found) is_next
    ∙ ap (λ (x : HartState). runs (Purpose.of_end plan.code) plan.next [] x) (is_found ∙ settled_first (plan_events h plan) b))
