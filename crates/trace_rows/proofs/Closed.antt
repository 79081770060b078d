-- Closings.
use Rattle.std.proofs.Common.{◌≡◌, ℕ, Bool, false, List, [], ◌∷◌, ◌++◌, Option, Result, Ok, Err, refl, sym, ap, subst, ◌∙◌}
use Rattle.std.specs.Bool.{Decides}
use Rattle.std.specs.Prelude.{IfOk}
use Rattle.std.specs.List.{filter, flat_map}
use Rattle.std.proofs.lemmas.List.{map-append}
use Rattle.close_mark.specs.ClosingLaws.Given.{IsGraphOf}
use Rattle.history_calls.specs.Answer.{Answer, closing, refused, returns}
use Rattle.history_calls.specs.Call.{closes}
use Rattle.history_calls.specs.Gives.{EventAnswers, by_event, dies, is_not_closed, stays}
use Rattle.history_calls.specs.Laws.{OneAnswer, is_chance, is_read_fault}
use Rattle.history_event.specs.declared.event.CloseAnswer.{CloseAnswer}
use Rattle.history_event.specs.declared.event.CloseAnswer.TheVariants as answers
use Rattle.history_event.specs.declared.event.Event.{Event}
use Rattle.history_event.specs.declared.event.Event.TheVariants.{Close}
use Rattle.history_event.specs.declared.state.Granting.{Granting}
use Rattle.history_graph.specs.declared.graph.Edge.{Edge}
use Rattle.history_state.specs.After.{after}
use Rattle.history_state.specs.Allowed.{MayClose}
use Rattle.history_state.specs.Grants.{chosen_target, is_open}
use Rattle.history_state.specs.Laws.{HasAll, SerialsAreInOrder}
use Rattle.history_state.specs.Legal.{Lawful}
use Rattle.history_state.specs.Links.{edges_to, held_edges}
use Rattle.history_state.specs.Objects.{startup_serials}
use Rattle.history_state.specs.Setting.{Machine, Setting}
use Rattle.history_state.specs.State.{State}
use Rattle.ld_base.specs.declared.linking.Choice.{Choice}
use Rattle.trace_replay.specs.Lists.{Lists}
use Rattle.trace_replay.specs.Shown.{IsShown}
use Rattle.trace_rows.specs.Closing.{choice_edges}

-- ---- one answer

answer_to : CloseAnswer → Answer
answer_to (answers.Done []) = returns 0
answer_to (answers.Done (d ∷ rest)) = closing (d ∷ rest)
answer_to (answers.Refused fault) = refused fault

answered : (h handle : ℕ) (a : CloseAnswer) → EventAnswers h (closes handle) (Close h handle a) (answer_to a)
unfolding answer_to
answered h handle (answers.Done []) = stays handle
answered h handle (answers.Done (d ∷ rest)) = dies handle d rest
answered h handle (answers.Refused fault) = is_not_closed handle fault

no_chance : (s : State) (handle : ℕ) (a : CloseAnswer) → MayClose s handle a → is_chance (answer_to a) ≡ false
unfolding answer_to
no_chance s handle (answers.Done []) may = refl
no_chance s handle (answers.Done (d ∷ rest)) may = refl
no_chance s handle (answers.Refused fault) may = ap is_read_fault may.is

one_closing : OneAnswer → (m : Machine) (w : Setting) (past : List Event) (handle : ℕ) (a b : CloseAnswer) → w.machine ≡ m → Lawful m past → MayClose (after past) handle a
    → MayClose (after past) handle b → a ≡ b
one_closing one m w past handle a b same lawful x y =
    let both : Close 0 handle a ∷ [] ≡ Close 0 handle b ∷ [] =
    (one m w past 0 (closes handle) (Close 0 handle a ∷ []) (Close 0 handle b ∷ []) (answer_to a) (answer_to b) same lawful tt
    (by_event (closes handle) (Close 0 handle a) (answer_to a) (answered 0 handle a) x) (by_event (closes handle) (Close 0 handle b) (answer_to b) (answered 0 handle b) y)
    (no_chance (after past) handle a x) (no_chance (after past) handle b y)).0 in
    cc

pub closes_so : OneAnswer → (m : Machine) (w : Setting) (past : List Event) (handle : ℕ) (expected said : CloseAnswer) (is : Bool) → w.machine ≡ m → Lawful m past
    → MayClose (after past) handle expected → Decides is (expected ≡ said) → Decides is (MayClose (after past) handle said)
closes_so one m w past handle expected said is same lawful may decides = (
  (λ e. subst (MayClose (after past) handle) (decides.0 e) may),
  (λ also. decides.1 (one_closing one m w past handle expected said same lawful may also)),
)

-- ---- the graph

pub choices_are : (source : ℕ) (choices : List (Option Choice)) → flat_map (choice_edges source) choices ≡ edges_to source (flat_map chosen_target choices)
choices_are source [] = refl
choices_are source (c ∷ rest) =
    ap (λ (es : List Edge). edges_to source (chosen_target c) ++ es) (choices_are source rest)
    ∙ sym (map-append (λ (d : ℕ). record { source = source; target = d }) (chosen_target c) (flat_map chosen_target rest))

pub graph_is : (s : State) (l : Lists) (held : List Edge) (fixed : List ℕ) (granted : List Granting) → IsShown s l → SerialsAreInOrder s → held ≡ held_edges s → fixed ≡ l.startup ++ l.pinned
    → granted ≡ filter is_open l.grants → IsGraphOf s held fixed granted
graph_is s l held fixed granted x order edges stay pending = record {
  every = subst (λ (es : List Edge). HasAll held es) edges (λ e inside. inside);
  only = subst (λ (es : List Edge). HasAll es held) edges (λ e inside. inside);
  stay = stay ∙ ap (λ (ds : List ℕ). ds ++ l.pinned) x.startup ∙ ap (λ (ds : List ℕ). startup_serials s ++ ds) x.pinned;
  unsettled = pending ∙ ap (λ (gs : List Granting). filter is_open gs) x.grants;
  from = λ ns o there inside. order.from ns o (record { there = there; inside = inside });
}

pub if_ok : {A E : Type 0} (r : Result A E) (P Q : A → Type 0) → ((x : A) → P x → Q x) → IfOk r P → IfOk r Q
if_ok (Ok x) P Q f h = f x h
if_ok (Err e) P Q f h = h
