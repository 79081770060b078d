-- The frames of startup's constructors: where there are none, none comes.
use Rattle.std.proofs.Common.{◌≡◌, ℕ, Bool, true, false, List, [], ◌++◌, Option, Some, None, refl, sym, ap, ◌∙◌}
use Rattle.std.specs.Prelude.{◌||◌}
use Rattle.std.specs.List.{list_any}
use Rattle.std.proofs.lemmas.Bool.{true≢false}
use Rattle.ld_base.specs.declared.fault.DlFault.{DlFault}
use Rattle.history_event.specs.declared.event.Event.{Event}
use Rattle.history_event.specs.declared.handed.Function.{Function}
use Rattle.history_event.specs.declared.hart_end.HartEnd.{HartEnd}
use Rattle.history_state.specs.After.{after}
use Rattle.history_state.specs.Setting.{Setting}
use Rattle.history_calls.specs.Answer.{Answer, returns, loading, closing, refused, granted, told, again, over}
use Rattle.history_calls.specs.Call.{Call}
use Rattle.history_calls.specs.Functions.{left}
use Rattle.history_calls.specs.Served.{answer_text}
use Rattle.hart_moves.specs.Copying.{text_words}
use Rattle.hart_moves.specs.Due.{Due, Return, by_resolving, due}
use Rattle.hart_moves.specs.Harts.{Frame, HartState, Purpose, is_startup_frame}
use Rattle.hart_moves.specs.Moves.{Did, Moves, MovesAs, Takes, TellsOf, final_functions, freed, freed_by, own_fini, runs}
use Rattle.hart_moves.specs.TurnEvents.Lemmas.Frames.{asked_some, runs_some, telling_frames}
use Rattle.hart_moves.specs.TurnEvents.Lemmas.Kinds.{Kind, kind_of}

abbrev pub has_startup : List Frame → Bool
has_startup frames = list_any is_startup_frame frames

abbrev is_of_startup : Purpose → Bool
is_of_startup purpose = elim purpose [ Purpose.of_startup registers ↦ true | _ ↦ false ]

-- ---- functions that are run

none_of : (p q : Bool) → (p || q) ≡ false → (p ≡ false) × (q ≡ false)
none_of true q none = absurd (true≢false none)
none_of false q none = (refl, none)

runs_startup : (purpose : Purpose) (functions : List Function) (below : List Frame) (b : HartState) → (is_of_startup purpose || has_startup below) ≡ false → has_startup (runs purpose functions below b).frames ≡ false
runs_startup purpose functions below b none = let apart = none_of (is_of_startup purpose) (has_startup below) none in runs_some is_of_startup purpose functions below b apart.0 ∙ apart.1

-- ---- a turn

module _ (w : Setting) (past : List Event) (h : ℕ) (b : HartState) (none : has_startup b.frames ≡ false) where
  by_telling : (text : ℕ) (to : Return) (fault : Option DlFault) (appended : List Event) (did : Did) (c : HartState) → has_startup to.frames ≡ false → TellsOf text b to fault appended did c → has_startup c.frames ≡ false
  by_telling text to (Some fault) appended did c behind x =
      ap (λ (z : HartState). has_startup z.frames) x.leaves ∙ ap has_startup (telling_frames text (text_words (answer_text fault)) (freed b)) ∙ none
  by_telling text to None appended did c behind x = ap (λ (z : HartState). has_startup z.frames) x.leaves ∙ behind

  by_answer : (asked : Call) (to : Return) (answer : Answer) (appended : List Event) (did : Did) (c : HartState) → has_startup to.frames ≡ false → Takes w past h b asked to answer appended did c
      → has_startup c.frames ≡ false
  by_answer asked to (returns value) appended did c behind x = ap (λ (z : HartState). has_startup z.frames) x.leaves ∙ behind
  by_answer asked to (loading root added) appended did c behind x =
      ap (λ (z : HartState). has_startup z.frames) x.passes.leaves ∙ runs_startup (Purpose.of_opening to.to root) (left x.functions) to.frames (freed b) behind
  by_answer asked to (closing set) appended did c behind x =
      ap (λ (z : HartState). has_startup z.frames) x.passes.leaves ∙ runs_startup (Purpose.of_closing to.to set) (left x.functions) to.frames (freed b) behind
  by_answer asked to (refused fault) appended did c behind x = ap (λ (z : HartState). has_startup z.frames) x.leaves ∙ behind
  by_answer asked to (granted g) appended did c behind x = ap (λ (z : HartState). has_startup z.frames) x.leaves ∙ none
  by_answer asked to (told fault) appended did c behind x = by_telling _ to fault appended did c behind x
  by_answer asked to (again for) appended did c behind x = ap (λ (z : HartState). has_startup z.frames) x.leaves ∙ none
  by_answer asked to (over reason) appended did c behind x = ap (λ (z : HartState). has_startup z.frames) x.leaves ∙ none

  by_kind : (did : Did) (c : HartState) → Kind w past h b did c → has_startup c.frames ≡ false
  by_kind did c (Kind.goes no_events frames runs_on) = ap has_startup frames ∙ none
  by_kind did c (Kind.ends reason is frames ended) = ap has_startup frames ∙ none
  by_kind did c (Kind.calls asked to from x) = by_answer asked to x.answer x.appended did c (asked_some is_of_startup (λ ra set. refl) b asked to from ∙ none) x.takes
  by_kind did c (Kind.enters function frames from x) = ap (λ (z : HartState). has_startup z.frames) x.leaves ∙ ap has_startup from.after ∙ sym (ap has_startup from.before) ∙ none
  by_kind did c (Kind.completes purpose object rest below not_end from x) =
      ap (λ (z : HartState). has_startup z.frames) x.passes.leaves ∙ runs_startup purpose (left rest) below (freed b) (sym (ap has_startup from.before) ∙ none)
  by_kind did c (Kind.finalises code object rest below from x) =
      ap (λ (z : HartState). has_startup z.frames) x.leaves ∙ runs_startup (Purpose.of_end code) (final_functions x.next) [] (freed_by (own_fini (after past) h object ++ x.events) b) refl

-- a hart that doesn't run them any more never does
pub startup_away : (w : Setting) (past : List Event) (h : ℕ) (b c : HartState) (did : Did) → Moves w past h b did c → has_startup b.frames ≡ false → has_startup c.frames ≡ false
startup_away w past h b c did moves none = by_kind w past h b none did c (kind_of w past h b did c moves)

-- a hart that moves hasn't ended
pub moves_runs : (w : Setting) (past : List Event) (h : ℕ) (b c : HartState) (did : Did) → Moves w past h b did c → b.«end» ≡ None
unfolding due
moves_runs w past h b c did moves = by b.«end» moves
  where
    by : (e : Option HartEnd) → MovesAs w past h b (elim e [ Some reason ↦ Due.nothing | None ↦ by_resolving (after past) b b.resolving ]) did c → e ≡ None
    by (Some reason) x = absurd x
    by None x = refl
