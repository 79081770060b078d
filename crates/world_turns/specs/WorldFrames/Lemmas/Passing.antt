-- The objects in front of a frame are passed, one after another.
use Rattle.std.proofs.Common.{◌≡◌, ◌≢◌, ⊎_elim, ℕ, List, [], ◌∷◌, ◌++◌, map, refl, sym, ap, subst, ◌∙◌, append-nil}
use Rattle.std.specs.List.{Contains}
use Rattle.std.proofs.lemmas.List.Elements.{Contains-append_cases, Contains-append_right}
use Rattle.ld_base.specs.declared.linking.Loaded.{Loaded}
use Rattle.history_event.specs.declared.event.CloseAnswer.TheVariants as closings
use Rattle.history_event.specs.declared.event.Event.{Event}
use Rattle.history_event.specs.declared.event.Event.TheVariants as events
use Rattle.history_event.specs.declared.event.OpenAnswer.TheVariants as openings
use Rattle.history_event.specs.declared.event.OpenAsk.{OpenAsk}
use Rattle.history_event.specs.declared.event.Range.{Range}
use Rattle.history_event.specs.declared.event.SymAnswer.TheVariants as symbols
use Rattle.history_event.specs.declared.handed.Function.{Function}
use Rattle.history_event.specs.declared.state.Closing.{Closing}
use Rattle.history_event.specs.declared.state.Loading.{Loading}
use Rattle.history_state.specs.After.{after}
use Rattle.history_state.specs.Allowed.{Allowed}
use Rattle.history_state.specs.Legal.{Lawful, Legal}
use Rattle.history_state.specs.Links.{finis_of}
use Rattle.history_state.specs.Objects.{serial_of}
use Rattle.history_state.specs.Setting.{Setting}
use Rattle.history_state.specs.State.{State}
use Rattle.history_state.specs.Step.{closing_of, die, initialise, loaded, lower, step, unmap}
use Rattle.history_state.specs.Lemmas.History.{after_push, by_lawful, lawful_push, legal_is_lawful, one_behind}
use Rattle.history_state.specs.Lemmas.Lists.{from_filter, here, none_in, only_in}
use Rattle.history_calls.specs.Functions.{AreConstructors, AreDestructors, AreLeft, left, object_of, passed}
use Rattle.history_calls.specs.Laws.{NextFinishes, NextStarts, OpeningBegins}
use Rattle.history_calls.specs.Waiting.{HasFinished}
use Rattle.history_calls.specs.Lemmas.Finishing.{passed_first}
use Rattle.hart_moves.specs.Harts.{Purpose}
use Rattle.hart_moves.specs.Moves.{AreAllowed, passing}
use Rattle.world_turns.specs.WorldFrames.Belong.{AreFramesOf, IsFrameOf, IsOfClosing, IsOfOpening, Origin}
use Rattle.world_turns.specs.WorldFrames.Laws.{ClosingsPass, FramesClose, FramesFinish, FramesPass, OpeningsPass}
use Rattle.world_turns.specs.WorldFrames.Lemmas.Events.{fini_leaves, finis, inits}
use Rattle.world_turns.specs.WorldFrames.Lemmas.Origins.{loading_kept}

pub record NextLaws : Type 0 where
  pub starts : NextStarts
  pub finishes : NextFinishes
  pub begins : OpeningBegins

-- ---- closings have objects

abbrev HaveObjects : State → Type 0
HaveObjects s = (c : Closing) → Contains s.closings c → c.set ≢ []

some_of : (hart : ℕ) (set : List ℕ) (c : Closing) → Contains (closing_of hart set) c → c.set ≢ []
some_of hart [] c there = absurd (none_in c there)
some_of hart (d ∷ rest) c there = λ none. let no : d ∷ rest ≡ [] = ap (λ (k : Closing). k.set) (only_in (record { hart = hart; set = d ∷ rest }) c there) ∙ none in cc

some_step : (s : State) (e : Event) → HaveObjects s → HaveObjects (step s e)
unfolding loaded die lower unmap initialise
some_step s (events.Open hart ask (openings.Done id root added ranges)) have c there = have c there
some_step s (events.Open hart ask openings.Absent) have c there = have c there
some_step s (events.Open hart ask (openings.Refused fault)) have c there = have c there
some_step s (events.Close hart handle (closings.Done set)) have c there =
    ⊎_elim (λ (old : Contains s.closings c). have c old) (λ (new : Contains (closing_of hart set) c). some_of hart set c new) (Contains-append_cases s.closings (closing_of hart set) c there)
some_step s (events.Close hart handle (closings.Refused fault)) have c there = have c there
some_step s (events.Unmapped hart set) have c there = have c (from_filter _ s.closings c there).0
some_step s (events.Grant number hart owner slot choice value) have c there = have c there
some_step s (events.Bound number) have c there = have c there
some_step s (events.Lost number saw) have c there = have c there
some_step s (events.Unresolved hart owner slot choice) have c there = have c there
some_step s (events.Sym hart ask (symbols.Found serial index value)) have c there = have c there
some_step s (events.Sym hart ask (symbols.Refused fault)) have c there = have c there
some_step s (events.Tls hart owner address) have c there = have c there
some_step s (events.Init hart object) have c there = have c there
some_step s (events.Fini hart object) have c there = have c there
some_step s (events.Wrote hart bytes) have c there = have c there
some_step s (events.Told hart fault) have c there = have c there
some_step s (events.Ended hart reason) have c there = have c there

-- ---- of an opening

pub record Started (w : Setting) (past : List Event) (l : Loading) (objects more : List ℕ) : Type 0 where
  pub may : AreAllowed w past (inits l.hart objects)
  pub there : Contains (after (past ++ inits l.hart objects)).loadings l
  pub left : AreLeft (after (past ++ inits l.hart objects)) l more

pub starts_pass : NextLaws → (w : Setting) (past : List Event) (l : Loading) (objects more : List ℕ) → Lawful w.machine past → Contains (after past).loadings l → AreLeft (after past) l (objects ++ more) → Started w past l objects more
starts_pass laws w past l [] more lawful there x = record {
  may = tt;
  there = subst (λ (es : List Event). Contains (after es).loadings l) (sym (append-nil past)) there;
  left = subst (λ (es : List Event). AreLeft (after es) l more) (sym (append-nil past)) x;
}
starts_pass laws w past l (o ∷ rest) more lawful there x =
    let e : Event = events.Init l.hart o in
    let next = laws.starts w.machine w past l o (rest ++ more) refl lawful there x in
    let y = starts_pass laws w (past ++ events.Init l.hart o ∷ []) l rest more (lawful_push w.machine w past (events.Init l.hart o) refl lawful next.0)
    (subst (λ (s : State). Contains s.loadings l) (sym (after_push past (events.Init l.hart o))) (loading_kept (after past) (events.Init l.hart o) l there)) next.1 in
    record {
      may = (next.0, y.may);
      there = subst (λ (es : List Event). Contains (after es).loadings l) (one_behind past (events.Init l.hart o) (inits l.hart rest)) y.there;
      left = subst (λ (es : List Event). AreLeft (after es) l more) (one_behind past (events.Init l.hart o) (inits l.hart rest)) y.left;
    }

-- ---- of a closing

pub record Finished (w : Setting) (past : List Event) (c : Closing) (objects more : List ℕ) : Type 0 where
  pub may : AreAllowed w past (finis c.hart objects)
  pub there : Contains (after (past ++ finis c.hart objects)).closings c
  pub left : finis_of (after (past ++ finis c.hart objects)) c.set ≡ more

pub finishes_pass : NextLaws → (w : Setting) (past : List Event) (c : Closing) (objects more : List ℕ) → Lawful w.machine past → Contains (after past).closings c → finis_of (after past) c.set ≡ objects ++ more → Finished w past c objects more
finishes_pass laws w past c [] more lawful there x = record {
  may = tt;
  there = subst (λ (es : List Event). Contains (after es).closings c) (sym (append-nil past)) there;
  left = ap (λ (es : List Event). finis_of (after es) c.set) (append-nil past) ∙ x;
}
finishes_pass laws w past c (o ∷ rest) more lawful there x =
    let next = laws.finishes w.machine w past c o (rest ++ more) lawful there x in
    let y = finishes_pass laws w (past ++ events.Fini c.hart o ∷ []) c rest more (lawful_push w.machine w past (events.Fini c.hart o) refl lawful next.0)
    (subst (λ (s : State). Contains s.closings c) (sym (after_push past (events.Fini c.hart o))) (fini_leaves (after past) c.hart o c there)) next.1 in
    record {
      may = (next.0, y.may);
      there = subst (λ (es : List Event). Contains (after es).closings c) (one_behind past (events.Fini c.hart o) (finis c.hart rest)) y.there;
      left = ap (λ (es : List Event). finis_of (after es) c.set) (sym (one_behind past (events.Fini c.hart o) (finis c.hart rest))) ∙ y.left;
    }

-- ---- the objects of functions

pub passed_and_left : (f : Function) (rest : List Function) → map object_of (f ∷ rest) ≡ (f.object ∷ passed rest) ++ map object_of (left rest)
passed_and_left f rest = ap (λ (os : List ℕ). f.object ∷ os) (passed_first rest)

-- ---- a frame's

opening_passes : NextLaws → (w : Setting) (past : List Event) (h : ℕ) (l : Loading) (f : Function) (rest : List Function) → Legal w past → IsOfOpening (after past) h l (f ∷ rest) → AreAllowed w past (inits h (f.object ∷ passed rest))
opening_passes laws w past h l f rest legal x =
    subst (λ (n : ℕ). AreAllowed w past (inits n (f.object ∷ passed rest))) x.by
    (starts_pass laws w past l (f.object ∷ passed rest) (map object_of (left rest)) (legal_is_lawful w past legal) x.there (subst (AreLeft (after past) l) (passed_and_left f rest) x.left)).may

closing_passes : NextLaws → (w : Setting) (past : List Event) (h : ℕ) (set : List ℕ) (c : Closing) (f : Function) (rest : List Function) → Legal w past → IsOfClosing (after past) h set c (f ∷ rest)
    → AreAllowed w past (finis h (f.object ∷ passed rest))
closing_passes laws w past h set c f rest legal x =
    subst (λ (n : ℕ). AreAllowed w past (finis n (f.object ∷ passed rest))) x.by
    (finishes_pass laws w past c (f.object ∷ passed rest) (map object_of (left rest)) (legal_is_lawful w past legal) x.there
    (ap (λ (os : List ℕ). finis_of (after past) os) x.whole ∙ x.left ∙ passed_and_left f rest)).may

frame_passes : NextLaws → (w : Setting) (past : List Event) (h : ℕ) (o : Origin) (purpose : Purpose) (f : Function) (rest : List Function) → Legal w past → IsFrameOf (after past) h o purpose (f ∷ rest)
    → AreAllowed w past (map (passing purpose h) (f.object ∷ passed rest))
frame_passes laws w past h (Origin.opening l) (Purpose.of_startup registers) f rest legal x = opening_passes laws w past h l f rest legal x
frame_passes laws w past h (Origin.opening l) (Purpose.of_opening to root) f rest legal x = opening_passes laws w past h l f rest legal x
frame_passes laws w past h (Origin.opening l) (Purpose.of_closing to set) f rest legal x = absurd x
frame_passes laws w past h (Origin.opening l) (Purpose.of_end code) f rest legal x = absurd x
frame_passes laws w past h (Origin.closing c) (Purpose.of_startup registers) f rest legal x = absurd x
frame_passes laws w past h (Origin.closing c) (Purpose.of_opening to root) f rest legal x = absurd x
frame_passes laws w past h (Origin.closing c) (Purpose.of_closing to set) f rest legal x = closing_passes laws w past h set c f rest legal x
frame_passes laws w past h (Origin.closing c) (Purpose.of_end code) f rest legal x = absurd x

pub frames_pass : NextLaws → FramesPass
frames_pass laws w past h purpose f rest below legal x = by x.origins x.are
  where
    by : (origins : List Origin) → AreFramesOf (after past) h origins (record { purpose = purpose; queue = f ∷ rest } ∷ below) → AreAllowed w past (map (passing purpose h) (f.object ∷ passed rest))
    by [] are = absurd are
    by (o ∷ origins) are = frame_passes laws w past h o purpose f rest legal are.0

-- a closing has objects
closings_some : (w : Setting) (past : List Event) → Legal w past → (c : Closing) → Contains (after past).closings c → c.set ≢ []
closings_some w past legal = by_lawful w.machine HaveObjects (λ c there. absurd (none_in c there)) (λ v before e same lawful have may. some_step (after before) e have) past (legal_is_lawful w past legal)

-- its closing has finished, whatever open grants hold
pub frames_finish : FramesFinish
frames_finish w past h to set below legal x = by x.origins x.are
  where
    one : (o : Origin) → IsFrameOf (after past) h o (Purpose.of_closing to set) [] → HasFinished (after past) h set
    one (Origin.opening l) are = absurd are
    one (Origin.closing c) are = record {
      some = λ none. closings_some w past legal c are.there (are.whole ∙ none);
      closing = c;
      there = are.there;
      by = are.by;
      whole = are.whole;
      done = are.left;
    }

    by : (origins : List Origin) → AreFramesOf (after past) h origins (record { purpose = Purpose.of_closing to set; queue = [] } ∷ below) → HasFinished (after past) h set
    by [] are = absurd are
    by (o ∷ origins) are = one o are.0

pub frames_close : FramesClose
frames_close w past h to set below legal x free =
    let is : HasFinished (after past) h set = frames_finish w past h to set below legal x in
    record { some = is.some; closing = is.closing; there = is.there; by = is.by; whole = is.whole; done = is.done; free = free }

-- ---- behind an opening, and a closing

-- the opening's own loading is there
loading_there : (s : State) (h id root : ℕ) (ask : OpenAsk) (first : Loaded) (rest : List Loaded) (ranges : List Range)
    → Contains (step s (events.Open h ask (openings.Done id root (first ∷ rest) ranges))).loadings (record { hart = h; serials = map serial_of (first ∷ rest) })
unfolding loaded
loading_there s h id root ask first rest ranges =
    Contains-append_right s.loadings (record { hart = h; serials = map serial_of (first ∷ rest) } ∷ []) (record { hart = h; serials = map serial_of (first ∷ rest) }) (here _ [])

closing_there : (s : State) (h handle first : ℕ) (rest : List ℕ) → Contains (step s (events.Close h handle (closings.Done (first ∷ rest)))).closings (record { hart = h; set = first ∷ rest })
unfolding die lower
closing_there s h handle first rest = Contains-append_right s.closings (record { hart = h; set = first ∷ rest } ∷ []) (record { hart = h; set = first ∷ rest }) (here _ [])

pub new_loading : (past : List Event) (h id root : ℕ) (ask : OpenAsk) (first : Loaded) (rest : List Loaded) (ranges : List Range)
    → Contains (after (past ++ events.Open h ask (openings.Done id root (first ∷ rest) ranges) ∷ [])).loadings (record { hart = h; serials = map serial_of (first ∷ rest) })
new_loading past h id root ask first rest ranges =
    subst (λ (s : State). Contains s.loadings (record { hart = h; serials = map serial_of (first ∷ rest) })) (sym (after_push past (events.Open h ask (openings.Done id root (first ∷ rest) ranges)))) (loading_there (after past) h id root ask first rest ranges)

pub new_closing : (past : List Event) (h handle first : ℕ) (rest : List ℕ) → Contains (after (past ++ events.Close h handle (closings.Done (first ∷ rest)) ∷ [])).closings (record { hart = h; set = first ∷ rest })
new_closing past h handle first rest =
    subst (λ (s : State). Contains s.closings (record { hart = h; set = first ∷ rest })) (sym (after_push past (events.Close h handle (closings.Done (first ∷ rest))))) (closing_there (after past) h handle first rest)

pub openings_start : NextLaws → (w : Setting) (past : List Event) (h id root : ℕ) (ask : OpenAsk) (first : Loaded) (rest : List Loaded) (ranges : List Range) (functions : List Function) → Lawful w.machine past
    → Allowed w past (events.Open h ask (openings.Done id root (first ∷ rest) ranges))
    → AreConstructors (after (past ++ events.Open h ask (openings.Done id root (first ∷ rest) ranges) ∷ [])) (map serial_of (first ∷ rest)) functions
    → Started w (past ++ events.Open h ask (openings.Done id root (first ∷ rest) ranges) ∷ []) (record { hart = h; serials = map serial_of (first ∷ rest) }) (passed functions) (map object_of (left functions))
openings_start laws w past h id root ask first rest ranges functions lawful may are =
    starts_pass laws w (past ++ events.Open h ask (openings.Done id root (first ∷ rest) ranges) ∷ []) (record { hart = h; serials = map serial_of (first ∷ rest) }) (passed functions) (map object_of (left functions))
    (lawful_push w.machine w past (events.Open h ask (openings.Done id root (first ∷ rest) ranges)) refl lawful may) (new_loading past h id root ask first rest ranges)
    (subst (AreLeft (after (past ++ events.Open h ask (openings.Done id root (first ∷ rest) ranges) ∷ [])) (record { hart = h; serials = map serial_of (first ∷ rest) })) (passed_first functions)
    (laws.begins w.machine w past h id root ask first rest ranges functions refl lawful may are))

pub closings_finish : NextLaws → (w : Setting) (past : List Event) (h handle first : ℕ) (rest : List ℕ) (functions : List Function) → Lawful w.machine past → Allowed w past (events.Close h handle (closings.Done (first ∷ rest)))
    → AreDestructors (after (past ++ events.Close h handle (closings.Done (first ∷ rest)) ∷ [])) (first ∷ rest) functions
    → Finished w (past ++ events.Close h handle (closings.Done (first ∷ rest)) ∷ []) (record { hart = h; set = first ∷ rest }) (passed functions) (map object_of (left functions))
closings_finish laws w past h handle first rest functions lawful may are =
    finishes_pass laws w (past ++ events.Close h handle (closings.Done (first ∷ rest)) ∷ []) (record { hart = h; set = first ∷ rest }) (passed functions) (map object_of (left functions))
    (lawful_push w.machine w past (events.Close h handle (closings.Done (first ∷ rest))) refl lawful may) (new_closing past h handle first rest) (sym are.order ∙ passed_first functions)

pub openings_pass : NextLaws → OpeningsPass
openings_pass laws w past h to id root ask first rest ranges functions legal may are =
    (openings_start laws w past h id root ask first rest ranges functions (legal_is_lawful w past legal) may are).may

pub closings_pass : NextLaws → ClosingsPass
closings_pass laws w past h to handle first rest functions legal may are =
    (closings_finish laws w past h handle first rest functions (legal_is_lawful w past legal) may are).may
