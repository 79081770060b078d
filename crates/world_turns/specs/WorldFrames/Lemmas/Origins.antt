-- What keeps the frames of a hart those of its openings and closings.
use Rattle.std.proofs.Common.{◌≡◌, ℕ, Bool, true, false, cond, List, [], ◌∷◌, ◌++◌, map, refl, sym, ap, subst, ◌∙◌, append-nil}
use Rattle.std.specs.List.{Contains}
use Rattle.std.proofs.lemmas.Bool.{false≢true}
use Rattle.std.proofs.lemmas.List.Elements.{Contains-append_left}
use Rattle.history_event.specs.declared.event.CloseAnswer.TheVariants as closes
use Rattle.history_event.specs.declared.event.Event.{Event}
use Rattle.history_event.specs.declared.event.Event.TheVariants as events
use Rattle.history_event.specs.declared.event.OpenAnswer.TheVariants as opens
use Rattle.history_event.specs.declared.event.SymAnswer.TheVariants as syms
use Rattle.history_event.specs.declared.handed.Function.{Function}
use Rattle.history_event.specs.declared.state.Closing.{Closing}
use Rattle.history_event.specs.declared.state.Loading.{Loading}
use Rattle.history_event.specs.declared.state.Standing.{Standing}
use Rattle.history_event.specs.declared.state.Standing.TheVariants as standings
use Rattle.history_state.specs.After.{after}
use Rattle.history_state.specs.Allowed.{Allowed}
use Rattle.history_state.specs.Legal.{Lawful}
use Rattle.history_state.specs.Links.{finis_of}
use Rattle.history_state.specs.Setting.{Setting}
use Rattle.history_state.specs.State.{State}
use Rattle.history_state.specs.Step.{die, initialise, loaded, lower, settle, step, unmap}
use Rattle.history_state.specs.Lemmas.History.{after_push, lawful_push, one_behind}
use Rattle.history_state.specs.Lemmas.Lists.{here, later}
use Rattle.history_calls.specs.Functions.{object_of}
use Rattle.history_calls.specs.Laws.{FinishesStay, StartsStay}
use Rattle.hart_moves.specs.Harts.{Frame, HartState, Offered, Purpose, Resolving}
use Rattle.hart_moves.specs.Moves.{AreAllowed, Did, settles}
use Rattle.hart_moves.specs.TurnFrames.Leaves.{NoneTouchesFrames, touches_no_frame}
use Rattle.world_turns.specs.World.{World, found_journal, has_won, settled_by, settling, settling_event}
use Rattle.world_turns.specs.WorldFrames.Belong.{AreFramesOf, IsFrameOf, IsOfClosing, IsOfOpening, Origin}

-- ---- what is settled touches no frame

settled_frame : (s : State) (number : ℕ) (standing : Standing) (h : ℕ) (o : Origin) (purpose : Purpose) (queue : List Function) → IsFrameOf s h o purpose queue → IsFrameOf (settle number standing s) h o purpose queue
settled_frame s number standing h (Origin.opening l) (Purpose.of_startup registers) queue x = record { there = x.there; by = x.by; left = record { each = x.left.each; all = x.left.all } }
settled_frame s number standing h (Origin.opening l) (Purpose.of_opening to root) queue x = record { there = x.there; by = x.by; left = record { each = x.left.each; all = x.left.all } }
settled_frame s number standing h (Origin.opening l) (Purpose.of_closing to set) queue x = absurd x
settled_frame s number standing h (Origin.opening l) (Purpose.of_end code) queue x = absurd x
settled_frame s number standing h (Origin.closing c) (Purpose.of_startup registers) queue x = absurd x
settled_frame s number standing h (Origin.closing c) (Purpose.of_opening to root) queue x = absurd x
settled_frame s number standing h (Origin.closing c) (Purpose.of_closing to set) queue x = record { there = x.there; by = x.by; whole = x.whole; left = x.left }
settled_frame s number standing h (Origin.closing c) (Purpose.of_end code) queue x = absurd x

settled_frames : (s : State) (number : ℕ) (standing : Standing) (h : ℕ) (origins : List Origin) (frames : List Frame) → AreFramesOf s h origins frames → AreFramesOf (settle number standing s) h origins frames
settled_frames s number standing h [] [] x = tt
settled_frames s number standing h [] (frame ∷ below) x = absurd x
settled_frames s number standing h (o ∷ origins) [] x = absurd x
settled_frames s number standing h (o ∷ origins) (frame ∷ below) x = (settled_frame s number standing h o frame.purpose frame.queue x.0, settled_frames s number standing h origins below x.1)

module _ (h : ℕ) (origins : List Origin) (frames : List Frame) where
  abbrev Are : List Event → Type 0
  Are journal = AreFramesOf (after journal) h origins frames

  one_settled : (past : List Event) (o : Offered) (found : ℕ) → Are past → Are (past ++ settling_event o found ∷ [])
  one_settled past o found x = subst (λ (s : State). AreFramesOf s h origins frames) (sym (after_push past (settling_event o found))) (by (has_won o found))
    where
      by : (won : Bool) → AreFramesOf (step (after past) (cond won (events.Bound o.number) (events.Lost o.number found))) h origins frames
      by true = settled_frames (after past) o.number standings.Bound h origins frames x
      by false = settled_frames (after past) o.number (standings.Lost found) h origins frames x

  place_settled : (past more : List Event) (r : Resolving) → ((journal : List Event) → Are journal → Are (journal ++ more)) → Are past → Are (past ++ (settled_by r ++ more))
  place_settled past more Resolving.idle rest x = rest past x
  place_settled past more (Resolving.to_exchange o) rest x = rest past x
  place_settled past more (Resolving.to_finish o found) rest x = rest past x
  place_settled past more (Resolving.to_settle o found) rest x = subst Are (one_behind past (settling_event o found) more) (rest (past ++ settling_event o found ∷ []) (one_settled past o found x))

  pub all_settled : (past : List Event) (harts : List HartState) → Are past → Are (past ++ settling harts)
  all_settled past [] x = subst Are (sym (append-nil past)) x
  all_settled past (b ∷ rest) x = place_settled past (settling rest) b.resolving (λ journal y. all_settled journal rest y) x

  by_settles : (old : World) (t : Bool) → Are old.journal → Are (old.journal ++ cond t (settling old.harts) [])
  by_settles old true x = all_settled old.journal old.harts x
  by_settles old false x = subst Are (sym (append-nil old.journal)) x

  pub found_frames : (old : World) (did : Did) → Are old.journal → Are (found_journal old did)
  found_frames old did x = by_settles old (settles did) x

-- ---- an event that spares what a frame is of

-- it initialises no object of the opening, finalises none of the closing, and leaves the closing there
abbrev pub Spares : State → Event → Origin → Type 0
Spares s e (Origin.opening l) = (h d : ℕ) → e ≡ events.Init h d → Contains l.serials d → ⊥
Spares s e (Origin.closing c) = ((h d : ℕ) → e ≡ events.Fini h d → Contains c.set d → ⊥) × Contains (step s e).closings c

abbrev pub IsThere : State → Origin → Type 0
IsThere s (Origin.opening l) = Contains s.loadings l
IsThere s (Origin.closing c) = Contains s.closings c

pub is_there : (s : State) (h : ℕ) (o : Origin) (purpose : Purpose) (queue : List Function) → IsFrameOf s h o purpose queue → IsThere s o
is_there s h (Origin.opening l) (Purpose.of_startup registers) queue x = x.there
is_there s h (Origin.opening l) (Purpose.of_opening to root) queue x = x.there
is_there s h (Origin.opening l) (Purpose.of_closing to set) queue x = absurd x
is_there s h (Origin.opening l) (Purpose.of_end code) queue x = absurd x
is_there s h (Origin.closing c) (Purpose.of_startup registers) queue x = absurd x
is_there s h (Origin.closing c) (Purpose.of_opening to root) queue x = absurd x
is_there s h (Origin.closing c) (Purpose.of_closing to set) queue x = x.there
is_there s h (Origin.closing c) (Purpose.of_end code) queue x = absurd x

-- the hart of an origin
abbrev pub hart_of_origin : Origin → ℕ
hart_of_origin (Origin.opening l) = l.hart
hart_of_origin (Origin.closing c) = c.hart

pub by_hart : (s : State) (h : ℕ) (o : Origin) (purpose : Purpose) (queue : List Function) → IsFrameOf s h o purpose queue → hart_of_origin o ≡ h
by_hart s h (Origin.opening l) (Purpose.of_startup registers) queue x = x.by
by_hart s h (Origin.opening l) (Purpose.of_opening to root) queue x = x.by
by_hart s h (Origin.opening l) (Purpose.of_closing to set) queue x = absurd x
by_hart s h (Origin.opening l) (Purpose.of_end code) queue x = absurd x
by_hart s h (Origin.closing c) (Purpose.of_startup registers) queue x = absurd x
by_hart s h (Origin.closing c) (Purpose.of_opening to root) queue x = absurd x
by_hart s h (Origin.closing c) (Purpose.of_closing to set) queue x = x.by
by_hart s h (Origin.closing c) (Purpose.of_end code) queue x = absurd x

-- loadings stay
pub loading_kept : (s : State) (e : Event) (l : Loading) → Contains s.loadings l → Contains (step s e).loadings l
unfolding loaded die lower unmap initialise
loading_kept s (events.Open hart ask (opens.Done id root added ranges)) l there = Contains-append_left s.loadings _ l there
loading_kept s (events.Open hart ask opens.Absent) l there = there
loading_kept s (events.Open hart ask (opens.Refused fault)) l there = there
loading_kept s (events.Close hart handle (closes.Done set)) l there = there
loading_kept s (events.Close hart handle (closes.Refused fault)) l there = there
loading_kept s (events.Unmapped hart set) l there = there
loading_kept s (events.Grant number hart owner slot choice value) l there = there
loading_kept s (events.Bound number) l there = there
loading_kept s (events.Lost number saw) l there = there
loading_kept s (events.Unresolved hart owner slot choice) l there = there
loading_kept s (events.Sym hart ask (syms.Found serial index value)) l there = there
loading_kept s (events.Sym hart ask (syms.Refused fault)) l there = there
loading_kept s (events.Tls hart owner address) l there = there
loading_kept s (events.Init hart object) l there = there
loading_kept s (events.Fini hart object) l there = there
loading_kept s (events.Wrote hart bytes) l there = there
loading_kept s (events.Told hart fault) l there = there
loading_kept s (events.Ended hart reason) l there = there

-- the laws of openings and closings
pub record FollowLaws : Type 0 where
  pub starts : StartsStay
  pub finishes : FinishesStay

module _ (laws : FollowLaws) (w : Setting) (past : List Event) (e : Event) (lawful : Lawful w.machine past) (may : Allowed w past e) (h : ℕ) where
  opening_stays : (l : Loading) (queue : List Function) → Spares (after past) e (Origin.opening l) → IsOfOpening (after past) h l queue → IsOfOpening (after (past ++ e ∷ [])) h l queue
  opening_stays l queue spares x = record {
    there = subst (λ (s : State). Contains s.loadings l) (sym (after_push past e)) (loading_kept (after past) e l x.there);
    by = x.by;
    left = laws.starts w.machine w past e l (map object_of queue) refl lawful may x.there spares x.left;
  }

  closing_stays : (set : List ℕ) (c : Closing) (queue : List Function) → Spares (after past) e (Origin.closing c) → IsOfClosing (after past) h set c queue → IsOfClosing (after (past ++ e ∷ [])) h set c queue
  closing_stays set c queue spares x = record {
    there = subst (λ (s : State). Contains s.closings c) (sym (after_push past e)) spares.1;
    by = x.by;
    whole = x.whole;
    left =
        ap (λ (os : List ℕ). finis_of (after (past ++ e ∷ [])) os) (sym x.whole) ∙ laws.finishes w.machine w past e c refl lawful may x.there spares.0
        ∙ ap (λ (os : List ℕ). finis_of (after past) os) x.whole ∙ x.left;
  }

  frame_stays : (o : Origin) (purpose : Purpose) (queue : List Function) → Spares (after past) e o → IsFrameOf (after past) h o purpose queue → IsFrameOf (after (past ++ e ∷ [])) h o purpose queue
  frame_stays (Origin.opening l) (Purpose.of_startup registers) queue spares x = opening_stays l queue spares x
  frame_stays (Origin.opening l) (Purpose.of_opening to root) queue spares x = opening_stays l queue spares x
  frame_stays (Origin.opening l) (Purpose.of_closing to set) queue spares x = absurd x
  frame_stays (Origin.opening l) (Purpose.of_end code) queue spares x = absurd x
  frame_stays (Origin.closing c) (Purpose.of_startup registers) queue spares x = absurd x
  frame_stays (Origin.closing c) (Purpose.of_opening to root) queue spares x = absurd x
  frame_stays (Origin.closing c) (Purpose.of_closing to set) queue spares x = closing_stays set c queue spares x
  frame_stays (Origin.closing c) (Purpose.of_end code) queue spares x = absurd x

  frames_stay : (origins : List Origin) (frames : List Frame) → ((o : Origin) → Contains origins o → hart_of_origin o ≡ h → IsThere (after past) o → Spares (after past) e o) → AreFramesOf (after past) h origins frames
      → AreFramesOf (after (past ++ e ∷ [])) h origins frames
  frames_stay [] [] spares x = tt
  frames_stay [] (frame ∷ below) spares x = absurd x
  frames_stay (o ∷ origins) [] spares x = absurd x
  frames_stay (o ∷ origins) (frame ∷ below) spares x = (
    frame_stays o frame.purpose frame.queue (spares o (here o origins) (by_hart (after past) h o frame.purpose frame.queue x.0) (is_there (after past) h o frame.purpose frame.queue x.0)) x.0,
    frames_stay origins below (λ q there. spares q (later o origins q there)) x.1,
  )

-- ---- one event after another

-- each of these events spares the origins of which this holds
abbrev pub AllSpare : (Origin → Type 0) → List Event → List Event → Type 0
AllSpare D past [] = Unit {0}
AllSpare D past (e ∷ rest) = ((o : Origin) → D o → IsThere (after past) o → Spares (after past) e o) × AllSpare D (past ++ e ∷ []) rest

pub events_leave : FollowLaws → (w : Setting) (D : Origin → Type 0) (past added : List Event) → Lawful w.machine past → AreAllowed w past added → AllSpare D past added → (h : ℕ) (origins : List Origin) (frames : List Frame)
    → ((o : Origin) → Contains origins o → hart_of_origin o ≡ h → D o) → AreFramesOf (after past) h origins frames → AreFramesOf (after (past ++ added)) h origins frames
events_leave laws w D past [] lawful may spares h origins frames of x = subst (λ (es : List Event). AreFramesOf (after es) h origins frames) (sym (append-nil past)) x
events_leave laws w D past (e ∷ rest) lawful may spares h origins frames of x =
    subst (λ (es : List Event). AreFramesOf (after es) h origins frames) (one_behind past e rest)
    (events_leave laws w D (past ++ e ∷ []) rest (lawful_push w.machine w past e refl lawful may.0) may.1 spares.1 h origins frames of
    (frames_stay laws w past e lawful may.0 h origins frames (λ o there hart at. spares.0 o (of o there hart) at) x))

-- ---- events that touch no frame

closing_kept : (s : State) (e : Event) → touches_no_frame e ≡ true → (c : Closing) → Contains s.closings c → Contains (step s e).closings c
unfolding loaded die lower unmap initialise
closing_kept s (events.Open hart ask (opens.Done id root added ranges)) untouched c there = there
closing_kept s (events.Open hart ask opens.Absent) untouched c there = there
closing_kept s (events.Open hart ask (opens.Refused fault)) untouched c there = there
closing_kept s (events.Close hart handle (closes.Done set)) untouched c there = Contains-append_left s.closings _ c there
closing_kept s (events.Close hart handle (closes.Refused fault)) untouched c there = there
closing_kept s (events.Unmapped hart set) untouched c there = absurd (false≢true untouched)
closing_kept s (events.Grant number hart owner slot choice value) untouched c there = there
closing_kept s (events.Bound number) untouched c there = there
closing_kept s (events.Lost number saw) untouched c there = there
closing_kept s (events.Unresolved hart owner slot choice) untouched c there = there
closing_kept s (events.Sym hart ask (syms.Found serial index value)) untouched c there = there
closing_kept s (events.Sym hart ask (syms.Refused fault)) untouched c there = there
closing_kept s (events.Tls hart owner address) untouched c there = there
closing_kept s (events.Init hart object) untouched c there = there
closing_kept s (events.Fini hart object) untouched c there = there
closing_kept s (events.Wrote hart bytes) untouched c there = there
closing_kept s (events.Told hart fault) untouched c there = there
closing_kept s (events.Ended hart reason) untouched c there = there

spared : (s : State) (e : Event) → touches_no_frame e ≡ true → (o : Origin) → IsThere s o → Spares s e o
spared s e untouched (Origin.opening l) there = λ h d is inside. absurd (false≢true (ap touches_no_frame (sym is) ∙ untouched))
spared s e untouched (Origin.closing c) there = (λ h d is inside. absurd (false≢true (ap touches_no_frame (sym is) ∙ untouched)), closing_kept s e untouched c there)

pub none_touches : (D : Origin → Type 0) (past added : List Event) → NoneTouchesFrames added → AllSpare D past added
none_touches D past [] untouched = tt
none_touches D past (e ∷ rest) untouched = (λ o of there. spared (after past) e untouched.0 o there, none_touches D (past ++ e ∷ []) rest untouched.1)
