-- A dlclose returns behind the unmapping of all that died by it.
use Rattle.std.proofs.Common.{◌≡◌, ℕ, List, [], ◌∷◌, ◌++◌, length, map, Some, refl, sym, ap, subst, ◌∙◌}
use Rattle.std.proofs.Math.Seq.{take-append_seam}
use Rattle.std.specs.List.{slice_get}
use Rattle.history_event.specs.declared.event.Event.{Event}
use Rattle.history_event.specs.declared.event.Event.TheVariants as events
use Rattle.history_event.specs.declared.handed.Function.{Function}
use Rattle.ld_base.specs.declared.linking.Role.TheVariants.{None as NoRole}
use Rattle.history_state.specs.Accepted.{AcceptsOnly}
use Rattle.history_state.specs.After.{after}
use Rattle.history_state.specs.Allowed.{Allowed}
use Rattle.history_state.specs.Changes.{ChangesMemory}
use Rattle.history_state.specs.Legal.{Lawful, Legal}
use Rattle.history_state.specs.Memory.{role_at}
use Rattle.history_state.specs.Setting.{Machine, Setting}
use Rattle.history_state.specs.State.{State}
use Rattle.history_state.specs.Lemmas.History.{after_push, legal_is_lawful}
use Rattle.history_calls.specs.Answer.{Answer}
use Rattle.history_calls.specs.Call.{closes}
use Rattle.history_calls.specs.Functions.{left, passed}
use Rattle.history_calls.specs.Gives.{EventAnswers, Gives, ending}
use Rattle.hart_moves.specs.Due.{Due, Return}
use Rattle.hart_moves.specs.Harts.{Frame, HartState, Purpose}
use Rattle.hart_moves.specs.Laws.{TurnsLegal}
use Rattle.hart_moves.specs.Moves.{Calls, Did, Moves, MovesAs, Takes, events_of, freed, passing}
use Rattle.hart_moves.specs.TurnFrames.Closings.{ReturnsBehind, closing_frame}
use Rattle.hart_moves.specs.TurnFrames.Leaves.{AreFrames, behind_first}
use Rattle.hart_moves.specs.TurnFrames.Lemmas.Turning.{runs_frames}
use Rattle.world_laws.proofs.RunMoments.Answered.{may_wait}
use Rattle.world_laws.specs.RunMoments.OfTurns.{AnswersDlclose, ClosesSo, ReturnsBehindUnmapping}

pub get_last : {X : Type 0} (xs : List X) (last : X) → slice_get (xs ++ last ∷ []) (length xs) ≡ Some last
get_last [] last = refl
get_last (x ∷ xs) last = get_last xs last

legal_last : (w : Setting) (past : List Event) (e : Event) → Legal w (past ++ e ∷ []) → Allowed w past e
unfolding Legal
legal_last w past e legal = subst (λ (es : List Event). Allowed w es e) (take-append_seam past (e ∷ [])) (legal (length past) e (get_last past e))

pub record UnmapLaws : Type 0 where
  pub legal : TurnsLegal
  pub behind : ReturnsBehind
  pub changes : (m : Machine) (w : Setting) (past : List Event) (e : Event) → w.machine ≡ m → AcceptsOnly m → Lawful m past → Allowed w past e
      → ChangesMemory (after past) e

-- ---- a dlclose that is called

module _ (w : Setting) (past : List Event) (h handle : ℕ) (back : Return) (b c : HartState) (did : Did) where
  -- the functions that are left to run, but the first
  queued : (to : ℕ) (set : List ℕ) (functions : List Function) (frames : List Frame) → AreFrames (Purpose.of_closing to set) functions back.frames frames
      → (queue : List Function) × (frames ≡ closing_frame to set queue ∷ back.frames)
  queued to set [] frames are = ([], are)
  queued to set (f ∷ rest) frames are = (behind_first f ∷ rest, are)

  closed_so : (given : List Event) (answer : Answer) → Gives w past h (closes handle) given answer → (appended : List Event)
      → appended ≡ given ++ ending h answer
      → Takes w past h b (closes handle) back answer appended did c → ClosesSo past h handle back b did c
  closed_so given answer (Gives.by_event _ e _ (EventAnswers.dies _ first rest) may) appended are x =
      let queue = queued back.to (first ∷ rest) (left x.functions) c.frames
      (subst (AreFrames (Purpose.of_closing back.to (first ∷ rest)) (left x.functions) back.frames) (sym (ap (λ (z : HartState). z.frames) x.passes.leaves))
      (runs_frames (Purpose.of_closing back.to (first ∷ rest)) (left x.functions) back.frames (freed b))) in
      ClosesSo.some_die first rest (passed x.functions) queue.0
      (ap events_of x.passes.is ∙ ap (λ (es : List Event). es ++ map (passing (Purpose.of_closing back.to (first ∷ rest)) h) (passed x.functions)) are) queue.1
  closed_so given answer (Gives.by_event _ e _ (EventAnswers.stays _) may) appended are x = ClosesSo.none_dies (ap events_of x.is ∙ are) x.leaves
  closed_so given answer (Gives.by_event _ e _ (EventAnswers.is_not_closed _ fault) may) appended are x =
      ClosesSo.refused fault (ap events_of x.is ∙ are) x.leaves
  closed_so given answer (Gives.to_again _ for shows) appended are x = absurd (may_wait w (after past) h (closes handle) for shows)
  closed_so given answer (Gives.to_end _ reason ends) appended are x = ClosesSo.ends reason ends (ap (λ (z : HartState). z.«end») x.leaves)

pub answers_dlclose : (w : Setting) (past : List Event) (h : ℕ) (b c : HartState) (did : Did) → Moves w past h b did c → AnswersDlclose past h b did c
answers_dlclose w past h b c did moves handle back is =
    let calls : Calls w past h b (closes handle) back did c = subst (λ (d : Due). MovesAs w past h b d did c) is moves in
    closed_so w past h handle back b c did calls.serves.given calls.answer calls.serves.gives calls.appended calls.serves.are calls.takes

-- ---- and one that returns

pub returns_behind : UnmapLaws → (w : Setting) (past : List Event) (h : ℕ) (b c : HartState) (did : Did) → AcceptsOnly w.machine → Legal w past
    → Moves w past h b did c
    → ReturnsBehindUnmapping past h b did c
returns_behind laws w past h b c did only legal moves to set queue below was goes =
    let goes_so = laws.behind w past h to b c did set queue below moves was goes in
    let legal_so : Legal w (past ++ events.Unmapped h set ∷ []) = subst (λ (es : List Event). Legal w (past ++ es)) goes_so.0
    (laws.legal w past h b c did legal moves) in
    let changes = laws.changes w.machine w past (events.Unmapped h set) refl only (legal_is_lawful w past legal)
    (legal_last w past (events.Unmapped h set) legal_so) in
    record {
      events = goes_so.0;
      returns = goes_so.1;
      roles = λ r a there covered.
          subst (λ (s : State). role_at s a ≡ NoRole)
          (sym (ap (λ (es : List Event). after (past ++ es)) goes_so.0 ∙ after_push past (events.Unmapped h set))) (changes.taken_after r a there covered);
    }
