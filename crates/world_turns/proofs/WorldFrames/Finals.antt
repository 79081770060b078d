-- The final destructors in a run: they begin, and each turn leaves them one object's.
use Rattle.std.proofs.Common.{◌≡◌, inr, ℕ, zero, suc, not, ◌&&◌, IsTrue, Bool, true, false, cond, eqb, List, [], ◌∷◌, ◌++◌, map, Option, Some, None, refl, sym, ap, subst, ◌∙◌}
use Rattle.std.specs.List.{slice_get}
use Rattle.std.specs.Option.{is_some}
use Rattle.std.proofs.lemmas.Bool.{and_parts, eqb-true, false≢true, not-true}
use Rattle.ld_base.specs.declared.linking.Loaded.{Loaded}
use Rattle.history_event.specs.declared.event.Event.{Event}
use Rattle.history_event.specs.declared.event.Event.TheVariants as events
use Rattle.history_event.specs.declared.handed.Function.{Function}
use Rattle.history_state.specs.After.{after}
use Rattle.history_state.specs.Allowed.{Allowed, WasNext}
use Rattle.history_state.specs.Legal.{Lawful, Legal}
use Rattle.history_state.specs.Objects.{IsMapped, has, mapped, object_at}
use Rattle.history_state.specs.Setting.{Machine, Setting, are_finals, have_exited as have_all_exited}
use Rattle.history_state.specs.State.{State}
use Rattle.history_state.specs.Lemmas.History.{legal_is_lawful}
use Rattle.history_state.specs.Lemmas.Lists.{found_in, has_in, here, in_has}
use Rattle.history_calls.specs.Lemmas.Unique.{both_found}
use Rattle.hart_moves.specs.Harts.{Frame, HartState, Phase, Purpose}
use Rattle.hart_moves.specs.Moves.{AreAllowed, all_finis, events_of, freed, settles}
use Rattle.hart_moves.specs.Starting.{finalising_hart}
use Rattle.hart_moves.specs.Lemmas.Legality.{ended_stays, turns_allowed}
use Rattle.hart_moves.specs.TurnEvents.Appends.{has_finals}
use Rattle.hart_moves.specs.TurnFrames.Leaves.{LeavesFrames, behind_first}
use Rattle.hart_moves.specs.TurnFrames.Lemmas.Turning.{runs_frames, turns_leave_frames}
use Rattle.world_turns.specs.Turn.{Turn}
use Rattle.world_turns.specs.World.{World, found_harts, found_journal}
use Rattle.world_turns.specs.Lemmas.Events.{legal_front}
use Rattle.world_turns.specs.WorldEnds.Ends.{InFinals, has_exited}
use Rattle.world_turns.specs.WorldEnds.Laws.{FinalsBegin, TurnsKeepFinals}
use Rattle.world_turns.specs.WorldEnds.Lemmas.Places.{each_passes, exited_ends, freed_here, running, runs_on, set_here}
use Rattle.world_turns.specs.WorldFrames.Belong.{FramesFit}
use Rattle.world_turns.specs.WorldFrames.Finals.{FinalsBelong, FinalsFit, final_frame}
use Rattle.world_turns.specs.WorldFrames.Laws.{FinalsBeginBelong, FinalsFinish, FinalsKeepFrames, FinalsPass}
use Rattle.world_turns.specs.WorldFrames.Lemmas.Origins.{found_frames}
use Rattle.world_turns.specs.WorldFrames.Lemmas.Leaving.{FrameLaws}
use Rattle.world_turns.specs.WorldFrames.Lemmas.Finals.{is_next, was_next, was_grows, inits_kept, Top, top_of, none_above, by_frames, mapped_from, head_is}

-- ---- a turn

-- the hart that runs is the first
pub first_runs : (w : Setting) (world : World) → InFinals w world → (h : ℕ) (b : HartState) → slice_get world.harts h ≡ Some b → b.«end» ≡ None → h ≡ 0
first_runs w world x h b at runs = by h (ap (λ (bs : List HartState). slice_get bs h) (sym x.harts) ∙ at)
  where
    by : (j : ℕ) → slice_get (x.first ∷ x.others) j ≡ Some b → j ≡ 0
    by zero here = refl
    by (suc j) here = absurd (false≢true (sym (runs_on b runs) ∙ exited_ends b (each_passes has_exited x.others j b x.over here)))

pub first_of : (w : Setting) (world : World) (x : InFinals w world) (b : HartState) → slice_get world.harts 0 ≡ Some b → x.first ≡ b
first_of w world x b at = both_found (slice_get world.harts 0) x.first b (ap (λ (bs : List HartState). slice_get bs 0) x.harts) at

pub have_exited_in : (w : Setting) (s : State) → IsTrue (are_finals w s) → IsTrue (have_all_exited w s)
have_exited_in w s are = (and_parts _ (have_all_exited w s) are).1

module _ (laws : (m : Machine) → FrameLaws m) (keeps : TurnsKeepFinals) where
  turn_fits : (w : Setting) (h : ℕ) (old new : World) (legal : Legal w new.journal) (turn : Turn w h old new) (before : InFinals w old) (belong : FinalsBelong w old) → h ≡ 0 → turn.left.«end» ≡ None → slice_get new.harts 0 ≡ Some turn.left
      → FinalsFit w new.journal turn.left.frames
  turn_fits w h old new legal turn before belong zeroth on at = subst (λ (es : List Event). FinalsFit w es turn.left.frames) (sym turn.journal) fits
    where
      past : List Event
      past = found_journal old turn.did

      lawful : Lawful w.machine (found_journal old turn.did)
      lawful = legal_is_lawful w (found_journal old turn.did) (legal_front w (found_journal old turn.did) (events_of turn.did) (subst (Legal w) turn.journal legal))

      runs : turn.before.«end» ≡ None
      runs = running turn.before.«end» (λ reason over. ended_stays w (found_journal old turn.did) h turn.before turn.left turn.did reason over turn.moves)

      was : FinalsFit w old.journal turn.before.frames
      was = belong turn.before (subst (λ (n : ℕ). slice_get old.harts n ≡ Some turn.before) zeroth turn.there) runs

      found : FinalsFit w (found_journal old turn.did) turn.before.frames
      found = by (settles turn.did)
        where
          by : (t : Bool) → FinalsFit w (found_journal old turn.did) turn.before.frames
          by t = record {
            code = was.code;
            function = was.function;
            above = was.above;
            are = was.are;
            fit = record { origins = was.fit.origins; are = found_frames 0 was.fit.origins was.above old turn.did was.fit.are; once = was.fit.once };
            initialised = in_has (after (found_journal old turn.did)).inits was.function.object (inits_kept old.journal _ was.function.object (has_in (after old.journal).inits was.function.object was.initialised));
            was = was_grows w old.journal _ was.function.object was.was;
          }

      after_it : InFinals w new
      after_it = keeps w h old new turn before

      first : after_it.first ≡ turn.left
      first = first_of w new after_it turn.left at

      first_on : after_it.first.«end» ≡ None
      first_on = ap (λ (b : HartState). b.«end») first ∙ on

      fits : FinalsFit w (found_journal old turn.did ++ events_of turn.did) turn.left.frames
      fits = by_frames w (laws w.machine) (found_journal old turn.did) lawful turn.before turn.left turn.did found (events_of turn.did)
          (subst (λ (es : List Event). IsTrue (have_all_exited w (after es))) turn.journal (have_exited_in w (after new.journal) (after_it.runs first_on)))
          (subst (λ (b : HartState). IsTrue (has_finals b.frames)) first (after_it.frames first_on))
          (turns_allowed w (found_journal old turn.did) h turn.before turn.left turn.did turn.moves) refl
          (subst (λ (n : ℕ). LeavesFrames w (found_journal old turn.did) n turn.before turn.did turn.left) zeroth (turns_leave_frames w (found_journal old turn.did) h turn.before turn.left turn.did turn.moves))

  pub finals_keep : FinalsKeepFrames
  finals_keep w h old new legal turn before belong first at on =
      subst (λ (b : HartState). FinalsFit w new.journal b.frames) same (turn_fits w h old new legal turn before belong zeroth (ap (λ (b : HartState). b.«end») same ∙ on) here_now)
    where
      runs : turn.before.«end» ≡ None
      runs = running turn.before.«end» (λ reason over. ended_stays w (found_journal old turn.did) h turn.before turn.left turn.did reason over turn.moves)

      zeroth : h ≡ 0
      zeroth = first_runs w old before h turn.before turn.there runs

      found_here : (t : Bool) → (b : HartState) × (slice_get (cond t (map freed old.harts) old.harts) h ≡ Some b)
      found_here true = (freed turn.before, freed_here old.harts h turn.before turn.there)
      found_here false = (turn.before, turn.there)

      here_now : slice_get new.harts 0 ≡ Some turn.left
      here_now =
          let y = found_here (settles turn.did) in
          subst (λ (n : ℕ). slice_get new.harts n ≡ Some turn.left) zeroth
          (ap (λ (bs : List HartState). slice_get bs h) turn.harts ∙ set_here (found_harts old turn.did) h y.0 turn.left y.1)

      same : turn.left ≡ first
      same = both_found (slice_get new.harts 0) turn.left first here_now at

-- ---- they begin

pub finals_begin : FinalsBegin → FinalsBeginBelong
finals_begin begins w registers old new over x before first at on = record {
  code = x.code;
  function = behind_first f;
  above = [];
  are = ap (λ (b : HartState). b.frames) (sym same) ∙ runs_frames (Purpose.of_end x.code) (f ∷ []) [] (record x.first { registers = registers; phase = Phase.at_pc; frames = []; «end» = None });
  fit = record { origins = []; are = tt; once = tt };
  initialised = (is_next (after new.journal) x.object x.rest next).initialised;
  was = was_next w new.journal x.object x.rest (have_exited_in w (after new.journal) (y.runs (ap (λ (b : HartState). b.«end») (first_of w new y first at) ∙ on))) next;
}
  where
    f : Function
    f = record { object = x.object; addresses = x.addresses }

    y : InFinals w new
    y = begins w registers old new over x before

    next : all_finis (after new.journal) ≡ x.object ∷ x.rest
    next = ap (λ (v : World). all_finis (after v.journal)) x.begun ∙ x.next

    begun : HartState
    begun = finalising_hart registers x.code f x.first

    same : begun ≡ first
    same = both_found (slice_get new.harts 0) begun first (ap (λ (v : World). slice_get v.harts 0) x.begun) at

-- ---- what it is for

pub finals_pass : FinalsPass
finals_pass w past object rest over next =
    let x = is_next (after past) object rest next in
    inr (record { first_hart = refl; mapped = x.mapped; initialised = x.initialised; unfinished = x.unfinished; was = was_next w past object rest over next })

object_mapped : (s : State) (object : ℕ) (found : Option Loaded) → object_at s object ≡ found → is_some found ≡ true → IsMapped s object
object_mapped s object None is there = absurd (false≢true there)
object_mapped s object (Some o) is there =
    let at = found_in (λ (q : Loaded). eqb q.serial object) (mapped s) o is in
    subst (IsMapped s) (eqb-true o.serial object at.1) (mapped_from s o at.0)

-- the object whose destructors have run is the one that was next
pub final_object : (w : Setting) (past : List Event) (code : ℕ) (f : Function) (rest : List Function) (below : List Frame)
    → (x : FinalsFit w past (record { purpose = Purpose.of_end code; queue = f ∷ rest } ∷ below)) → x.function.object ≡ f.object
final_object w past code f rest below x =
    object_is (top_of x.above (final_frame x.code x.function) (record { purpose = Purpose.of_end code; queue = f ∷ rest }) below (sym x.are))
  where
    object_is : Top x.above (final_frame x.code x.function) (record { purpose = Purpose.of_end code; queue = f ∷ rest }) below → x.function.object ≡ f.object
    object_is (Top.is_last none same under) = head_object (ap (λ (frame : Frame). frame.queue) same)
      where
        head_object : x.function ∷ [] ≡ f ∷ rest → x.function.object ≡ f.object
        head_object e = ap (λ (g : Function). g.object) (head_is x.function f [] rest e)
    object_is (Top.is_above others are under) = absurd (none_above (after past) 0 code (f ∷ rest) others (subst (FramesFit (after past) 0) are x.fit))

pub finals_finish : FinalsFinish
finals_finish w past code f rest below x = by (is_some (object_at (after past) f.object) && not (has (after past).finis f.object)) refl
  where
    of_it : (initial : IsTrue (has (after past).inits f.object)) (was : WasNext w past f.object) → (is_some (object_at (after past) f.object) && not (has (after past).finis f.object)) ≡ true → Allowed w past (events.Fini 0 f.object)
    of_it initial was both =
        let parts = and_parts (is_some (object_at (after past) f.object)) (not (has (after past).finis f.object)) both in
        inr (record {
          first_hart = refl;
          mapped = object_mapped (after past) f.object (object_at (after past) f.object) refl parts.0;
          initialised = initial;
          unfinished = not-true (has (after past).finis f.object) parts.1;
          was = was;
        })

    same : x.function.object ≡ f.object
    same = final_object w past code f rest below x

    by : (t : Bool) → (is_some (object_at (after past) f.object) && not (has (after past).finis f.object)) ≡ t → AreAllowed w past (cond t (events.Fini 0 f.object ∷ []) [])
    by true both = (of_it (subst (λ (o : ℕ). IsTrue (has (after past).inits o)) same x.initialised) (subst (WasNext w past) same x.was) both, tt)
    by false both = tt
