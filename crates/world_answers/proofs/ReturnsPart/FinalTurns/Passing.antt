-- A planned turn is a turn of the final destructors, and its events may come.
use Rattle.std.proofs.Common.{◌≡◌, ◌≢◌, ℕ, zero, suc, ◌<◌, Bool, true, false, not, ◌&&◌, cond, eqb, List, [], ◌∷◌, ◌++◌, get_or, length, map, take, Option, Some, None, refl, sym, ap, subst, ◌∙◌, append-nil, append_assoc, arith}
use Rattle.std.specs.List.{Contains, filter, find}
use Rattle.std.specs.Option.{is_some}
use Rattle.std.proofs.lemmas.Bool.{true≢false}
use Rattle.std.proofs.lemmas.List.{map-append}
use Rattle.std.proofs.lemmas.List.Kept.{AllPairs-filter}
use Rattle.history_event.specs.declared.event.Event.{Event}
use Rattle.history_event.specs.declared.event.Event.TheVariants.{Fini}
use Rattle.history_event.specs.declared.handed.Function.{Function}
use Rattle.history_state.specs.After.{after}
use Rattle.history_state.specs.Allowed.{Allowed}
use Rattle.history_state.specs.Laws.{InitialisedOnce}
use Rattle.history_state.specs.Memory.{image_of}
use Rattle.history_state.specs.Objects.{has, object_at}
use Rattle.history_state.specs.Setting.{Setting}
use Rattle.history_state.specs.State.{Linked, State}
use Rattle.history_state.specs.Lemmas.History.{after_push}
use Rattle.history_state.specs.Lemmas.Lists.{here, later}
use Rattle.history_journal.specs.Following.{MayFollow}
use Rattle.link_state.specs.Table.{LinkTable}
use Rattle.history_calls.specs.Functions.{AreAddresses, AreOf, destructors, left, object_of, passed}
use Rattle.hart_moves.specs.Harts.{HartState, Purpose}
use Rattle.hart_moves.specs.Moves.{AreAllowed, Finalises, Finals, all_finis, did_by, final_functions, freed_by, own_fini, runs, spent}
use Rattle.world_memory.specs.TurnAnswers.Following.{MayFollowAll}
use Rattle.world_answers.specs.ReturnsPart.FinalTurns.Planned.{FinalsMayFollow, FinalsMayFollowIn, IsPlanned, is_other}
use Rattle.world_answers.specs.ReturnsPart.FinalTurns.Table.{FinalPlan, finis, plan_events}
use Rattle.world_answers.proofs.ReturnsPart.FinalTurns.Left.{AreApart, all_others, finalised_left, first_goes, left_apart, left_stands, rest_apart}

-- ---- one object is finalised

-- one more
pub finis_push : (past : List Event) (h : ℕ) (before : List ℕ) (d : ℕ) → past ++ finis h (before ++ d ∷ []) ≡ (past ++ finis h before) ++ Fini h d ∷ []
finis_push past h before d = ap (λ (es : List Event). past ++ es) (map-append (Fini h) before (d ∷ [])) ∙ sym (append_assoc past (finis h before) (Fini h d ∷ []))

others_left : (past : List Event) (h d : ℕ) → all_finis (after (past ++ Fini h d ∷ [])) ≡ filter (is_other d) (all_finis (after past))
others_left past h d = ap all_finis (after_push past (Fini h d)) ∙ finalised_left (after past) d

addresses_stay : (past : List Event) (h d : ℕ) (functions : List Function) → AreOf (after past) destructors functions → AreOf (after (past ++ Fini h d ∷ [])) destructors functions
addresses_stay past h d functions are = λ f inside.
    subst (λ (images : List Linked). AreAddresses destructors f.addresses (find (λ m. eqb m.serial f.object) images)) (sym (ap (λ (s : State). s.images) (after_push past (Fini h d)))) (are f inside)

-- ---- those in front pass

abbrev pub first_of : List Function → Option Function
first_of [] = None
first_of (f ∷ rest) = Some f

pub first_alone : (functions : List Function) → final_functions (first_of functions) ≡ take 1 functions
first_alone [] = refl
first_alone (f ∷ rest) = refl

-- whenever some were finalised, the next of all may be
abbrev pub MayGoOn : Setting → List Event → ℕ → Type 0
MayGoOn w past h = (before : List ℕ) (d : ℕ) (rest : List ℕ) → all_finis (after (past ++ finis h before)) ≡ d ∷ rest → Allowed w (past ++ finis h before) (Fini h d)

-- an object in front passes where it has no functions, or else is entered; behind it the others are left
first_passes : (w : Setting) (now : List Event) (h : ℕ) (f : Function) (rest : List Function) → all_finis (after now) ≡ f.object ∷ map object_of rest
    → AreAddresses destructors f.addresses (image_of (after now) f.object) → Allowed w now (Fini h f.object)
    → Finals w h (now ++ Fini h f.object ∷ []) (finis h (passed rest)) (first_of (left rest)) → Finals w h now (finis h (passed (f ∷ rest))) (first_of (left (f ∷ rest)))
first_passes w now h f rest order are may behind = by f.addresses refl
  where
    by : (addresses : List ℕ) → f.addresses ≡ addresses
        → Finals w h now (finis h (elim addresses [ [] ↦ f.object ∷ passed rest | a ∷ more ↦ [] ])) (first_of (elim addresses [ [] ↦ left rest | a ∷ more ↦ f ∷ rest ]))
    by [] e = Finals.one_passes now f.object (map object_of rest) (finis h (passed rest)) (first_of (left rest)) order
        (subst (λ (addresses : List ℕ). AreAddresses destructors addresses (image_of (after now) f.object)) e are) may behind
    by (a ∷ more) e =
        let same : record { object = f.object; addresses = a ∷ more } ≡ f = ap (λ (addresses : List ℕ). record { object = f.object; addresses = addresses }) (sym e) in
        subst (λ (g : Function). Finals w h now [] (Some g)) same
        (Finals.one_runs now f.object a (map object_of rest) more order (subst (λ (addresses : List ℕ). AreAddresses destructors addresses (image_of (after now) f.object)) e are))

pub finals : (w : Setting) (past : List Event) (h : ℕ) → MayGoOn w past h → (before : List ℕ) (functions : List Function) → all_finis (after (past ++ finis h before)) ≡ map object_of functions
    → AreApart (map object_of functions) → AreOf (after (past ++ finis h before)) destructors functions
    → Finals w h (past ++ finis h before) (finis h (passed functions)) (first_of (left functions))
finals w past h may before [] order apart are = Finals.no_more (past ++ finis h before) order
finals w past h may before (f ∷ rest) order apart are =
    let now : List Event = past ++ finis h before in
    let more : past ++ finis h (before ++ f.object ∷ []) ≡ now ++ Fini h f.object ∷ [] = finis_push past h before f.object in
    let fewer : all_finis (after (now ++ Fini h f.object ∷ [])) ≡ map object_of rest =
    others_left now h f.object ∙ ap (filter (is_other f.object)) order ∙ first_goes f.object (map object_of rest) apart in
    let stay : AreOf (after (now ++ Fini h f.object ∷ [])) destructors rest = addresses_stay now h f.object rest (λ g inside. are g (later f rest g inside)) in
    first_passes w now h f rest order (are f (here f rest)) (may before f.object (map object_of rest) order)
    (subst (λ (es : List Event). Finals w h es (finis h (passed rest)) (first_of (left rest))) more
    (finals w past h may (before ++ f.object ∷ []) rest (subst (λ (es : List Event). all_finis (after es) ≡ map object_of rest) (sym more) fewer) (rest_apart f.object (map object_of rest) apart)
    (subst (λ (es : List Event). AreOf (after es) destructors rest) (sym more) stay)))

-- ---- the object's own event

-- the object, if it is still to be finalised
abbrev pub own_object : State → ℕ → List ℕ
own_object s object = cond (is_some (object_at s object) && not (has s.finis object)) (object ∷ []) []

pub own_finis : (s : State) (h object : ℕ) → own_fini s h object ≡ finis h (own_object s object)
own_finis s h object = by (is_some (object_at s object) && not (has s.finis object))
  where
    by : (b : Bool) → cond b (Fini h object ∷ []) [] ≡ finis h (cond b (object ∷ []) [])
    by true = refl
    by false = refl

-- behind it the others are left, with their images
record LeavesOthers (past : List Event) (h object : ℕ) (own : List ℕ) : Type 0 where
  left : all_finis (after (past ++ finis h own)) ≡ filter (is_other object) (all_finis (after past))
  images : (after (past ++ finis h own)).images ≡ (after past).images

leaves_others : (past : List Event) (h object : ℕ) → LeavesOthers past h object (own_object (after past) object)
leaves_others past h object = by (is_some (object_at (after past) object) && not (has (after past).finis object)) refl
  where
    by : (b : Bool) → (is_some (object_at (after past) object) && not (has (after past).finis object)) ≡ b → LeavesOthers past h object (cond b (object ∷ []) [])
    by true e = record { left = others_left past h object; images = ap (λ (s : State). s.images) (after_push past (Fini h object)) }
    by false e = record {
      left = ap (λ (es : List Event). all_finis (after es)) (append-nil past) ∙ sym (all_others object (all_finis (after past))
          (λ x inside same. true≢false (sym (left_stands (after past) object (subst (Contains (all_finis (after past))) (sym same) inside)) ∙ e)));
      images = ap (λ (es : List Event). (after es).images) (append-nil past);
    }

-- ---- the turn

pub record Turns (w : Setting) (past : List Event) (h : ℕ) (plan : FinalPlan) : Type 0 where
  pub events : List Event
  pub next : Option Function
  pub are : plan_events h plan ≡ own_fini (after past) h plan.object ++ events
  pub finals : Finals w h (past ++ own_fini (after past) h plan.object) events next
  pub first : final_functions next ≡ plan.next

pub turns : (w : Setting) (past : List Event) (h : ℕ) (plan : FinalPlan) → InitialisedOnce (after past) → IsPlanned (after past) plan → FinalsMayFollow w past h plan.object → Turns w past h plan
turns w past h plan once planned may =
    let s : State = after past in
    let own : List ℕ = own_object s plan.object in
    let leaves = leaves_others past h plan.object in
    record {
      events = finis h (passed planned.others);
      next = first_of (left planned.others);
      are = planned.events h;
      finals = subst (λ (es : List Event). Finals w h (past ++ es) (finis h (passed planned.others)) (first_of (left planned.others))) (sym (own_finis s h plan.object))
          (finals w past h may.next own planned.others (leaves.left ∙ sym planned.order)
          (subst AreApart (sym planned.order) (AllPairs-filter (λ x y. x ≢ y) (is_other plan.object) (all_finis s) (left_apart s once)))
          (λ f inside. subst (λ (images : List Linked). AreAddresses destructors f.addresses (find (λ m. eqb m.serial f.object) images)) (sym leaves.images) (planned.addresses f inside)));
      first = first_alone (left planned.others) ∙ sym planned.next;
    }

pub finalises : (w : Setting) (past : List Event) (h : ℕ) (plan : FinalPlan) (b c : HartState) → FinalsMayFollow w past h plan.object → Turns w past h plan
    → c ≡ spent (runs (Purpose.of_end plan.code) plan.next [] (freed_by (plan_events h plan) b)) → Finalises w past h b plan.code plan.object (did_by (plan_events h plan)) c
finalises w past h plan b c may turn is = record {
  may = may.own;
  events = turn.events;
  next = turn.next;
  finals = turn.finals;
  is = ap did_by turn.are;
  leaves = is ∙ ap (λ (fs : List Function). spent (runs (Purpose.of_end plan.code) fs [] (freed_by (plan_events h plan) b))) (sym turn.first)
      ∙ ap (λ (es : List Event). spent (runs (Purpose.of_end plan.code) (final_functions turn.next) [] (freed_by es b))) turn.are;
}

-- ---- its events

finals_allowed : (w : Setting) (h : ℕ) (past added : List Event) (next : Option Function) → Finals w h past added next → AreAllowed w past added
finals_allowed w h past added next (Finals.no_more _ none) = tt
finals_allowed w h past added next (Finals.one_runs _ object function rest more order are) = tt
finals_allowed w h past added next (Finals.one_passes _ object rest behind last order are may finals) = (may, finals_allowed w h (past ++ Fini h object ∷ []) behind last finals)

both_allowed : (w : Setting) (past one other : List Event) → AreAllowed w past one → AreAllowed w (past ++ one) other → AreAllowed w past (one ++ other)
both_allowed w past [] other a b = subst (λ (es : List Event). AreAllowed w es other) (append-nil past) b
both_allowed w past (e ∷ rest) other a b =
    (a.0, both_allowed w (past ++ e ∷ []) rest other a.1 (subst (λ (es : List Event). AreAllowed w es other) (sym (append_assoc past (e ∷ []) rest)) b))

pub all_may : (w : Setting) (past : List Event) (h : ℕ) (plan : FinalPlan) → FinalsMayFollow w past h plan.object → Turns w past h plan → AreAllowed w past (plan_events h plan)
all_may w past h plan may turn =
    subst (AreAllowed w past) (sym turn.are)
    (both_allowed w past (own_fini (after past) h plan.object) turn.events may.own (finals_allowed w h (past ++ own_fini (after past) h plan.object) turn.events turn.next turn.finals))

allowed_at : (w : Setting) (past : List Event) (h : ℕ) (objects : List ℕ) (k d : ℕ) → AreAllowed w past (finis h objects) → k < length objects → d ≡ get_or objects k d
    → Allowed w (past ++ finis h (take k objects)) (Fini h d)
allowed_at w past h [] k d may lt is = absurd (omega (arith, lt))
allowed_at w past h (o ∷ rest) zero d may lt is =
    subst (λ (es : List Event). Allowed w es (Fini h d)) (sym (append-nil past)) (subst (λ (n : ℕ). Allowed w past (Fini h n)) (sym is) may.0)
allowed_at w past h (o ∷ rest) (suc k) d may lt is =
    subst (λ (es : List Event). Allowed w es (Fini h d)) (append_assoc past (Fini h o ∷ []) (finis h (take k rest)))
    (allowed_at w (past ++ Fini h o ∷ []) h rest k d may.1 (omega (arith, lt)) is)

-- so may the next of them, when those before it have come
pub next_follows : (old now : LinkTable) (h : ℕ) (objects : List ℕ) (k d : ℕ) → MayFollowAll old.harts old.events (finis h objects)
    → now ≡ record old { events = old.events ++ finis h (take k objects) } → k < length objects → d ≡ get_or objects k d → MayFollow now.harts now.events (Fini h d)
next_follows old now h objects k d follow is lt at = subst (λ (t : LinkTable). MayFollow t.harts t.events (Fini h d)) (sym is)
    (record { setting = follow.setting; machine = follow.machine; may = allowed_at follow.setting old.events h objects k d follow.may lt at })

pub all_follow : (harts : ℕ) (past : List Event) (h : ℕ) (plan : FinalPlan) (objects : List ℕ) → InitialisedOnce (after past) → IsPlanned (after past) plan
    → FinalsMayFollowIn harts past h plan.object → objects ≡ plan.finalised → MayFollowAll harts past (finis h objects)
all_follow harts past h plan objects once planned may are = record {
  setting = may.setting;
  machine = may.machine;
  may = subst (λ (ds : List ℕ). AreAllowed may.setting past (finis h ds)) (sym are)
      (all_may may.setting past h plan may.may (turns may.setting past h plan once planned may.may));
}
