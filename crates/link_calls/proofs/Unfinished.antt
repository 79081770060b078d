-- What was initialised and isn't finalised yet is mapped.
use Rattle.std.proofs.Common.{◌≡◌, ⊎_elim, ℕ, Bool, true, false, not, List, [], ◌∷◌, ◌++◌, map, reverse, refl, sym, ap, subst, ◌∙◌}
use Rattle.std.specs.List.{Contains, filter}
use Rattle.std.proofs.lemmas.Bool.{true≢false}
use Rattle.std.proofs.lemmas.Grind.{reverse_onto}
use Rattle.std.proofs.lemmas.List.Elements.{Contains-append_cases, Contains-append_left, Contains-append_right}
use Rattle.ld_base.specs.declared.linking.Loaded.{Loaded}
use Rattle.history_event.specs.declared.event.CloseAnswer.TheVariants as closes
use Rattle.history_event.specs.declared.event.Event.{Event}
use Rattle.history_event.specs.declared.event.Event.TheVariants as events
use Rattle.history_event.specs.declared.event.OpenAnswer.TheVariants as opens
use Rattle.history_event.specs.declared.event.OpenAsk.{OpenAsk}
use Rattle.history_event.specs.declared.event.Range.{Range}
use Rattle.history_event.specs.declared.event.SymAnswer.TheVariants as syms
use Rattle.history_state.specs.After.{after}
use Rattle.history_state.specs.Allowed.{AllowedIn, MayInitialise}
use Rattle.history_state.specs.Flags.{is_global}
use Rattle.history_state.specs.Laws.{UninitialisedStay}
use Rattle.history_state.specs.Legal.{Lawful}
use Rattle.history_state.specs.Links.{finis_of, unfinished}
use Rattle.history_state.specs.Objects.{IsMapped, has, serial_of}
use Rattle.history_state.specs.Setting.{Machine, Setting}
use Rattle.history_state.specs.State.{State}
use Rattle.history_state.specs.Step.{die, dying_in, dying_object, finalise, gone_in, initialise, is_left, loaded, lower, lowered_in, ready_in, ready_object, step, unmap}
use Rattle.history_state.specs.Lemmas.Changed.{Leaves, leaves_dying, leaves_ready}
use Rattle.history_state.specs.Lemmas.Dangling.{left_nonempty}
use Rattle.history_state.specs.Lemmas.History.{by_lawful}
use Rattle.history_state.specs.Lemmas.Imaged.{reached_open}
use Rattle.history_state.specs.Lemmas.Initialised.{of_loading}
use Rattle.history_state.specs.Lemmas.Lists.{first_or_later, from_filter, has_in, here, in_filter, in_has, in_map, none_in, only_in}
use Rattle.scope_rule.specs.declared.namespace.Namespace.{Namespace}

-- an object of the serial is of one of the namespaces
abbrev Stands : List Namespace → ℕ → Type 0
Stands all d = (ns : Namespace) × (o : Loaded) × Contains all ns × Contains ns.objects o × (o.serial ≡ d)

abbrev AllStand : State → Type 0
AllStand s = (d : ℕ) → Contains (unfinished s) d → Stands s.namespaces d

-- ---- each event

opened_stand : (s : State) (hart id root : ℕ) (ask : OpenAsk) (added : List Loaded) (ranges : List Range) → AllStand s → AllStand (step s (events.Open hart ask (opens.Done id root added ranges)))
unfolding loaded
opened_stand s hart id root ask added ranges stand = λ d left.
    let was = stand d left in
    let at = (reached_open id added root (is_global ask.flags) s.namespaces).0 was.0 was.1 was.2 was.3 in
    (at.0, was.1, at.1, at.2, was.4)

changed_stand : (change : Namespace → Namespace) (each : Loaded → Loaded) → ((ns : Namespace) → (change ns).objects ≡ map each ns.objects) → Leaves each
    → (all : List Namespace) (d : ℕ) → Stands all d → Stands (map change all) d
changed_stand change each are leaves all d was = (
  change was.0,
  each was.1,
  in_map change all was.0 was.2,
  subst (λ (os : List Loaded). Contains os (each was.1)) (sym (are was.0)) (in_map each was.0.objects was.1 was.3),
  ap serial_of (leaves was.1).1 ∙ was.4,
)

closed_stand : (s : State) (hart handle : ℕ) (set : List ℕ) → AllStand s → AllStand (die hart set (lower handle s))
unfolding die lower
closed_stand s hart handle set stand = λ d left.
    let was = stand d left in
    changed_stand (dying_in hart set) (dying_object hart set) (λ ns. refl) (leaves_dying hart set) (map (lowered_in handle) s.namespaces) d
    (lowered_in handle was.0, was.1, in_map (lowered_in handle) s.namespaces was.0 was.2, was.3, was.4)

in_reverse : (xs : List ℕ) (x : ℕ) → Contains xs x → Contains (reverse xs) x
in_reverse [] x h = absurd (none_in x h)
in_reverse (y ∷ xs) x h = subst (λ (ys : List ℕ). Contains ys x) (sym (reverse_onto xs y [])) (⊎_elim
    (λ (same : y ≡ x). subst (Contains (reverse xs ++ y ∷ [])) same (Contains-append_right (reverse xs) (y ∷ []) y (here y [])))
    (λ (rest : Contains xs x). Contains-append_left (reverse xs) (y ∷ []) x (in_reverse xs x rest))
    (first_or_later y xs x h))

unmapped_stand : (s : State) (hart : ℕ) (set : List ℕ) → finis_of s set ≡ [] → AllStand s → AllStand (unmap hart set s)
unfolding unmap
unmapped_stand s hart set done stand = λ d left.
    let was = stand d left in
    let kept : Contains (filter (λ (q : Loaded). not (has set q.serial)) was.0.objects) was.1 =
    in_filter (λ (q : Loaded). not (has set q.serial)) was.0.objects was.1 was.3 (ap (λ (n : ℕ). not (has set n)) was.4 ∙ out d left (has set d) refl) in (
      gone_in set was.0,
      was.1,
      in_filter is_left (map (gone_in set) s.namespaces) (gone_in set was.0) (in_map (gone_in set) s.namespaces was.0 was.2) (left_nonempty (gone_in set was.0) d (was.1, kept, was.4)),
      kept,
      was.4,
    )
  where
    out : (d : ℕ) → Contains (unfinished s) d → (b : Bool) → has set d ≡ b → not (has set d) ≡ true
    out d left true e = absurd (none_in d (subst (λ (ds : List ℕ). Contains ds d) done (in_filter (has set) (reverse (unfinished s)) d (in_reverse (unfinished s) d left) e)))
    out d left false e = ap not e

ready_stand : (s : State) (object : ℕ) → Stands s.namespaces object → AllStand s → AllStand (initialise object s)
unfolding initialise
ready_stand s object doing stand = λ d left.
    let kept = from_filter (λ (o : ℕ). not (has s.finis o)) (s.inits ++ object ∷ []) d left in
    changed_stand (ready_in object) (ready_object object) (λ ns. refl) (leaves_ready object) s.namespaces d (⊎_elim
    (λ (old : Contains s.inits d). stand d (in_filter (λ (o : ℕ). not (has s.finis o)) s.inits d old kept.1))
    (λ (new : Contains (object ∷ []) d). subst (Stands s.namespaces) (only_in object d new) doing)
    (Contains-append_cases s.inits (object ∷ []) d kept.0))

finished_stand : (s : State) (object : ℕ) → AllStand s → AllStand (finalise object s)
finished_stand s object stand = λ d left.
    let kept = from_filter (λ (o : ℕ). not (has (s.finis ++ object ∷ []) o)) s.inits d left in
    stand d (in_filter (λ (o : ℕ). not (has s.finis o)) s.inits d kept.0 (out d (has s.finis d) refl kept.1))
  where
    out : (d : ℕ) (b : Bool) → has s.finis d ≡ b → not (has (s.finis ++ object ∷ []) d) ≡ true → not (has s.finis d) ≡ true
    out d true e more = absurd (true≢false (sym more ∙ ap not (in_has (s.finis ++ object ∷ []) d (Contains-append_left s.finis (object ∷ []) d (has_in s.finis d e)))))
    out d false e more = ap not e

-- ---- all events

next_stands : (s : State) (hart object : ℕ) → UninitialisedStay s → MayInitialise s hart object → Stands s.namespaces object
next_stands s hart object stay may =
    let is = stay may.loading object may.there (of_loading s hart object may) may.next.may.undone in
    (is.namespace, is.object, is.inside.there, is.inside.inside, is.is)

stand_step : (w : Setting) (past : List Event) (e : Event) → UninitialisedStay (after past) → AllStand (after past) → AllowedIn w past (after past) e → AllStand (step (after past) e)
stand_step w past (events.Open hart ask (opens.Done id root added ranges)) stay stand may = opened_stand (after past) hart id root ask added ranges stand
stand_step w past (events.Open hart ask opens.Absent) stay stand may = stand
stand_step w past (events.Open hart ask (opens.Refused fault)) stay stand may = stand
stand_step w past (events.Close hart handle (closes.Done set)) stay stand may = closed_stand (after past) hart handle set stand
stand_step w past (events.Close hart handle (closes.Refused fault)) stay stand may = stand
stand_step w past (events.Unmapped hart set) stay stand may = unmapped_stand (after past) hart set may.done stand
stand_step w past (events.Grant number hart owner slot choice value) stay stand may = stand
stand_step w past (events.Bound number) stay stand may = stand
stand_step w past (events.Lost number saw) stay stand may = stand
stand_step w past (events.Unresolved hart owner slot choice) stay stand may = stand
stand_step w past (events.Sym hart ask (syms.Found serial index value)) stay stand may = stand
stand_step w past (events.Sym hart ask (syms.Refused fault)) stay stand may = stand
stand_step w past (events.Tls hart owner address) stay stand may = stand
stand_step w past (events.Init hart object) stay stand may = ready_stand (after past) object (next_stands (after past) hart object stay may) stand
stand_step w past (events.Fini hart object) stay stand may = finished_stand (after past) object stand
stand_step w past (events.Wrote hart bytes) stay stand may = stand
stand_step w past (events.Told hart fault) stay stand may = stand
stand_step w past (events.Ended hart reason) stay stand may = stand

pub unfinished_stay : ((m : Machine) (events : List Event) → Lawful m events → UninitialisedStay (after events)) → (m : Machine) (journal : List Event) → Lawful m journal
    → (d : ℕ) → Contains (unfinished (after journal)) d → IsMapped (after journal) d
unfinished_stay stays m journal lawful d left =
    let at = by_lawful m AllStand (λ x h. absurd (none_in x h)) (λ w past e same past_lawful stand may. stand_step w past e (stays m past past_lawful) stand may) journal lawful d left in
    record { namespace = at.0; object = at.1; there = at.2; inside = at.3; is = at.4 }
