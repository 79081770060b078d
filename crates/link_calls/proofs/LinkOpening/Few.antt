-- The numbers of namespaces are below 16: that of the base, and those that were free when their namespaces came.
use Rattle.std.proofs.Common.{◌≡◌, ℕ, ◌<◌, Bool, true, false, ◌||◌, cond, eqb, List, [], ◌∷◌, ◌++◌, map, Option, Some, None, refl, sym, subst, arith}
use Rattle.std.specs.Prelude.{if◌then◌else◌}
use Rattle.std.specs.List.{filter, find, list_any}
use Rattle.std.proofs.lemmas.Bool.{eqb-true, true≢false}
use Rattle.history_event.specs.declared.event.CloseAnswer.{CloseAnswer}
use Rattle.history_event.specs.declared.event.CloseAnswer.TheVariants as closes
use Rattle.history_event.specs.declared.event.Event.{Event}
use Rattle.history_event.specs.declared.event.Event.TheVariants as events
use Rattle.history_event.specs.declared.event.OpenAnswer.{OpenAnswer}
use Rattle.history_event.specs.declared.event.OpenAnswer.TheVariants as opens
use Rattle.history_event.specs.declared.event.OpenAsk.{OpenAsk}
use Rattle.history_event.specs.declared.event.SymAnswer.{SymAnswer}
use Rattle.history_event.specs.declared.event.SymAnswer.TheVariants as syms
use Rattle.history_state.specs.Allowed.{AllowedIn}
use Rattle.history_state.specs.Asking.{IsNamespace}
use Rattle.history_state.specs.Flags.{is_global}
use Rattle.history_state.specs.Objects.{has_id}
use Rattle.history_state.specs.Opening.{MayOpen}
use Rattle.history_state.specs.Setting.{Setting}
use Rattle.history_state.specs.State.{State, empty_namespace}
use Rattle.history_state.specs.Step.{changed_at, close_step, die, dying_in, gone_in, initialise, is_left, loaded, lower, lowered_in, open_step, ready_in, step, sym_step, unmap, with_namespace}
use Rattle.scope_rule.specs.Opening.{opened}
use Rattle.scope_rule.specs.declared.namespace.Namespace.{Namespace}
use Rattle.link_calls.specs.LinkOpening.Asked.{AreFew}
use Rattle.history_state.specs.Lemmas.Opened.{changed_keeps}

-- ---- changes that keep numbers

few_mapped : (f : Namespace → Namespace) → ((ns : Namespace) → (f ns).id ≡ ns.id) → (all : List Namespace) → AreFew all → AreFew (map f all)
few_mapped f same [] few = tt
few_mapped f same (ns ∷ rest) few = (let e : (f ns).id ≡ ns.id = same ns in omega (arith, few.0), few_mapped f same rest few.1)

few_filtered : (p : Namespace → Bool) (all : List Namespace) → AreFew all → AreFew (filter p all)
few_filtered p [] few = tt
few_filtered p (ns ∷ rest) few = at (p ns) few.0 (few_filtered p rest few.1)
  where
    at : (b : Bool) → ns.id < 16 → AreFew (filter p rest) → AreFew (cond b (ns ∷ filter p rest) (filter p rest))
    at true lt h = (lt, h)
    at false lt h = h

few_pushed : (all : List Namespace) (new : Namespace) → new.id < 16 → AreFew all → AreFew (all ++ new ∷ [])
few_pushed [] new lt few = (lt, tt)
few_pushed (ns ∷ rest) new lt few = (few.0, few_pushed rest new lt few.1)

few_with : (id : ℕ) (change : Namespace → Namespace) → ((ns : Namespace) → (change ns).id ≡ ns.id) → id < 16 → (all : List Namespace) → AreFew all → AreFew (with_namespace id change all)
few_with id change same lt all few = at (list_any (has_id id) all)
  where
    at : (b : Bool) → AreFew (if b then map (changed_at id change) all else all ++ change (empty_namespace id) ∷ [])
    at true = few_mapped (changed_at id change) (changed_keeps id change same) all few
    at false = few_pushed all (change (empty_namespace id)) (let e : (change (empty_namespace id)).id ≡ id = same (empty_namespace id) in omega (arith, lt)) few

-- ---- what is asked

pub below : (id : ℕ) (all : List Namespace) → AreFew all → list_any (has_id id) all ≡ true → id < 16
below id [] few e = absurd (true≢false (sym e))
below id (ns ∷ rest) few e = at (eqb ns.id id) refl e (below id rest few.1)
  where
    at : (b : Bool) → eqb ns.id id ≡ b → (b || list_any (has_id id) rest) ≡ true → (list_any (has_id id) rest ≡ true → id < 16) → id < 16
    at true t h again = let is : ns.id ≡ id = eqb-true ns.id id t in omega (arith, few.0)
    at false t h again = again h

asked_below : (s : State) (ns : Option ℕ) (name : Option (List ℕ)) (id : ℕ) → AreFew s.namespaces → IsNamespace s ns name id → id < 16
asked_below s (Some n) (Some name) id few is = subst (λ (k : ℕ). k < 16) (sym is.0) (below n s.namespaces few is.1)
asked_below s (Some n) None id few is = let e : id ≡ n = is.0 in let z : n ≡ 0 = is.1 in omega arith
asked_below s None (Some name) id few is = is.below
asked_below s None None id few is = absurd is

-- ---- events

opened_few : (w : Setting) (s : State) (hart : ℕ) (ask : OpenAsk) (answer : OpenAnswer) → MayOpen w s hart ask answer → AreFew s.namespaces → AreFew (open_step s hart ask answer).namespaces
unfolding loaded
opened_few w s hart ask (opens.Done id root added ranges) may few =
    few_with id (λ ns. opened ns added root (is_global ask.flags)) (λ ns. refl) (asked_below s ask.ns ask.name id few may.asked.namespace) s.namespaces few
opened_few w s hart ask opens.Absent may few = few
opened_few w s hart ask (opens.Refused fault) may few = few

closed_few : (s : State) (hart handle : ℕ) (answer : CloseAnswer) → AreFew s.namespaces → AreFew (close_step s hart handle answer).namespaces
unfolding die lower
closed_few s hart handle (closes.Done set) few =
    few_mapped (dying_in hart set) (λ ns. refl) (map (lowered_in handle) s.namespaces) (few_mapped (lowered_in handle) (λ ns. refl) s.namespaces few)
closed_few s hart handle (closes.Refused fault) few = few

looked_few : (s : State) (hart : ℕ) (answer : SymAnswer) → AreFew s.namespaces → AreFew (sym_step s hart answer).namespaces
looked_few s hart (syms.Found serial index value) few = few
looked_few s hart (syms.Refused fault) few = few

unmapped_few : (s : State) (hart : ℕ) (set : List ℕ) → AreFew s.namespaces → AreFew (unmap hart set s).namespaces
unfolding unmap
unmapped_few s hart set few = few_filtered is_left (map (gone_in set) s.namespaces) (few_mapped (gone_in set) (λ ns. refl) s.namespaces few)

initialised_few : (s : State) (object : ℕ) → AreFew s.namespaces → AreFew (initialise object s).namespaces
unfolding initialise
initialised_few s object few = few_mapped (ready_in object) (λ ns. refl) s.namespaces few

pub stepped_few : (w : Setting) (past : List Event) (s : State) (e : Event) → AllowedIn w past s e → AreFew s.namespaces → AreFew (step s e).namespaces
stepped_few w past s (events.Open hart ask answer) may few = opened_few w s hart ask answer may few
stepped_few w past s (events.Close hart handle answer) may few = closed_few s hart handle answer few
stepped_few w past s (events.Unmapped hart set) may few = unmapped_few s hart set few
stepped_few w past s (events.Grant number hart owner slot choice value) may few = few
stepped_few w past s (events.Bound number) may few = few
stepped_few w past s (events.Lost number saw) may few = few
stepped_few w past s (events.Unresolved hart owner slot choice) may few = few
stepped_few w past s (events.Sym hart ask answer) may few = looked_few s hart answer few
stepped_few w past s (events.Tls hart owner address) may few = few
stepped_few w past s (events.Init hart object) may few = initialised_few s object few
stepped_few w past s (events.Fini hart object) may few = few
stepped_few w past s (events.Wrote hart bytes) may few = few
stepped_few w past s (events.Told hart fault) may few = few
stepped_few w past s (events.Ended hart reason) may few = few

-- ---- searches

pub found_there : (id : ℕ) (all : List Namespace) (ns : Namespace) → find (has_id id) all ≡ Some ns → list_any (has_id id) all ≡ true
found_there id [] ns e = absurd (let d : None ≡ Some ns = e in cc)
found_there id (m ∷ rest) ns e = at (eqb m.id id) (found_there id rest ns) e
  where
    at : (b : Bool) → (find (has_id id) rest ≡ Some ns → list_any (has_id id) rest ≡ true) → cond b (Some m) (find (has_id id) rest) ≡ Some ns → (b || list_any (has_id id) rest) ≡ true
    at true again f = refl
    at false again f = again f

pub found_none : (id : ℕ) (all : List Namespace) → find (has_id id) all ≡ None → list_any (has_id id) all ≡ false
found_none id [] e = refl
found_none id (m ∷ rest) e = at (eqb m.id id) (found_none id rest) e
  where
    at : (b : Bool) → (find (has_id id) rest ≡ None → list_any (has_id id) rest ≡ false) → cond b (Some m) (find (has_id id) rest) ≡ None → (b || list_any (has_id id) rest) ≡ false
    at true again f = absurd (let d : Some m ≡ None = f in cc)
    at false again f = again f

-- a number past those of namespaces is none's
pub none_past : (all : List Namespace) (id : ℕ) → AreFew all → (id < 4294967296 → ⊥) → list_any (has_id id) all ≡ false
none_past all id few past = at (list_any (has_id id) all) refl
  where
    at : (b : Bool) → list_any (has_id id) all ≡ b → b ≡ false
    at true e = absurd (past (let lt : id < 16 = below id all few e in omega arith))
    at false e = refl
