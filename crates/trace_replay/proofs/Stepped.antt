-- The lists after an event are those of the state after it.
use Rattle.std.proofs.Common.{◌≡◌, ℕ, ◌&&◌, ◌||◌, Bool, true, false, not, cond, eqb, List, [], ◌∷◌, ◌++◌, refl, sym, ap, ◌∙◌}
use Rattle.std.specs.List.{Contains, filter}
use Rattle.std.proofs.lemmas.List.Elements.{filter-append}
use Rattle.std.proofs.lemmas.List.Folds.{list_any-append}
use Rattle.history_event.specs.declared.event.CloseAnswer.TheVariants as closes
use Rattle.history_event.specs.declared.event.Event.{Event}
use Rattle.history_event.specs.declared.event.Event.TheVariants as events
use Rattle.history_event.specs.declared.event.OpenAnswer.TheVariants as opens
use Rattle.history_event.specs.declared.event.SymAnswer.TheVariants as syms
use Rattle.history_state.specs.Lemmas.Lists.{has_in, same_test}
use Rattle.history_state.specs.Links.{unfinished}
use Rattle.history_state.specs.Objects.{has, is_startup, startup_serials}
use Rattle.history_state.specs.State.{State}
use Rattle.history_state.specs.Step.{die, initialise, lower, step, unmap}
use Rattle.trace_replay.specs.Lists.{Lists}
use Rattle.trace_replay.specs.Shown.{IsShown}
use Rattle.trace_replay.specs.Steps.{started, stepped}
use Rattle.trace_replay.specs.Taken.{OpensNothing}

-- lists with those of a state in place of their own
abbrev pub shown : Lists → State → Lists
shown l s = record {
  harts = l.harts;
  begins = is_startup s;
  binds = s.now;
  namespaces = s.namespaces;
  next = s.next;
  ranges = s.ranges;
  modules = s.modules;
  statics = s.statics;
  generation = s.generation;
  blocks = s.blocks;
  grants = s.grants;
  startup = startup_serials s;
  chosen = s.chosen;
  pinned = s.pinned;
  closings = s.closings;
  unfinished = unfinished s;
  kept = s.kept;
  endings = s.endings;
  starting = l.starting;
  heads = l.heads;
}

pub to_shown : (s : State) (l : Lists) → IsShown s l → l ≡ shown l s
to_shown s l x = λ i. record {
  harts = l.harts;
  begins = x.begins i;
  binds = x.binds i;
  namespaces = x.namespaces i;
  next = x.next i;
  ranges = x.ranges i;
  modules = x.modules i;
  statics = x.statics i;
  generation = x.generation i;
  blocks = x.blocks i;
  grants = x.grants i;
  startup = x.startup i;
  chosen = x.chosen i;
  pinned = x.pinned i;
  closings = x.closings i;
  unfinished = x.unfinished i;
  kept = x.kept i;
  endings = x.endings i;
  starting = l.starting;
  heads = l.heads;
}

pub from_shown : (s : State) (l n : Lists) → l ≡ shown n s → IsShown s l
from_shown s l n e = record {
  begins = ap (λ (x : Lists). x.begins) e;
  binds = ap (λ (x : Lists). x.binds) e;
  namespaces = ap (λ (x : Lists). x.namespaces) e;
  next = ap (λ (x : Lists). x.next) e;
  ranges = ap (λ (x : Lists). x.ranges) e;
  modules = ap (λ (x : Lists). x.modules) e;
  statics = ap (λ (x : Lists). x.statics) e;
  generation = ap (λ (x : Lists). x.generation) e;
  blocks = ap (λ (x : Lists). x.blocks) e;
  grants = ap (λ (x : Lists). x.grants) e;
  startup = ap (λ (x : Lists). x.startup) e;
  chosen = ap (λ (x : Lists). x.chosen) e;
  pinned = ap (λ (x : Lists). x.pinned) e;
  closings = ap (λ (x : Lists). x.closings) e;
  unfinished = ap (λ (x : Lists). x.unfinished) e;
  kept = ap (λ (x : Lists). x.kept) e;
  endings = ap (λ (x : Lists). x.endings) e;
}

moved : (f : Lists → Lists) (s t : State) (l n : Lists) → IsShown s l → f (shown l s) ≡ shown n t → IsShown t (f l)
moved f s t l n x e = from_shown t (f l) n (ap f (to_shown s l x) ∙ e)

-- ---- constructors and destructors

-- an object that wasn't initialised wasn't finalised
pub not_finished : (inits finis : List ℕ) (object : ℕ) → ((d : ℕ) → Contains finis d → Contains inits d) → (Contains inits object → ⊥) → has finis object ≡ false
not_finished inits finis object initialised undone = at (has finis object) refl
  where
    at : (b : Bool) → has finis object ≡ b → b ≡ false
    at true e = absurd (undone (initialised object (has_in finis object e)))
    at false e = refl

initialised_last : (inits finis : List ℕ) (object : ℕ) → has finis object ≡ false
    → filter (λ o. not (has finis o)) inits ++ object ∷ [] ≡ filter (λ o. not (has finis o)) (inits ++ object ∷ [])
initialised_last inits finis object none = sym (filter-append (λ o. not (has finis o)) inits (object ∷ []) ∙ ap (λ (b : Bool). filter (λ o. not (has finis o)) inits ++ cond (not b) (object ∷ []) []) none)

left_push : (finis : List ℕ) (d x : ℕ) → not (has (finis ++ d ∷ []) x) ≡ (not (has finis x) && not (eqb x d))
left_push finis d x =
    ap not (list_any-append (λ y. eqb y x) finis (d ∷ [])) ∙ apart (has finis x) (eqb d x) ∙ ap (λ (b : Bool). not (has finis x) && not b) (same_test d x)
  where
    apart : (a b : Bool) → not (a || (b || false)) ≡ (not a && not b)
    apart true b = refl
    apart false true = refl
    apart false false = refl

twice : (p q r : ℕ → Bool) → ((x : ℕ) → r x ≡ (p x && q x)) → (xs : List ℕ) → filter q (filter p xs) ≡ filter r xs
twice p q r both [] = refl
twice p q r both (x ∷ xs) = inner (p x) ∙ ap (λ (t : Bool). cond t (x ∷ filter q (filter p xs)) (filter q (filter p xs))) (sym (both x)) ∙ ap (λ (ys : List ℕ). cond (r x) (x ∷ ys) ys) (twice p q r both xs)
  where
    inner : (b : Bool) → filter q (cond b (x ∷ filter p xs) (filter p xs)) ≡ cond (b && q x) (x ∷ filter q (filter p xs)) (filter q (filter p xs))
    inner true = refl
    inner false = refl

finalised_out : (inits finis : List ℕ) (object : ℕ)
    → filter (λ d. not (eqb d object)) (filter (λ o. not (has finis o)) inits) ≡ filter (λ o. not (has (finis ++ object ∷ []) o)) inits
finalised_out inits finis object = twice (λ o. not (has finis o)) (λ d. not (eqb d object)) (λ o. not (has (finis ++ object ∷ []) o)) (left_push finis object) inits

-- ---- all events

-- an object that is initialised wasn't finalised
abbrev pub IsNew : State → Event → Type 0
IsNew s (events.Init hart object) = has s.finis object ≡ false
IsNew s other = Unit {0}

pub stepped_shown : (e : Event) (s : State) (l : Lists) → OpensNothing e → IsNew s e → IsShown s l → IsShown (step s e) (stepped e l)
unfolding die lower unmap initialise
stepped_shown (events.Open hart ask (opens.Done id root added ranges)) s l none new x = absurd none
stepped_shown (events.Open hart ask opens.Absent) s l none new x = x
stepped_shown (events.Open hart ask (opens.Refused fault)) s l none new x = moved (stepped (events.Open hart ask (opens.Refused fault))) s (step s (events.Open hart ask (opens.Refused fault))) l l x refl
stepped_shown (events.Close hart handle (closes.Done set)) s l none new x = moved (stepped (events.Close hart handle (closes.Done set))) s (step s (events.Close hart handle (closes.Done set))) l l x refl
stepped_shown (events.Close hart handle (closes.Refused fault)) s l none new x =
    moved (stepped (events.Close hart handle (closes.Refused fault))) s (step s (events.Close hart handle (closes.Refused fault))) l l x refl
stepped_shown (events.Sym hart ask (syms.Found serial index value)) s l none new x = x
stepped_shown (events.Sym hart ask (syms.Refused fault)) s l none new x = moved (stepped (events.Sym hart ask (syms.Refused fault))) s (step s (events.Sym hart ask (syms.Refused fault))) l l x refl
stepped_shown (events.Init hart object) s l none new x =
    moved (stepped (events.Init hart object)) s (step s (events.Init hart object)) l (record l { starting = started object l.starting }) x
    (λ i. record (stepped (events.Init hart object) (shown l s)) { unfinished = initialised_last s.inits s.finis object new i })
stepped_shown (events.Fini hart object) s l none new x =
    moved (stepped (events.Fini hart object)) s (step s (events.Fini hart object)) l l x (λ i. record (stepped (events.Fini hart object) (shown l s)) { unfinished = finalised_out s.inits s.finis object i })
stepped_shown e s l none new x = moved (stepped e) s (step s e) l l x refl
