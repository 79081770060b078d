-- Each object is finalised once, after it was initialised.
use Rattle.std.proofs.Common.{◌≡◌, ◌⊎◌, ⊎_elim, ℕ, false, not, List, [], ◌∷◌, ◌++◌, length, reverse, Some, None, refl, sym, subst, ◌∙◌}
use Rattle.std.specs.List.{Contains, slice_get}
use Rattle.std.proofs.lemmas.Bool.{not-true, true≢false}
use Rattle.std.proofs.lemmas.Grind.{reverse_onto}
use Rattle.std.proofs.lemmas.List.Elements.{Contains-push_cases, Contains-append_left}
use Rattle.history_event.specs.declared.event.CloseAnswer.{CloseAnswer}
use Rattle.history_event.specs.declared.event.CloseAnswer.TheVariants as closes
use Rattle.history_event.specs.declared.event.Event.{Event}
use Rattle.history_event.specs.declared.event.Event.TheVariants as events
use Rattle.history_event.specs.declared.event.OpenAnswer.{OpenAnswer}
use Rattle.history_event.specs.declared.event.OpenAnswer.TheVariants as opens
use Rattle.history_event.specs.declared.event.OpenAsk.{OpenAsk}
use Rattle.history_event.specs.declared.event.SymAnswer.TheVariants as syms
use Rattle.history_graph.specs.Initialised.{is_one_of}
use Rattle.history_state.specs.After.{after}
use Rattle.history_state.specs.Allowed.{AllowedIn, AtTheEnd, ByClosing}
use Rattle.history_state.specs.Laws.{FinalisedOnce}
use Rattle.history_state.specs.Legal.{Lawful}
use Rattle.history_state.specs.Links.{finis_of, unfinished}
use Rattle.history_state.specs.Objects.{has}
use Rattle.history_state.specs.Setting.{Machine, Setting}
use Rattle.history_state.specs.State.{State}
use Rattle.history_state.specs.Step.{die, initialise, loaded, lower, step, unmap}
use Rattle.history_state.specs.Lemmas.History.{by_lawful}
use Rattle.history_state.specs.Lemmas.Lists.{at_in, from_filter, has_in, here, in_has, later, none_in}
use Rattle.history_state.specs.Lemmas.Tidy.{get_push}

pub from_reverse : (xs : List ℕ) (x : ℕ) → Contains (reverse xs) x → Contains xs x
from_reverse [] x h = absurd (none_in x h)
from_reverse (y ∷ xs) x h = ⊎_elim
    (λ (i : Contains (reverse xs) x). later y xs x (from_reverse xs x i))
    (λ (e : y ≡ x). subst (Contains (y ∷ xs)) e (here y xs))
    (Contains-push_cases (reverse xs) y x (subst (λ (ys : List ℕ). Contains ys x) (reverse_onto xs y []) h))

-- what FiniList begins with was initialised, and isn't finalised
pub record IsLeft (s : State) (d : ℕ) : Type 0 where
  pub initialised : Contains s.inits d
  pub unfinished : has s.finis d ≡ false

left_of_list : (s : State) (set : List ℕ) (d : ℕ) → Contains (finis_of s set) d → IsLeft s d
left_of_list s set d h =
    let kept = from_filter (is_one_of set) (reverse (unfinished s)) d h in
    let part = from_filter (λ (o : ℕ). not (has s.finis o)) s.inits d (from_reverse (unfinished s) d kept.0) in
    record { initialised = part.0; unfinished = not-true (has s.finis d) part.1 }

pub finished_now : (w : Setting) (past : List Event) (s : State) (hart d : ℕ) → ByClosing s hart d ⊎ AtTheEnd w past s hart d → IsLeft s d
finished_now w past s hart d may = ⊎_elim
    (λ (c : ByClosing s hart d). left_of_list s c.closing.set d (at_in (finis_of s c.closing.set) 0 d c.next))
    (λ (e : AtTheEnd w past s hart d). record { initialised = has_in s.inits d e.initialised; unfinished = e.unfinished })
    may

finalised_more : (s : State) (d : ℕ) → FinalisedOnce s → IsLeft s d → FinalisedOnce (record s { finis = s.finis ++ d ∷ [] })
finalised_more s d old left = record {
  once = λ i j x first second. ⊎_elim
      (λ (a : slice_get s.finis i ≡ Some x). ⊎_elim
      (λ (b : slice_get s.finis j ≡ Some x). old.once i j x a b)
      (λ (b : (j ≡ length s.finis) × (d ≡ x)). absurd (fresh (subst (Contains s.finis) (sym b.1) (at_in s.finis i x a))))
      (get_push s.finis d j x second))
      (λ (a : (i ≡ length s.finis) × (d ≡ x)). ⊎_elim
      (λ (b : slice_get s.finis j ≡ Some x). absurd (fresh (subst (Contains s.finis) (sym a.1) (at_in s.finis j x b))))
      (λ (b : (j ≡ length s.finis) × (d ≡ x)). a.0 ∙ sym b.0)
      (get_push s.finis d j x second))
      (get_push s.finis d i x first);
  initialised = λ x h. ⊎_elim
      (λ (i : Contains s.finis x). old.initialised x i)
      (λ (e : d ≡ x). subst (Contains s.inits) e left.initialised)
      (Contains-push_cases s.finis d x h);
}
  where
    fresh : Contains s.finis d → ⊥
    fresh h = true≢false (sym (in_has s.finis d h) ∙ left.unfinished)

-- an event that leaves both lists, or initialises one more
same_lists : (s t : State) → t.inits ≡ s.inits → t.finis ≡ s.finis → FinalisedOnce s → FinalisedOnce t
same_lists s t inits finis old = record {
  once = λ i j d a b. old.once i j d (subst (λ (xs : List ℕ). slice_get xs i ≡ Some d) finis a) (subst (λ (xs : List ℕ). slice_get xs j ≡ Some d) finis b);
  initialised = λ d h. subst (λ (xs : List ℕ). Contains xs d) (sym inits) (old.initialised d (subst (λ (xs : List ℕ). Contains xs d) finis h));
}

open_keeps : (s : State) (hart : ℕ) (ask : OpenAsk) (answer : OpenAnswer) → FinalisedOnce s → FinalisedOnce (step s (events.Open hart ask answer))
unfolding loaded
open_keeps s hart ask (opens.Done id root added ranges) old = same_lists s _ refl refl old
open_keeps s hart ask opens.Absent old = old
open_keeps s hart ask (opens.Refused fault) old = same_lists s _ refl refl old

close_keeps : (s : State) (hart handle : ℕ) (answer : CloseAnswer) → FinalisedOnce s → FinalisedOnce (step s (events.Close hart handle answer))
unfolding die lower
close_keeps s hart handle (closes.Done set) old = same_lists s _ refl refl old
close_keeps s hart handle (closes.Refused fault) old = same_lists s _ refl refl old

keeps : (w : Setting) (past : List Event) (s : State) (e : Event) → FinalisedOnce s → AllowedIn w past s e → FinalisedOnce (step s e)
unfolding initialise unmap
keeps w past s (events.Open hart ask answer) old may = open_keeps s hart ask answer old
keeps w past s (events.Close hart handle answer) old may = close_keeps s hart handle answer old
keeps w past s (events.Unmapped hart set) old may = same_lists s _ refl refl old
keeps w past s (events.Grant number hart owner slot choice value) old may = same_lists s _ refl refl old
keeps w past s (events.Bound number) old may = same_lists s _ refl refl old
keeps w past s (events.Lost number saw) old may = same_lists s _ refl refl old
keeps w past s (events.Unresolved hart owner slot choice) old may = old
keeps w past s (events.Sym hart ask (syms.Found serial index value)) old may = old
keeps w past s (events.Sym hart ask (syms.Refused fault)) old may = same_lists s _ refl refl old
keeps w past s (events.Tls hart owner address) old may = same_lists s _ refl refl old
keeps w past s (events.Init hart object) old may = record { once = old.once; initialised = λ d h. Contains-append_left s.inits (object ∷ []) d (old.initialised d h) }
keeps w past s (events.Fini hart object) old may = finalised_more s object old (finished_now w past s hart object may)
keeps w past s (events.Wrote hart bytes) old may = old
keeps w past s (events.Told hart fault) old may = same_lists s _ refl refl old
keeps w past s (events.Ended hart reason) old may = same_lists s _ refl refl old

pub finalised_once : (m : Machine) (journal : List Event) → Lawful m journal → FinalisedOnce (after journal)
finalised_once m journal lawful = by_lawful m FinalisedOnce
    (record { once = λ i j d at. absurd (let none : None ≡ Some d = at in cc); initialised = λ d h. absurd (none_in d h) })
    (λ w past e same lawful old may. keeps w past (after past) e old may) journal lawful
