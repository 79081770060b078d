-- Which objects of a closing are left to be finalised, event by event.
use Rattle.std.proofs.Common.{◌≡◌, inl, ⊎_elim, ℕ, suc, ◌||◌, Bool, true, false, not, List, [], ◌∷◌, ◌++◌, map, reverse, Some, refl, sym, ap, subst, ◌∙◌, arith}
use Rattle.std.specs.Prelude.{◌==◌, if◌then◌else◌}
use Rattle.std.specs.List.{Contains, filter, slice_get}
use Rattle.std.proofs.lemmas.Bool.{cases_Bool, eq-eqb, eqb-true}
use Rattle.std.proofs.lemmas.Grind.{reverse_onto}
use Rattle.std.proofs.lemmas.List.{reverse-append}
use Rattle.std.proofs.lemmas.List.Elements.{Contains-push_cases, filter-append}
use Rattle.ld_base.specs.declared.linking.State.TheVariants as states
use Rattle.history_event.specs.declared.event.CloseAnswer.TheVariants as closes
use Rattle.history_event.specs.declared.event.Event.{Event}
use Rattle.history_event.specs.declared.event.Event.TheVariants as events
use Rattle.history_event.specs.declared.event.OpenAnswer.TheVariants as opens
use Rattle.history_event.specs.declared.event.SymAnswer.TheVariants as syms
use Rattle.history_event.specs.declared.handed.Function.{Function}
use Rattle.history_event.specs.declared.state.Closing.{Closing}
use Rattle.history_graph.specs.Initialised.{is_one_of}
use Rattle.history_state.specs.State.{State}
use Rattle.history_state.specs.After.{after}
use Rattle.history_state.specs.Allowed.{Allowed, AllowedIn}
use Rattle.history_state.specs.Legal.{Lawful}
use Rattle.history_state.specs.Links.{finis_of, unfinished}
use Rattle.history_state.specs.Objects.{has}
use Rattle.history_state.specs.Setting.{Machine, Setting}
use Rattle.history_state.specs.Step.{die, initialise, loaded, lower, step, unmap}
use Rattle.history_state.specs.Lemmas.Brought.{LoadLaws}
use Rattle.history_state.specs.Lemmas.History.{after_push}
use Rattle.history_state.specs.Lemmas.Initialised.{initialised_once}
use Rattle.history_state.specs.Lemmas.Lists.{from_filter, has_in, has_not, here, later, none_in}
use Rattle.history_state.specs.Lemmas.Once.{dies_once}
use Rattle.history_state.specs.Lemmas.Tidy.{in_at}
use Rattle.history_calls.specs.Functions.{left, object_of, passed}
use Rattle.history_state.specs.Lemmas.Finalised.{from_reverse}

-- ---- filters

module _ {X : Type 0} where
  one_more : (p : X → Bool) (x : X) (xs ys : List X) → filter p xs ≡ ys → filter p (x ∷ xs) ≡ (if p x then x ∷ ys else ys)
  one_more p x xs ys e = ap (λ zs. if p x then x ∷ zs else zs) e

  -- two filters change places
  pub swapped : (p q : X → Bool) (xs : List X) → filter p (filter q xs) ≡ filter q (filter p xs)
  swapped p q [] = refl
  swapped p q (x ∷ xs) = by (q x) refl (p x) refl (swapped p q xs)
    where
      by : (b : Bool) → q x ≡ b → (a : Bool) → p x ≡ a → filter p (filter q xs) ≡ filter q (filter p xs) → filter p (if b then x ∷ filter q xs else filter q xs) ≡ filter q (if a then x ∷ filter p xs else filter p xs)
      by true e true d same = one_more p x (filter q xs) _ refl ∙ ap (λ t. if t then x ∷ filter p (filter q xs) else filter p (filter q xs)) d ∙ ap (λ zs. x ∷ zs) same
          ∙ sym (one_more q x (filter p xs) _ refl ∙ ap (λ t. if t then x ∷ filter q (filter p xs) else filter q (filter p xs)) e)
      by true e false d same = one_more p x (filter q xs) _ refl ∙ ap (λ t. if t then x ∷ filter p (filter q xs) else filter p (filter q xs)) d ∙ same
      by false e true d same = same ∙ sym (one_more q x (filter p xs) _ refl ∙ ap (λ t. if t then x ∷ filter q (filter p xs) else filter q (filter p xs)) e)
      by false e false d same = same

  pub filter_reverse : (p : X → Bool) (xs : List X) → filter p (reverse xs) ≡ reverse (filter p xs)
  filter_reverse p [] = refl
  filter_reverse p (x ∷ xs) =
      ap (filter p) (reverse_onto xs x []) ∙ filter-append p (reverse xs) (x ∷ []) ∙ ap (λ ys. ys ++ filter p (x ∷ [])) (filter_reverse p xs) ∙ by (p x)
    where
      by : (t : Bool) → reverse (filter p xs) ++ (if t then x ∷ [] else []) ≡ reverse (if t then x ∷ filter p xs else filter p xs)
      by true = sym (reverse_onto (filter p xs) x [])
      by false = plain (reverse (filter p xs))
        where
          plain : (ys : List X) → ys ++ [] ≡ ys
          plain [] = refl
          plain (y ∷ ys) = ap (λ zs. y ∷ zs) (plain ys)

  -- a filter that all pass
  all_pass : (p : X → Bool) (xs : List X) → ((x : X) → Contains xs x → p x ≡ true) → filter p xs ≡ xs
  all_pass p [] pass = refl
  all_pass p (x ∷ xs) pass =
      ap (λ t. if t then x ∷ filter p xs else filter p xs) (pass x (here x xs)) ∙ ap (λ zs. x ∷ zs) (all_pass p xs (λ y h. pass y (later x xs y h)))

-- ---- lists without repetition

abbrev AllOnce : List ℕ → Type 0
AllOnce [] = Unit {0}
AllOnce (x ∷ xs) = (Contains xs x → ⊥) × AllOnce xs

once_by_places : (xs : List ℕ) → ((i j d : ℕ) → slice_get xs i ≡ Some d → slice_get xs j ≡ Some d → i ≡ j) → AllOnce xs
once_by_places [] once = tt
once_by_places (x ∷ xs) once = (
  λ h. let at = in_at xs x h in let e : 0 ≡ suc at.0 = once 0 (suc at.0) x refl at.1 in omega (arith, e),
  once_by_places xs (λ i j d a b. let e : suc i ≡ suc j = once (suc i) (suc j) d a b in omega (arith, e)),
)

once_filter : (p : ℕ → Bool) (xs : List ℕ) → AllOnce xs → AllOnce (filter p xs)
once_filter p [] once = tt
once_filter p (x ∷ xs) once = by (p x) (once_filter p xs once.1)
  where
    by : (t : Bool) → AllOnce (filter p xs) → AllOnce (if t then x ∷ filter p xs else filter p xs)
    by true rest = (λ h. once.0 (from_filter p xs x h).0, rest)
    by false rest = rest

once_push : (xs : List ℕ) (x : ℕ) → AllOnce xs → (Contains xs x → ⊥) → AllOnce (xs ++ x ∷ [])
once_push [] x once out = (λ h. none_in x h, tt)
once_push (y ∷ xs) x once out = (
  λ h. ⊎_elim (λ (i : Contains xs y). once.0 i) (λ (e : x ≡ y). out (subst (λ (z : ℕ). Contains (z ∷ xs) x) e (here x xs))) (Contains-push_cases xs x y h),
  once_push xs x once.1 (λ h. out (later y xs x h)),
)

once_reverse : (xs : List ℕ) → AllOnce xs → AllOnce (reverse xs)
once_reverse [] once = tt
once_reverse (x ∷ xs) once = subst AllOnce (sym (reverse_onto xs x [])) (once_push (reverse xs) x (once_reverse xs once.1) (λ h. once.0 (from_reverse xs x h)))

-- ---- one object more is finalised

abbrev other_than : ℕ → ℕ → Bool
other_than d o = not (d == o)

has_push : (xs : List ℕ) (d o : ℕ) → has (xs ++ d ∷ []) o ≡ (has xs o || d == o)
has_push [] d o = or_none (d == o)
  where
    or_none : (t : Bool) → (t || false) ≡ t
    or_none true = refl
    or_none false = refl
has_push (x ∷ xs) d o = by (x == o) (has_push xs d o)
  where
    by : (t : Bool) → has (xs ++ d ∷ []) o ≡ (has xs o || d == o) → (t || has (xs ++ d ∷ []) o) ≡ ((t || has xs o) || d == o)
    by true e = refl
    by false e = e

unfinished_push : (finis : List ℕ) (d : ℕ) (xs : List ℕ) → filter (λ o. not (has (finis ++ d ∷ []) o)) xs ≡ filter (other_than d) (filter (λ o. not (has finis o)) xs)
unfinished_push finis d [] = refl
unfinished_push finis d (x ∷ xs) =
    ap (λ t. if not t then x ∷ filter (λ o. not (has (finis ++ d ∷ []) o)) xs else filter (λ o. not (has (finis ++ d ∷ []) o)) xs) (has_push finis d x) ∙ by (has finis x) (d == x) refl (unfinished_push finis d xs)
  where
    by : (a b : Bool) → (d == x) ≡ b → filter (λ o. not (has (finis ++ d ∷ []) o)) xs ≡ filter (other_than d) (filter (λ o. not (has finis o)) xs)
        → (if not (a || b) then x ∷ filter (λ o. not (has (finis ++ d ∷ []) o)) xs else filter (λ o. not (has (finis ++ d ∷ []) o)) xs)
        ≡ filter (other_than d) (if not a then x ∷ filter (λ o. not (has finis o)) xs else filter (λ o. not (has finis o)) xs)
    by true b e same = same
    by false true e same = same ∙ sym (ap (λ t. if not t then x ∷ filter (other_than d) (filter (λ o. not (has finis o)) xs) else filter (other_than d) (filter (λ o. not (has finis o)) xs)) e)
    by false false e same = ap (λ zs. x ∷ zs) same ∙ sym (ap (λ t. if not t then x ∷ filter (other_than d) (filter (λ o. not (has finis o)) xs) else filter (other_than d) (filter (λ o. not (has finis o)) xs)) e)

-- once it is, it is left out
finis_push : (s : State) (set : List ℕ) (d : ℕ) → finis_of (record s { finis = s.finis ++ d ∷ [] }) set ≡ filter (other_than d) (finis_of s set)
finis_push s set d =
    ap (λ xs. filter (is_one_of set) (reverse xs)) (unfinished_push s.finis d s.inits)
    ∙ ap (filter (is_one_of set)) (sym (filter_reverse (other_than d) (unfinished s)))
    ∙ swapped (is_one_of set) (other_than d) (reverse (unfinished s))

in_set : (s : State) (set : List ℕ) (o : ℕ) → Contains (finis_of s set) o → Contains set o
in_set s set o h = has_in set o (from_filter (is_one_of set) (reverse (unfinished s)) o h).1

finis_once : (s : State) → ((i j d : ℕ) → slice_get s.inits i ≡ Some d → slice_get s.inits j ≡ Some d → i ≡ j) → (set : List ℕ) → AllOnce (finis_of s set)
finis_once s once set = once_filter (is_one_of set) (reverse (unfinished s)) (once_reverse (unfinished s) (once_filter (λ o. not (has s.finis o)) s.inits (once_by_places s.inits once)))

differs : (d o : ℕ) → (d ≡ o → ⊥) → other_than d o ≡ true
differs d o other = by (d == o) refl
  where
    by : (t : Bool) → (d == o) ≡ t → not t ≡ true
    by true e = absurd (other (eqb-true d o e))
    by false e = refl

-- the first goes, the others stay
first_goes : (d : ℕ) (rest : List ℕ) → (Contains rest d → ⊥) → filter (other_than d) (d ∷ rest) ≡ rest
first_goes d rest out =
    ap (λ t. if not t then d ∷ filter (other_than d) rest else filter (other_than d) rest) (eq-eqb d d refl)
    ∙ all_pass (other_than d) rest (λ o h. differs d o (λ (e : d ≡ o). out (subst (Contains rest) (sym e) h)))

-- ---- closings

-- the objects of a closing were initialised
closing_done : LoadLaws → (m : Machine) (past : List Event) → Lawful m past → (c : Closing) → Contains (after past).closings c → (d : ℕ) → Contains c.set d → Contains (after past).inits d
closing_done laws m past lawful c there d inside = ⊎_elim
    (λ (t : has (after past).inits d ≡ true). has_in (after past).inits d t)
    (λ (f : has (after past).inits d ≡ false).
    let dies = (dies_once laws m past lawful).dying c d there inside in
    let out : Contains (after past).inits dies.object.serial → ⊥ = λ h. has_not (after past).inits d f (subst (Contains (after past).inits) dies.is h) in
    let busy = (initialised_once laws m past lawful).undone dies.namespace dies.object dies.inside out in
    absurd (let e : states.Dying c.hart ≡ states.Initialising busy.0 = sym dies.dying ∙ busy.1 in cc))
    (cases_Bool (has (after past).inits d))

pub next_finishes : LoadLaws → (m : Machine) (w : Setting) (past : List Event) (closing : Closing) (o : ℕ) (rest : List ℕ) → Lawful m past → Contains (after past).closings closing
    → finis_of (after past) closing.set ≡ o ∷ rest
    → Allowed w past (events.Fini closing.hart o) × (finis_of (after (past ++ events.Fini closing.hart o ∷ [])) closing.set ≡ rest)
next_finishes laws m w past closing o rest lawful there are =
    let once : AllOnce (o ∷ rest) = subst AllOnce are (finis_once (after past) (initialised_once laws m past lawful).once closing.set) in (
      inl (record { closing = closing; there = there; by = refl; next = ap (λ (xs : List ℕ). slice_get xs 0) are }),
      ap (λ (s : State). finis_of s closing.set) (after_push past (events.Fini closing.hart o)) ∙ finis_push (after past) closing.set o ∙ ap (filter (other_than o)) are ∙ first_goes o rest once.0,
    )

finishes_step : LoadLaws → (m : Machine) (w : Setting) (past : List Event) (e : Event) → Lawful m past → AllowedIn w past (after past) e → (closing : Closing) → Contains (after past).closings closing
    → ((h d : ℕ) → e ≡ events.Fini h d → Contains closing.set d → ⊥) → finis_of (step (after past) e) closing.set ≡ finis_of (after past) closing.set
unfolding loaded die lower unmap initialise
finishes_step laws m w past (events.Open hart ask (opens.Done id root added ranges)) lawful may closing there other = refl
finishes_step laws m w past (events.Open hart ask opens.Absent) lawful may closing there other = refl
finishes_step laws m w past (events.Open hart ask (opens.Refused fault)) lawful may closing there other = refl
finishes_step laws m w past (events.Close hart handle (closes.Done set)) lawful may closing there other = refl
finishes_step laws m w past (events.Close hart handle (closes.Refused fault)) lawful may closing there other = refl
finishes_step laws m w past (events.Unmapped hart set) lawful may closing there other = refl
finishes_step laws m w past (events.Grant number hart owner slot choice value) lawful may closing there other = refl
finishes_step laws m w past (events.Bound number) lawful may closing there other = refl
finishes_step laws m w past (events.Lost number saw) lawful may closing there other = refl
finishes_step laws m w past (events.Unresolved hart owner slot choice) lawful may closing there other = refl
finishes_step laws m w past (events.Sym hart ask (syms.Found serial index value)) lawful may closing there other = refl
finishes_step laws m w past (events.Sym hart ask (syms.Refused fault)) lawful may closing there other = refl
finishes_step laws m w past (events.Tls hart owner address) lawful may closing there other = refl
finishes_step laws m w past (events.Init hart object) lawful may closing there other =
    ap (λ xs. filter (is_one_of closing.set) (reverse xs)) (filter-append (λ o. not (has (after past).finis o)) (after past).inits (object ∷ [])) ∙ by (has (after past).finis object)
  where
    out : is_one_of closing.set object ≡ false
    out = not_in (is_one_of closing.set object) refl
      where
        not_in : (t : Bool) → is_one_of closing.set object ≡ t → t ≡ false
        not_in true e = absurd (may.next.may.undone (closing_done laws m past lawful closing there object (has_in closing.set object e)))
        not_in false e = refl

    by : (t : Bool) → filter (is_one_of closing.set) (reverse (unfinished (after past) ++ (if not t then object ∷ [] else []))) ≡ finis_of (after past) closing.set
    by true = ap (λ xs. filter (is_one_of closing.set) (reverse xs)) (plain (unfinished (after past)))
      where
        plain : (ys : List ℕ) → ys ++ [] ≡ ys
        plain [] = refl
        plain (y ∷ ys) = ap (λ zs. y ∷ zs) (plain ys)
    by false = ap (filter (is_one_of closing.set)) (reverse-append (unfinished (after past)) (object ∷ []))
        ∙ ap (λ t. if t then object ∷ filter (is_one_of closing.set) (reverse (unfinished (after past))) else filter (is_one_of closing.set) (reverse (unfinished (after past)))) out
finishes_step laws m w past (events.Fini hart object) lawful may closing there other =
    finis_push (after past) closing.set object
    ∙ all_pass (other_than object) (finis_of (after past) closing.set)
    (λ o h. differs object o (λ (e : object ≡ o). other hart object refl (subst (Contains closing.set) (sym e) (in_set (after past) closing.set o h))))
finishes_step laws m w past (events.Wrote hart bytes) lawful may closing there other = refl
finishes_step laws m w past (events.Told hart fault) lawful may closing there other = refl
finishes_step laws m w past (events.Ended hart reason) lawful may closing there other = refl

pub finishes_stay : LoadLaws → (m : Machine) (w : Setting) (past : List Event) (e : Event) (closing : Closing) → Lawful m past → Allowed w past e → Contains (after past).closings closing
    → ((h d : ℕ) → e ≡ events.Fini h d → Contains closing.set d → ⊥) → finis_of (after (past ++ e ∷ [])) closing.set ≡ finis_of (after past) closing.set
finishes_stay laws m w past e closing lawful may there other =
    ap (λ (s : State). finis_of s closing.set) (after_push past e) ∙ finishes_step laws m w past e lawful may closing there other

-- ---- what passes

pub passed_first : (functions : List Function) → map object_of functions ≡ passed functions ++ map object_of (left functions)
passed_first [] = refl
passed_first (f ∷ rest) = by f.addresses (passed_first rest)
  where
    by : (addresses : List ℕ) → map object_of rest ≡ passed rest ++ map object_of (left rest)
        → f.object ∷ map object_of rest ≡ (elim addresses [ [] ↦ f.object ∷ passed rest | a ∷ more ↦ [] ]) ++ map object_of (elim addresses [ [] ↦ left rest | a ∷ more ↦ f ∷ rest ])
    by [] e = ap (λ xs. f.object ∷ xs) e
    by (a ∷ more) e = refl

pub runs_a_function : (functions rest : List Function) (f : Function) → left functions ≡ f ∷ rest → f.addresses ≡ [] → ⊥
runs_a_function [] rest f e none = cc
runs_a_function (g ∷ functions) rest f e none = by g.addresses refl e (λ more. runs_a_function functions rest f more none)
  where
    by : (addresses : List ℕ) → g.addresses ≡ addresses → (elim addresses [ [] ↦ left functions | a ∷ more ↦ g ∷ functions ]) ≡ f ∷ rest → (left functions ≡ f ∷ rest → ⊥) → ⊥
    by [] is e again = again e
    by (a ∷ more) is e again =
        let same : g ≡ f = cc in
        let empty : [] ≡ a ∷ more = sym none ∙ ap (λ (x : Function). x.addresses) (sym same) ∙ is in cc
