-- Ranges of a lawful history: no address is in two of them, and they lie in guest memory.
use Rattle.std.proofs.Common.{◌≡◌, ⊎_elim, ℕ, ◌+◌, ◌*◌, ◌<◌, ◌≤◌, Bool, true, false, not, cond, leb, ltb, List, [], ◌∷◌, ◌++◌, length, Some, None, Option, refl, sym, ap, subst, ◌∙◌, arith}
use Rattle.std.specs.List.{Contains, filter}
use Rattle.std.proofs.lemmas.Bool.{and_from, cases_Bool, le-leb, lt-ltb, not-true, true≢false}
use Rattle.std.proofs.lemmas.List.{take_all}
use Rattle.std.proofs.lemmas.List.Elements.{Contains-append_cases, Contains-append_left, Contains-append_right}
use Rattle.address_space.specs.Pages.{AllFree, is_within, without}
use Rattle.ld_base.specs.declared.linking.Loaded.{Loaded}
use Rattle.history_event.specs.declared.event.CloseAnswer.TheVariants as closes
use Rattle.history_event.specs.declared.event.Event.{Event}
use Rattle.history_event.specs.declared.event.Event.TheVariants as events
use Rattle.history_event.specs.declared.event.OpenAnswer.TheVariants as opens
use Rattle.history_event.specs.declared.event.OpenAsk.{OpenAsk}
use Rattle.history_event.specs.declared.event.Range.{Range}
use Rattle.history_event.specs.declared.event.SymAnswer.TheVariants as syms
use Rattle.history_state.specs.After.{after}
use Rattle.history_state.specs.Allowed.{Allowed, AllowedIn}
use Rattle.history_state.specs.Areas.{AreGiven, Area, free_pages}
use Rattle.history_state.specs.Changes.{reserved, taken}
use Rattle.history_state.specs.Legal.{Lawful}
use Rattle.history_state.specs.Memory.{covers}
use Rattle.history_state.specs.Opening.{OpensName}
use Rattle.history_state.specs.Setting.{Machine, Setting}
use Rattle.history_state.specs.State.{State}
use Rattle.history_state.specs.Step.{die, goes_with, initialise, loaded, lower, step, unmap}
use Rattle.history_state.specs.Lemmas.History.{after_push, by_history, lawful_push}
use Rattle.history_state.specs.Lemmas.Lists.{from_filter, here, in_filter, later, none_in, only_in}
use Rattle.history_state.specs.Lemmas.Map.{one_cover, ranges_apart, within_of}
use Rattle.history_state.specs.Lemmas.Ranges.{apart_after, block_free, clear_free, given_free, opens_free}
use Rattle.history_calls.specs.Served.{is_area}
use Rattle.world_memory.specs.Pages.{AreGuest, objects_first}

-- ---- no range that has pages stands in a list twice

abbrev AreOnce : List Range → Type 0
AreOnce [] = Unit {0}
AreOnce (r ∷ rest) = (0 < r.pages → Contains rest r → ⊥) × AreOnce rest

once_filter : (p : Range → Bool) (ranges : List Range) → AreOnce ranges → AreOnce (filter p ranges)
once_filter p [] once = tt
once_filter p (r ∷ rest) once = by (p r) (once_filter p rest once.1)
  where
    by : (t : Bool) → AreOnce (filter p rest) → AreOnce (cond t (r ∷ filter p rest) (filter p rest))
    by true behind = (λ some there. once.0 some (from_filter p rest r there).0, behind)
    by false behind = behind

once_append : (xs ys : List Range) → AreOnce xs → AreOnce ys → ((r : Range) → 0 < r.pages → Contains xs r → Contains ys r → ⊥) → AreOnce (xs ++ ys)
once_append [] ys first second apart = second
once_append (r ∷ xs) ys first second apart = (
  λ some there. ⊎_elim (λ (i : Contains xs r). first.0 some i) (λ (j : Contains ys r). apart r some (here r xs) j) (Contains-append_cases xs ys r there),
  once_append xs ys first.1 second (λ q some i j. apart q some (later r xs q i) j),
)

once_behind : (xs ys : List Range) → AreOnce (xs ++ ys) → AreOnce ys
once_behind [] ys once = once
once_behind (r ∷ xs) ys once = once_behind xs ys once.1

-- the first page of a range is within the range
first_within : (r : Range) → 0 < r.pages → is_within r.address r.pages (r.address + 4096 * 0) ≡ true
first_within r some =
    and_from (leb r.address (r.address + 4096 * 0)) (ltb (r.address + 4096 * 0) (r.address + 4096 * r.pages))
    (le-leb r.address (r.address + 4096 * 0) (omega arith)) (lt-ltb (r.address + 4096 * 0) (r.address + 4096 * r.pages) (omega (arith, some)))

-- pages that are free are of no range that is there
not_free : (ranges : List Range) (r : Range) → 0 < r.pages → Contains ranges r → AllFree (free_pages ranges) r.address r.pages → ⊥
not_free ranges r some there free =
    true≢false (sym (first_within r some) ∙ (clear_free ranges (r.address + 4096 * 0) (free 0 some)).1 r there)

-- nor of one that was given before
not_left : (free : List ℕ) (r : Range) → 0 < r.pages → AllFree (without free r.address r.pages) r.address r.pages → ⊥
not_left free r some left =
    true≢false (sym (first_within r some) ∙ not-true _ (from_filter (λ page. not (is_within r.address r.pages page)) free (r.address + 4096 * 0) (left 0 some)).1)

given_once : (free : List ℕ) (wanted : List Area) (given : List Range) (left : List ℕ) → AreGiven free wanted given left → AreOnce given
given_once free [] [] left are = tt
given_once free [] (r ∷ given) left are = absurd are
given_once free (area ∷ wanted) [] left are = tt
given_once free (area ∷ wanted) (r ∷ given) left are = (
  λ some there. not_left free r some (given_free (without free r.address r.pages) wanted given left are.1 r there),
  given_once (without free r.address r.pages) wanted given left are.1,
)

-- ---- each event

opens_once : (w : Setting) (s : State) (hart : ℕ) (ask : OpenAsk) (id root : ℕ) (added : List Loaded) (ranges : List Range) (name : Option (List ℕ))
    → OpensName w s hart ask name id root added ranges → AreOnce ranges
opens_once w s hart ask id root added ranges (Some name) loads = given_once (free_pages s.ranges) _ ranges loads.placed.left loads.placed.given
opens_once w s hart ask id root added ranges None program = subst AreOnce (sym program.no_pages) tt

once_step : (w : Setting) (past : List Event) (s : State) (e : Event) → AllowedIn w past s e → AreOnce s.ranges → AreOnce (step s e).ranges
unfolding loaded die lower unmap initialise
once_step w past s (events.Open hart ask (opens.Done id root added ranges)) may once =
    once_append s.ranges ranges once (opens_once w s hart ask id root added ranges ask.name may.name)
    (λ r some old new. not_free s.ranges r some old (opens_free w s hart ask id root added ranges ask.name may.name r new))
once_step w past s (events.Open hart ask opens.Absent) may once = once
once_step w past s (events.Open hart ask (opens.Refused fault)) may once = once
once_step w past s (events.Close hart handle (closes.Done set)) may once = once
once_step w past s (events.Close hart handle (closes.Refused fault)) may once = once
once_step w past s (events.Unmapped hart set) may once = once_filter (λ r. not (goes_with set r)) s.ranges once
once_step w past s (events.Grant number hart owner slot choice value) may once = once
once_step w past s (events.Bound number) may once = once
once_step w past s (events.Lost number saw) may once = once
once_step w past s (events.Unresolved hart owner slot choice) may once = once
once_step w past s (events.Sym hart ask (syms.Found serial index value)) may once = once
once_step w past s (events.Sym hart ask (syms.Refused fault)) may once = once
once_step w past s (events.Tls hart owner address) may once =
    let free = block_free s hart owner address may in
    subst (λ (rs : List Range). AreOnce (s.ranges ++ rs)) (sym free.1)
    (once_append s.ranges (free.0 ∷ []) once ((λ some there. none_in free.0 there), tt)
    (λ r some old new. not_free s.ranges r some old (subst (λ (q : Range). AllFree (free_pages s.ranges) q.address q.pages) (only_in free.0 r new) free.2)))
once_step w past s (events.Init hart object) may once = once
once_step w past s (events.Fini hart object) may once = once
once_step w past s (events.Wrote hart bytes) may once = once
once_step w past s (events.Told hart fault) may once = once
once_step w past s (events.Ended hart reason) may once = once

once_after : (m : Machine) (journal : List Event) → Lawful m journal → AreOnce (after journal).ranges
once_after m journal lawful =
    subst (λ (es : List Event). AreOnce (after es).ranges) (take_all (length journal) journal (omega arith))
    (by_history m (λ s. AreOnce s.ranges) tt (λ w past e same once may. once_step w past (after past) e may once) journal lawful (length journal))

-- ---- what an event reserves

-- a part of the ranges that are there then
record Behind (s : State) (e : Event) : Type 0 where
  pub front : List Range
  pub are : (step s e).ranges ≡ front ++ reserved s e

append_none : (xs : List Range) → xs ≡ xs ++ []
append_none [] = refl
append_none (x ∷ xs) = ap (λ (zs : List Range). x ∷ zs) (append_none xs)

nothing : (s : State) (e : Event) → reserved s e ≡ [] → Behind s e
nothing s e none = record { front = (step s e).ranges; are = append_none (step s e).ranges ∙ ap (λ (rs : List Range). (step s e).ranges ++ rs) (sym none) }

behind : (s : State) (e : Event) → Behind s e
unfolding loaded
behind s (events.Open hart ask (opens.Done id root added ranges)) = record { front = s.ranges; are = refl }
behind s (events.Open hart ask opens.Absent) = nothing s (events.Open hart ask opens.Absent) refl
behind s (events.Open hart ask (opens.Refused fault)) = nothing s (events.Open hart ask (opens.Refused fault)) refl
behind s (events.Close hart handle answer) = nothing s (events.Close hart handle answer) refl
behind s (events.Unmapped hart set) = nothing s (events.Unmapped hart set) refl
behind s (events.Grant number hart owner slot choice value) = nothing s (events.Grant number hart owner slot choice value) refl
behind s (events.Bound number) = nothing s (events.Bound number) refl
behind s (events.Lost number saw) = nothing s (events.Lost number saw) refl
behind s (events.Unresolved hart owner slot choice) = nothing s (events.Unresolved hart owner slot choice) refl
behind s (events.Sym hart ask answer) = nothing s (events.Sym hart ask answer) refl
behind s (events.Tls hart owner address) = record { front = s.ranges; are = refl }
behind s (events.Init hart object) = nothing s (events.Init hart object) refl
behind s (events.Fini hart object) = nothing s (events.Fini hart object) refl
behind s (events.Wrote hart bytes) = nothing s (events.Wrote hart bytes) refl
behind s (events.Told hart fault) = nothing s (events.Told hart fault) refl
behind s (events.Ended hart reason) = nothing s (events.Ended hart reason) refl

-- what an event takes away are ranges that are there
taken_there : (s : State) (e : Event) → AreOnce s.ranges → AreOnce (taken s e) × ((r : Range) → Contains (taken s e) r → Contains s.ranges r)
taken_there s (events.Unmapped hart set) once = (once_filter (goes_with set) s.ranges once, λ r there. (from_filter (goes_with set) s.ranges r there).0)
taken_there s (events.Open hart ask answer) once = (tt, λ r there. absurd (none_in r there))
taken_there s (events.Close hart handle answer) once = (tt, λ r there. absurd (none_in r there))
taken_there s (events.Grant number hart owner slot choice value) once = (tt, λ r there. absurd (none_in r there))
taken_there s (events.Bound number) once = (tt, λ r there. absurd (none_in r there))
taken_there s (events.Lost number saw) once = (tt, λ r there. absurd (none_in r there))
taken_there s (events.Unresolved hart owner slot choice) once = (tt, λ r there. absurd (none_in r there))
taken_there s (events.Sym hart ask answer) once = (tt, λ r there. absurd (none_in r there))
taken_there s (events.Tls hart owner address) once = (tt, λ r there. absurd (none_in r there))
taken_there s (events.Init hart object) once = (tt, λ r there. absurd (none_in r there))
taken_there s (events.Fini hart object) once = (tt, λ r there. absurd (none_in r there))
taken_there s (events.Wrote hart bytes) once = (tt, λ r there. absurd (none_in r there))
taken_there s (events.Told hart fault) once = (tt, λ r there. absurd (none_in r there))
taken_there s (events.Ended hart reason) once = (tt, λ r there. absurd (none_in r there))

-- ---- no address is in two

abbrev pub AreApart : List Range → Type 0
AreApart [] = Unit {0}
AreApart (r ∷ rest) = ((q : Range) (a : ℕ) → Contains rest q → covers a r ≡ true → covers a q ≡ false) × AreApart rest

-- where ranges that have an address in common are one
abbrev AreOne : List Range → Type 0
AreOne ranges = (a : ℕ) (r q : Range) → Contains ranges r → Contains ranges q → covers a r ≡ true → covers a q ≡ true → r ≡ q

apart : (ranges : List Range) → AreOnce ranges → AreOne ranges → AreApart ranges
apart [] once one = tt
apart (r ∷ rest) once one = (
  λ q a there in_r. ⊎_elim
      (λ (in_q : covers a q ≡ true). absurd (twice a in_r (subst (Contains rest) (sym (one a r q (here r rest) (later r rest q there) in_r in_q)) there)))
      (λ (out : covers a q ≡ false). out)
      (cases_Bool (covers a q)),
  apart rest once.1 (λ a q p first second. one a q p (later r rest q first) (later r rest p second)),
)
  where
    twice : (a : ℕ) → covers a r ≡ true → Contains rest r → ⊥
    twice a in_r there =
        let inside = within_of a r in_r in
        let low : r.address ≤ a = inside.0 in
        let high : a < r.address + 4096 * r.pages = inside.1 in
        once.0 (omega (arith, low, high)) there

-- what comes or goes with an event lies in guest memory, each address in one range
pub record Lie (ranges : List Range) : Type 0 where
  pub apart : AreApart ranges
  pub guest : AreGuest ranges

lie : (m : Machine) (journal : List Event) → Lawful m journal → (ranges : List Range) → AreOnce ranges → ((r : Range) → Contains ranges r → Contains (after journal).ranges r) → Lie ranges
lie m journal lawful ranges once there = record {
  apart = apart ranges once (λ a r q first second. one_cover (after journal).ranges (apart_after m journal lawful) a r q (there r first) (there q second));
  guest = λ r inside some. (ranges_apart m journal lawful).guest r (there r inside) some;
}

-- the objects' ranges and the others together are all ranges
pub from_objects_first : (ranges : List Range) (r : Range) → Contains (objects_first ranges) r → Contains ranges r
from_objects_first ranges r there = ⊎_elim
    (λ (i : Contains (filter (λ q. not (is_area q)) ranges) r). (from_filter (λ q. not (is_area q)) ranges r i).0)
    (λ (j : Contains (filter is_area ranges) r). (from_filter is_area ranges r j).0)
    (Contains-append_cases (filter (λ q. not (is_area q)) ranges) (filter is_area ranges) r there)

pub in_objects_first : (ranges : List Range) (r : Range) → Contains ranges r → Contains (objects_first ranges) r
in_objects_first ranges r there = ⊎_elim
    (λ (t : is_area r ≡ true). Contains-append_right (filter (λ q. not (is_area q)) ranges) (filter is_area ranges) r (in_filter is_area ranges r there t))
    (λ (f : is_area r ≡ false). Contains-append_left (filter (λ q. not (is_area q)) ranges) (filter is_area ranges) r (in_filter (λ q. not (is_area q)) ranges r there (ap not f)))
    (cases_Bool (is_area r))

once_objects_first : (ranges : List Range) → AreOnce ranges → AreOnce (objects_first ranges)
once_objects_first ranges once =
    once_append (filter (λ q. not (is_area q)) ranges) (filter is_area ranges) (once_filter (λ q. not (is_area q)) ranges once) (once_filter is_area ranges once)
    (λ r some i j. true≢false (sym (from_filter is_area ranges r j).1 ∙ not-true _ (from_filter (λ q. not (is_area q)) ranges r i).1))

module _ (m : Machine) (w : Setting) (same : w.machine ≡ m) (past : List Event) (e : Event) (lawful : Lawful m past) (may : Allowed w past e) where
  now : Lawful m (past ++ e ∷ [])
  now = lawful_push m w past e same lawful may

  there : (r : Range) → Contains (reserved (after past) e) r → Contains (after (past ++ e ∷ [])).ranges r
  there r inside =
      let of = behind (after past) e in
      subst (λ (s : State). Contains s.ranges r) (sym (after_push past e))
      (subst (λ (rs : List Range). Contains rs r) (sym of.are) (Contains-append_right of.front (reserved (after past) e) r inside))

  once : AreOnce (reserved (after past) e)
  once =
      let of = behind (after past) e in
      once_behind of.front (reserved (after past) e)
      (subst AreOnce of.are (subst (λ (s : State). AreOnce s.ranges) (after_push past e) (once_after m (past ++ e ∷ []) now)))

  pub reserved_guest : AreGuest (reserved (after past) e)
  reserved_guest = (lie m (past ++ e ∷ []) now (reserved (after past) e) once there).guest

  pub reserved_apart : AreApart (objects_first (reserved (after past) e))
  reserved_apart =
      (lie m (past ++ e ∷ []) now (objects_first (reserved (after past) e)) (once_objects_first (reserved (after past) e) once)
      (λ r inside. there r (from_objects_first (reserved (after past) e) r inside))).apart

  pub taken_lie : Lie (taken (after past) e)
  taken_lie =
      let are = taken_there (after past) e (once_after m past lawful) in
      lie m past lawful (taken (after past) e) are.0 are.1
