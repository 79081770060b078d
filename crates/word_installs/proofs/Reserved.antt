-- What an event reserves and takes away: ranges that no address is in twice, and the images of new objects.
use Rattle.std.proofs.Common.{◌≡◌, ◌⊎◌, ⊎_elim, inl, inr, ℕ, zero, suc, ◌+◌, ◌*◌, ◌<◌, ◌≤◌, Bool, true, false, not, cond, leb, ltb, List, [], ◌∷◌, ◌++◌, map, Option, Some, None, refl, sym, ap, subst, ◌∙◌, arith}
use Rattle.std.specs.List.{Contains, filter, slice_get}
use Rattle.std.proofs.lemmas.Bool.{and_from, cases_Bool, le-leb, lt-ltb, not-true, true≢false}
use Rattle.std.proofs.lemmas.List.Elements.{Contains-append_cases, Contains-append_right}
use Rattle.address_space.specs.Pages.{AllFree, is_within, without}
use Rattle.ld_base.specs.declared.linking.Loaded.{Loaded}
use Rattle.history_event.specs.declared.event.CloseAnswer.TheVariants as closes
use Rattle.history_event.specs.declared.event.Event.{Event}
use Rattle.history_event.specs.declared.event.Event.TheVariants as events
use Rattle.history_event.specs.declared.event.OpenAnswer.TheVariants as opens
use Rattle.history_event.specs.declared.event.OpenAsk.{OpenAsk}
use Rattle.history_event.specs.declared.event.Range.{Range}
use Rattle.history_event.specs.declared.event.SymAnswer.TheVariants as syms
use Rattle.history_state.specs.Allowed.{AllowedIn}
use Rattle.history_state.specs.Areas.{AreGiven, Area, free_pages}
use Rattle.history_state.specs.Bound.{linked_with, uncopied, with_copies}
use Rattle.history_state.specs.Changes.{reserved, taken}
use Rattle.history_state.specs.Memory.{covers}
use Rattle.history_state.specs.Objects.{has}
use Rattle.history_state.specs.Opening.{OpensName}
use Rattle.history_state.specs.Setting.{Setting}
use Rattle.history_state.specs.State.{Linked, State}
use Rattle.history_state.specs.Step.{binds, die, goes_with, initialise, loaded, lower, seen_after, step, unmap}
use Rattle.history_state.specs.Lemmas.Lists.{at_in, from_filter, here, in_map, later, none_in}
use Rattle.history_state.specs.Lemmas.Map.{made_of, one_cover, within_of}
use Rattle.history_state.specs.Lemmas.Ranges.{Apart, block_free, given_free}
use Rattle.world_memory.specs.TurnAnswers.Changes.{loaded_objects}

-- ---- ranges

pub reserved_there : (s : State) (e : Event) (r : Range) → Contains (reserved s e) r → Contains (step s e).ranges r
unfolding loaded
reserved_there s (events.Open hart ask (opens.Done id root added ranges)) r there = Contains-append_right s.ranges ranges r there
reserved_there s (events.Open hart ask opens.Absent) r there = absurd (none_in r there)
reserved_there s (events.Open hart ask (opens.Refused fault)) r there = absurd (none_in r there)
reserved_there s (events.Close hart handle answer) r there = absurd (none_in r there)
reserved_there s (events.Unmapped hart set) r there = absurd (none_in r there)
reserved_there s (events.Grant number hart owner slot choice value) r there = absurd (none_in r there)
reserved_there s (events.Bound number) r there = absurd (none_in r there)
reserved_there s (events.Lost number saw) r there = absurd (none_in r there)
reserved_there s (events.Unresolved hart owner slot choice) r there = absurd (none_in r there)
reserved_there s (events.Sym hart ask answer) r there = absurd (none_in r there)
reserved_there s (events.Tls hart owner address) r there = Contains-append_right s.ranges (reserved s (events.Tls hart owner address)) r there
reserved_there s (events.Init hart object) r there = absurd (none_in r there)
reserved_there s (events.Fini hart object) r there = absurd (none_in r there)
reserved_there s (events.Wrote hart bytes) r there = absurd (none_in r there)
reserved_there s (events.Told hart fault) r there = absurd (none_in r there)
reserved_there s (events.Ended hart reason) r there = absurd (none_in r there)

pub taken_there : (s : State) (e : Event) (r : Range) → Contains (taken s e) r → Contains s.ranges r
taken_there s (events.Unmapped hart set) r there = (from_filter (goes_with set) s.ranges r there).0
taken_there s (events.Open hart ask answer) r there = absurd (none_in r there)
taken_there s (events.Close hart handle answer) r there = absurd (none_in r there)
taken_there s (events.Grant number hart owner slot choice value) r there = absurd (none_in r there)
taken_there s (events.Bound number) r there = absurd (none_in r there)
taken_there s (events.Lost number saw) r there = absurd (none_in r there)
taken_there s (events.Unresolved hart owner slot choice) r there = absurd (none_in r there)
taken_there s (events.Sym hart ask answer) r there = absurd (none_in r there)
taken_there s (events.Tls hart owner address) r there = absurd (none_in r there)
taken_there s (events.Init hart object) r there = absurd (none_in r there)
taken_there s (events.Fini hart object) r there = absurd (none_in r there)
taken_there s (events.Wrote hart bytes) r there = absurd (none_in r there)
taken_there s (events.Told hart fault) r there = absurd (none_in r there)
taken_there s (events.Ended hart reason) r there = absurd (none_in r there)

-- ---- no range that has pages stands in a list twice

abbrev AreOnce : List Range → Type 0
AreOnce [] = Unit {0}
AreOnce (r ∷ rest) = (0 < r.pages → Contains rest r → ⊥) × AreOnce rest

-- the first page of a range is within the range
first_within : (r : Range) → 0 < r.pages → is_within r.address r.pages (r.address + 4096 * 0) ≡ true
first_within r some =
    and_from (leb r.address (r.address + 4096 * 0)) (ltb (r.address + 4096 * 0) (r.address + 4096 * r.pages))
    (le-leb r.address (r.address + 4096 * 0) (omega arith)) (lt-ltb (r.address + 4096 * 0) (r.address + 4096 * r.pages) (omega (arith, some)))

-- pages that were given aren't free any more
not_left : (free : List ℕ) (r : Range) → 0 < r.pages → AllFree (without free r.address r.pages) r.address r.pages → ⊥
not_left free r some left =
    true≢false (sym (first_within r some) ∙ not-true _ (from_filter (λ page. not (is_within r.address r.pages page)) free (r.address + 4096 * 0) (left 0 some)).1)

given_once : (free : List ℕ) (wanted : List Area) (given : List Range) (left : List ℕ) → AreGiven free wanted given left → AreOnce given
given_once free [] [] left are = tt
given_once free [] (r ∷ given) left are = absurd are
given_once free (area ∷ wanted) [] left are = tt
given_once free (area ∷ wanted) (r ∷ given) left are = (
  λ some there. not_left free r some (given_free (without free r.address r.pages) wanted given left are.1 r there),
  given_once (without free r.address r.pages) wanted given left are.1,
)

opens_once : (w : Setting) (s : State) (hart : ℕ) (ask : OpenAsk) (id root : ℕ) (added : List Loaded) (ranges : List Range) (name : Option (List ℕ))
    → OpensName w s hart ask name id root added ranges → AreOnce ranges
opens_once w s hart ask id root added ranges (Some name) loads = given_once (free_pages s.ranges) _ ranges loads.placed.left loads.placed.given
opens_once w s hart ask id root added ranges None program = subst AreOnce (sym program.no_pages) tt

reserved_once : (w : Setting) (past : List Event) (s : State) (e : Event) → AllowedIn w past s e → AreOnce (reserved s e)
reserved_once w past s (events.Open hart ask (opens.Done id root added ranges)) may = opens_once w s hart ask id root added ranges ask.name may.name
reserved_once w past s (events.Open hart ask opens.Absent) may = tt
reserved_once w past s (events.Open hart ask (opens.Refused fault)) may = tt
reserved_once w past s (events.Close hart handle answer) may = tt
reserved_once w past s (events.Unmapped hart set) may = tt
reserved_once w past s (events.Grant number hart owner slot choice value) may = tt
reserved_once w past s (events.Bound number) may = tt
reserved_once w past s (events.Lost number saw) may = tt
reserved_once w past s (events.Unresolved hart owner slot choice) may = tt
reserved_once w past s (events.Sym hart ask answer) may = tt
reserved_once w past s (events.Tls hart owner address) may = let free = block_free s hart owner address may in subst AreOnce (sym free.1) ((λ some there. none_in free.0 there), tt)
reserved_once w past s (events.Init hart object) may = tt
reserved_once w past s (events.Fini hart object) may = tt
reserved_once w past s (events.Wrote hart bytes) may = tt
reserved_once w past s (events.Told hart fault) may = tt
reserved_once w past s (events.Ended hart reason) may = tt

-- ---- no address is in two

abbrev pub AreApart : List Range → Type 0
AreApart [] = Unit {0}
AreApart (r ∷ rest) = ((q : Range) (a : ℕ) → Contains rest q → covers a r ≡ true → covers a q ≡ false) × AreApart rest

some_pages : (r : Range) (a : ℕ) → covers a r ≡ true → 0 < r.pages
some_pages r a on = let at = within_of a r on in let from : r.address ≤ a = at.0 in let to : a < r.address + 4096 * r.pages = at.1 in omega (arith, from, to)

apart : (ranges : List Range) → AreOnce ranges → ((a : ℕ) (r q : Range) → Contains ranges r → Contains ranges q → covers a r ≡ true → covers a q ≡ true → r ≡ q) → AreApart ranges
apart [] once one = tt
apart (r ∷ rest) once one = (
  λ q a there in_r. ⊎_elim
      (λ (in_q : covers a q ≡ true). absurd (once.0 (some_pages r a in_r) (subst (Contains rest) (sym (one a r q (here r rest) (later r rest q there) in_r in_q)) there)))
      (λ (out : covers a q ≡ false). out)
      (cases_Bool (covers a q)),
  apart rest once.1 (λ a q p first second. one a q p (later r rest q first) (later r rest p second)),
)

pub reserved_apart : (w : Setting) (past : List Event) (s : State) (e : Event) → AllowedIn w past s e → Apart (step s e).ranges → AreApart (reserved s e)
reserved_apart w past s e may are =
    apart (reserved s e) (reserved_once w past s e may) (λ a r q first second. one_cover (step s e).ranges are a r q (reserved_there s e r first) (reserved_there s e q second))

pub apart_filter : (p : Range → Bool) (ranges : List Range) → AreApart ranges → AreApart (filter p ranges)
apart_filter p [] are = tt
apart_filter p (r ∷ rest) are = by (p r) (apart_filter p rest are.1)
  where
    by : (t : Bool) → AreApart (filter p rest) → AreApart (cond t (r ∷ filter p rest) (filter p rest))
    by true behind = (λ q a there. are.0 q a (from_filter p rest q there).0, behind)
    by false behind = behind

-- an address is in a range of one index
pub one_index : (ranges : List Range) → AreApart ranges → (i p a : ℕ) (r q : Range) → slice_get ranges i ≡ Some r → slice_get ranges p ≡ Some q → covers a r ≡ true → covers a q ≡ true → i ≡ p
one_index [] are i p a r q at_r at_q in_r in_q = absurd (let no_r : None ≡ Some r = at_r in cc)
one_index (x ∷ rest) are zero zero a r q at_r at_q in_r in_q = refl
one_index (x ∷ rest) are zero (suc p) a r q at_r at_q in_r in_q =
    let same : x ≡ r = cc in
    absurd (true≢false (sym in_q ∙ are.0 q a (at_in rest p q at_q) (subst (λ (y : Range). covers a y ≡ true) (sym same) in_r)))
one_index (x ∷ rest) are (suc i) zero a r q at_r at_q in_r in_q =
    let same : x ≡ q = cc in
    absurd (true≢false (sym in_r ∙ are.0 r a (at_in rest i r at_r) (subst (λ (y : Range). covers a y ≡ true) (sym same) in_q)))
one_index (x ∷ rest) are (suc i) (suc p) a r q at_r at_q in_r in_q = ap suc (one_index rest are.1 i p a r q at_r at_q in_r in_q)

-- ---- the images of new objects

-- an image is that of an object
pub record IsOfObject (i : Linked) (o : Loaded) : Type 0 where
  pub serial : i.serial ≡ o.serial
  pub object : i.object ≡ o.object
  pub base : i.base ≡ o.base

-- an image was there before the event, or is that of an object that came with it
pub image_came : (s : State) (e : Event) (i : Linked) → Contains (step s e).images i → Contains s.images i ⊎ ((o : Loaded) × Contains (loaded_objects e) o × IsOfObject i o)
unfolding loaded unmap die lower initialise
image_came s (events.Open hart ask (opens.Done id root added ranges)) i there = ⊎_elim
    (λ (old : Contains s.images i). inl old)
    (λ (new : Contains (linked_with s.images (map (uncopied (loaded s hart ask id root added ranges) (seen_after s ask id root added) (binds s ask)) added)) i).
    let x = made_of s hart ask id root added ranges i new in
    inr (x.0, x.1, record { serial = ap (λ (q : Linked). q.serial) (sym x.2); object = ap (λ (q : Linked). q.object) (sym x.2); base = ap (λ (q : Linked). q.base) (sym x.2) }))
    (Contains-append_cases s.images (linked_with s.images (map (uncopied (loaded s hart ask id root added ranges) (seen_after s ask id root added) (binds s ask)) added)) i there)
image_came s (events.Open hart ask opens.Absent) i there = inl there
image_came s (events.Open hart ask (opens.Refused fault)) i there = inl there
image_came s (events.Close hart handle (closes.Done set)) i there = inl there
image_came s (events.Close hart handle (closes.Refused fault)) i there = inl there
image_came s (events.Unmapped hart set) i there = inl (from_filter (λ (q : Linked). not (has set q.serial)) s.images i there).0
image_came s (events.Grant number hart owner slot choice value) i there = inl there
image_came s (events.Bound number) i there = inl there
image_came s (events.Lost number saw) i there = inl there
image_came s (events.Unresolved hart owner slot choice) i there = inl there
image_came s (events.Sym hart ask (syms.Found serial index value)) i there = inl there
image_came s (events.Sym hart ask (syms.Refused fault)) i there = inl there
image_came s (events.Tls hart owner address) i there = inl there
image_came s (events.Init hart object) i there = inl there
image_came s (events.Fini hart object) i there = inl there
image_came s (events.Wrote hart bytes) i there = inl there
image_came s (events.Told hart fault) i there = inl there
image_came s (events.Ended hart reason) i there = inl there

-- each object that came has its image
new_image : (s : State) (hart : ℕ) (ask : OpenAsk) (id root : ℕ) (added : List Loaded) (ranges : List Range) (o : Loaded) → Contains added o
    → (i : Linked) × Contains (linked_with s.images (map (uncopied (loaded s hart ask id root added ranges) (seen_after s ask id root added) (binds s ask)) added)) i × IsOfObject i o
unfolding linked_with
new_image s hart ask id root added ranges o there =
    let made = uncopied (loaded s hart ask id root added ranges) (seen_after s ask id root added) (binds s ask) in (
      with_copies (s.images ++ map made added) (made o),
      in_map (with_copies (s.images ++ map made added)) (map made added) (made o) (in_map made added o there),
      record { serial = refl; object = refl; base = refl },
    )

pub object_has : (s : State) (e : Event) (o : Loaded) → Contains (loaded_objects e) o → (i : Linked) × Contains (step s e).images i × IsOfObject i o
unfolding loaded
object_has s (events.Open hart ask (opens.Done id root added ranges)) o there =
    let x = new_image s hart ask id root added ranges o there in
    (x.0, Contains-append_right s.images (linked_with s.images (map (uncopied (loaded s hart ask id root added ranges) (seen_after s ask id root added) (binds s ask)) added)) x.0 x.1, x.2)
object_has s (events.Open hart ask opens.Absent) o there = absurd (none_in o there)
object_has s (events.Open hart ask (opens.Refused fault)) o there = absurd (none_in o there)
object_has s (events.Close hart handle answer) o there = absurd (none_in o there)
object_has s (events.Unmapped hart set) o there = absurd (none_in o there)
object_has s (events.Grant number hart owner slot choice value) o there = absurd (none_in o there)
object_has s (events.Bound number) o there = absurd (none_in o there)
object_has s (events.Lost number saw) o there = absurd (none_in o there)
object_has s (events.Unresolved hart owner slot choice) o there = absurd (none_in o there)
object_has s (events.Sym hart ask answer) o there = absurd (none_in o there)
object_has s (events.Tls hart owner address) o there = absurd (none_in o there)
object_has s (events.Init hart object) o there = absurd (none_in o there)
object_has s (events.Fini hart object) o there = absurd (none_in o there)
object_has s (events.Wrote hart bytes) o there = absurd (none_in o there)
object_has s (events.Told hart fault) o there = absurd (none_in o there)
object_has s (events.Ended hart reason) o there = absurd (none_in o there)
