-- How many modules there are, how often they changed, and how long the static blocks are.
use Rattle.std.proofs.Common.{◌≡◌, ⊎_elim, ℕ, zero, suc, ◌+◌, ◌-◌, ◌*◌, ◌<◌, ◌≤◌, Bool, true, false, not, List, [], ◌∷◌, ◌++◌, map, length, Option, Some, None, refl, sym, ap, subst, ◌∙◌, arith}
use Rattle.std.specs.Prelude.{if◌then◌else◌, nat_lt}
use Rattle.std.specs.Option.{is_some, option_map_or}
use Rattle.std.specs.List.{Contains, filter, list_any, range_with_len}
use Rattle.std.proofs.lemmas.Bool.{le-ltb, ltb-true, or_parts}
use Rattle.std.proofs.lemmas.List.Elements.{Contains-append_right}
use Rattle.std.proofs.lemmas.List.Filters.{length-filter_both}
use Rattle.address_space.specs.Pages.{AllFree, guest_pages, is_within, without}
use Rattle.ld_base.specs.declared.linking.Loaded.{Loaded}
use Rattle.ld_base.specs.declared.linking.TlsPlace.{TlsPlace}
use Rattle.ld_base.specs.declared.object.TlsSeg.{TlsSeg}
use Rattle.history_event.specs.declared.event.CloseAnswer.TheVariants as closes
use Rattle.history_event.specs.declared.event.Event.{Event}
use Rattle.history_event.specs.declared.event.Event.TheVariants as events
use Rattle.history_event.specs.declared.event.OpenAnswer.TheVariants as opens
use Rattle.history_event.specs.declared.event.OpenAsk.{OpenAsk}
use Rattle.history_event.specs.declared.event.Range.{Range}
use Rattle.history_event.specs.declared.event.SymAnswer.TheVariants as syms
use Rattle.history_event.specs.declared.state.Module.{Module}
use Rattle.tls_blocks.specs.Numbers.{with_module}
use Rattle.history_state.specs.State.{State, Statics}
use Rattle.history_state.specs.After.{after}
use Rattle.history_state.specs.Allowed.{AllowedIn}
use Rattle.history_state.specs.Areas.{Area, AreGiven, areas, free_pages, has_storage, object_area, stack_area, static_area}
use Rattle.history_state.specs.Laws.{ModulesAreFew}
use Rattle.history_state.specs.Legal.{Lawful}
use Rattle.history_state.specs.Objects.{has, is_startup}
use Rattle.history_state.specs.Opening.{Loads as LoadsName, Opens, OpensName, wanted}
use Rattle.history_state.specs.Setting.{Machine, Setting}
use Rattle.history_state.specs.Step.{die, has_module, initialise, loaded, lower, step, unmap}
use Rattle.history_state.specs.Storage.{module_of_place, pages_for, statics_with, statics_with_one, with_modules, with_place}
use Rattle.history_state.specs.Lemmas.History.{by_lawful}
use Rattle.history_state.specs.Lemmas.Lists.{first_or_later, from_filter, here, in_map, later, none_in}
use Rattle.history_state.specs.Lemmas.Brought.{LoadLaws}
use Rattle.history_state.specs.Lemmas.Pages.{page_number, range_has}
use Rattle.history_state.specs.Lemmas.Ranges.{given_free}
use Rattle.history_state.specs.Lemmas.Steps.{good_after}

-- ---- modules

length_more : {X : Type 0} (xs : List X) (y : X) (ys : List X) → length (xs ++ y ∷ ys) ≡ length xs + length ys + 1
length_more [] y ys = omega arith
length_more (x ∷ xs) y ys = let rest = length_more xs y ys in omega (arith, rest)

-- no element passes two tests that exclude each other
two_filters : {X : Type 0} (p q : X → Bool) → ((x : X) → p x ≡ true → q x ≡ false) → (xs : List X) → length (filter p xs) + length (filter q xs) ≤ length xs
two_filters p q apart [] = omega arith
two_filters {X} p q apart (x ∷ xs) = by (p x) (q x) (apart x) (two_filters p q apart xs)
  where
    by : (a b : Bool) → (a ≡ true → b ≡ false) → length (filter p xs) + length (filter q xs) ≤ length xs
        → length (if a then x ∷ filter p xs else filter p xs) + length (if b then x ∷ filter q xs else filter q xs) ≤ length (x ∷ xs)
    by true true other rest = absurd (let d : true ≡ false = other refl in cc)
    by true false other rest = omega (arith, rest)
    by false true other rest = omega (arith, rest)
    by false false other rest = omega (arith, rest)

with_most : (m : Module) (modules : List Module) → length (with_module m modules) ≤ length modules + 1
with_most m modules =
    let long = length_more (filter (λ x. nat_lt x.number m.number) modules) m (filter (λ x. nat_lt m.number x.number) modules) in
    let parts = two_filters (λ (x : Module). nat_lt x.number m.number) (λ x. nat_lt m.number x.number) (λ x less. not_both x.number m.number less) modules in
    omega (arith, long, parts)
  where
    not_both : (a b : ℕ) → nat_lt a b ≡ true → nat_lt b a ≡ false
    not_both a b less = let below : a < b = ltb-true a b less in le-ltb b a (omega (arith, below))

place_most : (o : Loaded) (modules : List Module) → length (with_place o modules) + length (filter has_module []) ≤ length modules + length (filter has_module (o ∷ []))
place_most o modules = by o.«module»
  where
    by : (place : Option TlsPlace) → length (option_map_or (λ p. with_module (module_of_place o.serial p) modules) place modules) + 0 ≤ length modules + length (if is_some place then o ∷ [] else [])
    by None = omega arith
    by (Some p) = let most = with_most (module_of_place o.serial p) modules in omega (arith, most)

modules_most : (added : List Loaded) (modules : List Module) → length (with_modules added modules) ≤ length modules + length (filter has_module added)
modules_most [] modules = omega arith
modules_most (o ∷ rest) modules = by (has_module o) (place_most o modules) (modules_most rest (with_place o modules))
  where
    by : (t : Bool) → length (with_place o modules) + 0 ≤ length modules + length (if t then o ∷ [] else []) → length (with_modules rest (with_place o modules)) ≤ length (with_place o modules) + length (filter has_module rest)
        → length (with_modules rest (with_place o modules)) ≤ length modules + length (if t then o ∷ filter has_module rest else filter has_module rest)
    by true one more = omega (arith, one, more)
    by false one more = omega (arith, one, more)

filter_most : {X : Type 0} (p : X → Bool) (xs : List X) → length (filter p xs) ≤ length xs
filter_most p [] = omega arith
filter_most {X} p (x ∷ xs) = by (p x) (filter_most p xs)
  where
    by : (t : Bool) → length (filter p xs) ≤ length xs → length (if t then x ∷ filter p xs else filter p xs) ≤ length (x ∷ xs)
    by true rest = omega (arith, rest)
    by false rest = omega (arith, rest)

abbrev FewChanges : State → Type 0
FewChanges s = s.generation + length s.modules ≤ 2 * (s.next - 1)

changes_open : (s : State) → 1 ≤ s.next → (hart : ℕ) (ask : OpenAsk) (id root : ℕ) (added : List Loaded) (ranges : List Range) → FewChanges s
    → FewChanges (step s (events.Open hart ask (opens.Done id root added ranges)))
unfolding loaded
changes_open s first hart ask id root added ranges few =
    let most = modules_most added s.modules in
    let new = filter_most has_module added in
    omega (arith, first, few, most, new)

changes_unmap : (s : State) (hart : ℕ) (set : List ℕ) → FewChanges s → FewChanges (unmap hart set s)
unfolding unmap
changes_unmap s hart set few =
    let both = length-filter_both (λ (m : Module). has set m.serial) (λ m. not (has set m.serial)) (λ m. refl) s.modules in
    omega (arith, few, both)

-- ---- static blocks

-- what is given for an area that was wanted has its pages
given_of : (free : List ℕ) (wanted : List Area) (ranges : List Range) (left : List ℕ) → AreGiven free wanted ranges left → (a : Area) → Contains wanted a → (r : Range) × Contains ranges r × (r.pages ≡ a.pages)
given_of free [] ranges left g a h = absurd (none_in a h)
given_of free (b ∷ wanted) [] left g a h = absurd g
given_of free (b ∷ wanted) (q ∷ qs) left g a h = ⊎_elim
    (λ (e : b ≡ a). (q, here q qs, g.0.pages ∙ ap (λ (x : Area). x.pages) e))
    (λ (i : Contains wanted a). let rest = given_of (without free q.address q.pages) wanted qs left g.1 a i in (rest.0, later q qs rest.0 rest.1, rest.2))
    (first_or_later b wanted a h)

-- no more pages are free than guest memory has
few_pages : (ranges : List Range) (address pages : ℕ) → AllFree (free_pages ranges) address pages → pages ≤ 2047
unfolding free_pages
few_pages ranges address zero all = omega arith
few_pages ranges address (suc n) all =
    let first = page_number (address + 4096 * 0) (guest (address + 4096 * 0) (all 0 (omega arith))) in
    let last = page_number (address + 4096 * n) (guest (address + 4096 * n) (all n (omega arith))) in
    let one : address + 4096 * 0 ≡ 0x10000 + 4096 * first.0 = first.2 in
    let two : address + 4096 * n ≡ 0x10000 + 4096 * last.0 = last.2 in
    let below : last.0 < 2047 = last.1 in
    omega (arith, one, two, below)
  where
    guest : (page : ℕ) → Contains (free_pages ranges) page → Contains guest_pages page
    guest page h = (from_filter (λ p. not (list_any (λ (r : Range). is_within r.address r.pages p) ranges)) guest_pages page h).0

-- where no object has storage, none is added to the blocks
no_storage : (added : List Loaded) (st : Statics) → has_storage added ≡ false → statics_with added st ≡ st
no_storage [] st none = refl
no_storage (o ∷ rest) st none =
    let parts = or_parts (is_some o.object.tls) (list_any (λ q. is_some q.object.tls) rest) none in
    ap (statics_with rest) (one o.object.tls parts.0) ∙ no_storage rest st parts.1
  where
    one : (seg : Option TlsSeg) → is_some seg ≡ false → statics_with_one st o.serial seg o.«module» ≡ st
    one None e = refl
    one (Some seg) e = absurd cc

-- where one has, the first hart has an area for them
first_area : (st : Statics) (added : List Loaded) (harts : ℕ) → 1 ≤ harts → has_storage added ≡ true → Contains (areas true st harts added) (static_area st added 0)
first_area st added harts some storage =
    Contains-append_right (map object_area added) _ _
    (Contains-append_right (map stack_area (range_with_len 0 harts)) _ _
    (subst (λ (t : Bool). Contains (if t then map (static_area st added) (range_with_len 0 harts) else []) (static_area st added 0)) (sym storage)
    (in_map (static_area st added) (range_with_len 0 harts) 0 (range_has 0 harts 0 (omega arith) (omega (arith, some))))))

within : (bytes : ℕ) → pages_for bytes ≤ 2047 → bytes ≤ 4096 * 2047
within bytes few = omega (arith, few)

abbrev ShortStatics : Statics → Type 0
ShortStatics st = st.tp + st.size ≤ 4096 * 2047

statics_load : (w : Setting) → 1 ≤ w.machine.harts → (s : State) (hart : ℕ) (ask : OpenAsk) (name : List ℕ) (id root : ℕ) (added : List Loaded) (ranges : List Range) → is_startup s ≡ true
    → LoadsName w s hart ask name id root added ranges → has_storage added ≡ true → ShortStatics (statics_with added s.statics)
statics_load w some s hart ask name id root added ranges startup loads storage =
    let area = first_area (statics_with added s.statics) added w.machine.harts some storage in
    let wanted_there : Contains (wanted w s added) (static_area (statics_with added s.statics) added 0) =
    subst (λ (t : Bool). Contains (areas t (statics_with added s.statics) w.machine.harts added) (static_area (statics_with added s.statics) added 0)) (sym startup) area in
    let given = given_of (free_pages s.ranges) (wanted w s added) ranges loads.placed.left loads.placed.given _ wanted_there in
    let few = few_pages s.ranges given.0.address given.0.pages (given_free (free_pages s.ranges) (wanted w s added) ranges loads.placed.left loads.placed.given given.0 given.1) in
    within ((statics_with added s.statics).tp + (statics_with added s.statics).size) (subst (λ (n : ℕ). n ≤ 2047) given.2 few)

statics_name : (w : Setting) → 1 ≤ w.machine.harts → (s : State) (hart : ℕ) (ask : OpenAsk) (id root : ℕ) (added : List Loaded) (ranges : List Range) (name : Option (List ℕ)) → is_startup s ≡ true
    → OpensName w s hart ask name id root added ranges → has_storage added ≡ true → ShortStatics (statics_with added s.statics)
statics_name w some s hart ask id root added ranges (Some name) startup loads storage = statics_load w some s hart ask name id root added ranges startup loads storage
statics_name w some s hart ask id root added ranges None startup program storage = absurd (let d : false ≡ true = sym (ap has_storage program.none) ∙ storage in cc)

statics_open : (w : Setting) → 1 ≤ w.machine.harts → (s : State) (hart : ℕ) (ask : OpenAsk) (id root : ℕ) (added : List Loaded) (ranges : List Range) → Opens w s hart ask id root added ranges
    → ShortStatics s.statics → ShortStatics (step s (events.Open hart ask (opens.Done id root added ranges))).statics
unfolding loaded
statics_open w some s hart ask id root added ranges may short = by (is_startup s) refl
  where
    stored : is_startup s ≡ true → (t : Bool) → has_storage added ≡ t → ShortStatics (statics_with added s.statics)
    stored startup true storage = statics_name w some s hart ask id root added ranges ask.name startup may.name storage
    stored startup false storage = subst ShortStatics (sym (no_storage added s.statics storage)) short

    by : (t : Bool) → is_startup s ≡ t → ShortStatics (if t then statics_with added s.statics else s.statics)
    by true startup = stored startup (has_storage added) refl
    by false later = short

-- ---- each event

few_step : LoadLaws → (m : Machine) (w : Setting) → w.machine ≡ m → (past : List Event) (e : Event) → Lawful m past → AllowedIn w past (after past) e → ModulesAreFew m (after past) → ModulesAreFew m (step (after past) e)
unfolding die lower initialise unmap
few_step laws m w same past (events.Open hart ask (opens.Done id root added ranges)) lawful may few = record {
  changes = changes_open (after past) (good_after laws m past lawful).positive hart ask id root added ranges few.changes;
  statics = λ some. statics_open w (subst (λ (n : Machine). 1 ≤ n.harts) (sym same) some) (after past) hart ask id root added ranges may (few.statics some);
}
few_step laws m w same past (events.Open hart ask opens.Absent) lawful may few = few
few_step laws m w same past (events.Open hart ask (opens.Refused fault)) lawful may few = record { changes = few.changes; statics = few.statics }
few_step laws m w same past (events.Close hart handle (closes.Done set)) lawful may few = record { changes = few.changes; statics = few.statics }
few_step laws m w same past (events.Close hart handle (closes.Refused fault)) lawful may few = record { changes = few.changes; statics = few.statics }
few_step laws m w same past (events.Unmapped hart set) lawful may few = record { changes = changes_unmap (after past) hart set few.changes; statics = few.statics }
few_step laws m w same past (events.Grant number hart owner slot choice value) lawful may few = record { changes = few.changes; statics = few.statics }
few_step laws m w same past (events.Bound number) lawful may few = record { changes = few.changes; statics = few.statics }
few_step laws m w same past (events.Lost number saw) lawful may few = record { changes = few.changes; statics = few.statics }
few_step laws m w same past (events.Unresolved hart owner slot choice) lawful may few = few
few_step laws m w same past (events.Sym hart ask (syms.Found serial index value)) lawful may few = few
few_step laws m w same past (events.Sym hart ask (syms.Refused fault)) lawful may few = record { changes = few.changes; statics = few.statics }
few_step laws m w same past (events.Tls hart owner address) lawful may few = record { changes = few.changes; statics = few.statics }
few_step laws m w same past (events.Init hart object) lawful may few = record { changes = few.changes; statics = few.statics }
few_step laws m w same past (events.Fini hart object) lawful may few = record { changes = few.changes; statics = few.statics }
few_step laws m w same past (events.Wrote hart bytes) lawful may few = few
few_step laws m w same past (events.Told hart fault) lawful may few = record { changes = few.changes; statics = few.statics }
few_step laws m w same past (events.Ended hart reason) lawful may few = record { changes = few.changes; statics = few.statics }

pub modules_few : LoadLaws → (m : Machine) (journal : List Event) → Lawful m journal → ModulesAreFew m (after journal)
modules_few laws m journal lawful = by_lawful m (ModulesAreFew m) (record { changes = omega arith; statics = λ some. omega arith })
    (λ w past e same past_lawful few may. few_step laws m w same past e past_lawful may few) journal lawful
