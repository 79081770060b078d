-- Where stacks stand.
use Rattle.std.proofs.Common.{◌≡◌, ⊎_elim, ℕ, ◌%◌, ◌<◌, ◌≤◌, Bool, true, false, List, [], ◌∷◌, ◌++◌, map, Option, Some, None, refl, sym, ap, subst, ◌∙◌, arith}
use Rattle.std.specs.Prelude.{find, if◌then◌else◌}
use Rattle.std.specs.List.{Contains, range_with_len}
use Rattle.std.specs.Option.{option_map_or}
use Rattle.std.proofs.lemmas.Bool.{false≢true}
use Rattle.std.proofs.lemmas.List.Elements.{Contains-append_cases}
use Rattle.address_space.specs.Pages.{without}
use Rattle.ld_base.specs.declared.linking.Loaded.{Loaded}
use Rattle.history_event.specs.declared.event.CloseAnswer.TheVariants as closes
use Rattle.history_event.specs.declared.event.Event.{Event}
use Rattle.history_event.specs.declared.event.Event.TheVariants as events
use Rattle.history_event.specs.declared.event.OpenAnswer.TheVariants as opens
use Rattle.history_event.specs.declared.event.OpenAsk.{OpenAsk}
use Rattle.history_event.specs.declared.event.Range.{Range}
use Rattle.history_event.specs.declared.event.SymAnswer.TheVariants as syms
use Rattle.history_state.specs.State.{State, Statics}
use Rattle.history_state.specs.After.{after}
use Rattle.history_state.specs.Allowed.{AllowedIn}
use Rattle.history_state.specs.Areas.{Area, AreGiven, areas, free_pages, has_storage, object_area, stack_area, static_area, static_areas}
use Rattle.history_state.specs.Laws.{RangesAreApart}
use Rattle.history_state.specs.Legal.{Lawful}
use Rattle.history_state.specs.Lookup.{MayHaveBlock}
use Rattle.history_state.specs.Opening.{OpensName, wanted}
use Rattle.history_state.specs.Setting.{Machine, Setting}
use Rattle.history_state.specs.Step.{block_ranges, die, initialise, loaded, lower, step, unmap}
use Rattle.history_state.specs.Lemmas.History.{by_lawful}
use Rattle.history_state.specs.Lemmas.Lists.{first_or_later, found_in, from_filter, from_map, here, later, none_in, only_in}
use Rattle.history_state.specs.Lemmas.Ranges.{block_free}
use Rattle.history_calls.specs.Startup.{is_stack}
use Rattle.hart_moves.specs.Moves.{stack_start}

-- ---- stacks have pages

abbrev HavePages : List Range → Type 0
HavePages ranges = (r : Range) (hart : ℕ) → Contains ranges r → is_stack hart r.purpose ≡ true → 0 < r.pages

abbrev AreasHavePages : List Area → Type 0
AreasHavePages areas = (a : Area) (hart : ℕ) → Contains areas a → is_stack hart a.purpose ≡ true → 0 < a.pages

statics_have : (st : Statics) (harts : ℕ) (added : List Loaded) → AreasHavePages (static_areas st harts added)
statics_have st harts added a hart there is = by (has_storage added) there
  where
    by : (t : Bool) → Contains (if t then map (static_area st added) (range_with_len 0 harts) else []) a → 0 < a.pages
    by true j =
        let at = from_map (static_area st added) (range_with_len 0 harts) a j in
        absurd (false≢true (ap (λ (x : Area). is_stack hart x.purpose) at.2 ∙ is))
    by false j = absurd (none_in a j)

stacks_have : (harts : ℕ) → AreasHavePages (map stack_area (range_with_len 0 harts))
stacks_have harts a hart there is =
    let at = from_map stack_area (range_with_len 0 harts) a there in
    let pages : 16 ≡ a.pages = ap (λ (x : Area). x.pages) at.2 in
    omega (arith, pages)

objects_have : (added : List Loaded) → AreasHavePages (map object_area added)
objects_have added a hart there is = let at = from_map object_area added a there in absurd (false≢true (ap (λ (x : Area). is_stack hart x.purpose) at.2 ∙ is))

both_have : (xs ys : List Area) → AreasHavePages xs → AreasHavePages ys → AreasHavePages (xs ++ ys)
both_have xs ys one other a hart there is =
    ⊎_elim (λ (i : Contains xs a). one a hart i is) (λ (i : Contains ys a). other a hart i is) (Contains-append_cases xs ys a there)

areas_have : (startup : Bool) (st : Statics) (harts : ℕ) (added : List Loaded) → AreasHavePages (areas startup st harts added)
areas_have true st harts added =
    both_have (map object_area added) (map stack_area (range_with_len 0 harts) ++ static_areas st harts added) (objects_have added)
    (both_have (map stack_area (range_with_len 0 harts)) (static_areas st harts added) (stacks_have harts) (statics_have st harts added))
areas_have false st harts added = both_have (map object_area added) [] (objects_have added) (λ a hart there. absurd (none_in a there))

given_have : (free : List ℕ) (areas : List Area) (ranges : List Range) (left : List ℕ) → AreGiven free areas ranges left → AreasHavePages areas → HavePages ranges
given_have free [] [] left g have r hart there is = absurd (none_in r there)
given_have free [] (q ∷ qs) left g have r hart there is = absurd g
given_have free (a ∷ more) [] left g have r hart there is = absurd g
given_have free (a ∷ more) (q ∷ qs) left g have r hart there is = ⊎_elim
    (λ (e : q ≡ r).
    let at_q : is_stack hart q.purpose ≡ true = subst (λ (x : Range). is_stack hart x.purpose ≡ true) (sym e) is in
    let at_a : is_stack hart a.purpose ≡ true = ap (is_stack hart) (sym g.0.purpose) ∙ at_q in
    subst (λ (x : Range). 0 < x.pages) e (subst (λ (n : ℕ). 0 < n) (sym g.0.pages) (have a hart (here a more) at_a)))
    (λ (i : Contains qs r). given_have (without free q.address q.pages) more qs left g.1 (λ x h there. have x h (later a more x there)) r hart i is)
    (first_or_later q qs r there)

opened_have : (w : Setting) (s : State) (hart : ℕ) (ask : OpenAsk) (id root : ℕ) (added : List Loaded) (ranges : List Range) (name : Option (List ℕ))
    → OpensName w s hart ask name id root added ranges → HavePages ranges
opened_have w s hart ask id root added ranges (Some name) loads =
    given_have (free_pages s.ranges) (wanted w s added) ranges loads.placed.left loads.placed.given (areas_have _ _ _ added)
opened_have w s hart ask id root added ranges None program = λ r h there. absurd (none_in r (subst (λ (rs : List Range). Contains rs r) program.no_pages there))

more_have : (xs ys : List Range) → HavePages xs → HavePages ys → HavePages (xs ++ ys)
more_have xs ys one other r hart there is =
    ⊎_elim (λ (i : Contains xs r). one r hart i is) (λ (i : Contains ys r). other r hart i is) (Contains-append_cases xs ys r there)

block_has : (s : State) (hart serial a : ℕ) → MayHaveBlock s hart serial a → HavePages (block_ranges s hart serial a)
block_has s hart serial a may r h there is =
    let free = block_free s hart serial a may in
    let same : free.0 ≡ r = only_in free.0 r (subst (λ (rs : List Range). Contains rs r) free.1 there) in
    absurd (false≢true (ap (is_stack h) (sym free.3) ∙ ap (λ (x : Range). is_stack h x.purpose) same ∙ is))

pages_step : (w : Setting) (past : List Event) (s : State) (e : Event) → AllowedIn w past s e → HavePages s.ranges → HavePages (step s e).ranges
unfolding loaded die lower unmap initialise
pages_step w past s (events.Open hart ask (opens.Done id root added ranges)) may have =
    more_have s.ranges ranges have (opened_have w s hart ask id root added ranges ask.name may.name)
pages_step w past s (events.Open hart ask opens.Absent) may have = have
pages_step w past s (events.Open hart ask (opens.Refused fault)) may have = have
pages_step w past s (events.Close hart handle (closes.Done set)) may have = have
pages_step w past s (events.Close hart handle (closes.Refused fault)) may have = have
pages_step w past s (events.Unmapped hart set) may have = λ r h there. have r h (from_filter _ s.ranges r there).0
pages_step w past s (events.Grant number hart owner slot choice value) may have = have
pages_step w past s (events.Bound number) may have = have
pages_step w past s (events.Lost number saw) may have = have
pages_step w past s (events.Unresolved hart owner slot choice) may have = have
pages_step w past s (events.Sym hart ask (syms.Found serial index value)) may have = have
pages_step w past s (events.Sym hart ask (syms.Refused fault)) may have = have
pages_step w past s (events.Tls hart owner address) may have = more_have s.ranges (block_ranges s hart owner address) have (block_has s hart owner address may)
pages_step w past s (events.Init hart object) may have = have
pages_step w past s (events.Fini hart object) may have = have
pages_step w past s (events.Wrote hart bytes) may have = have
pages_step w past s (events.Told hart fault) may have = have
pages_step w past s (events.Ended hart reason) may have = have

stacks_have_pages : (m : Machine) (journal : List Event) → Lawful m journal → HavePages (after journal).ranges
stacks_have_pages m journal lawful = by_lawful m (λ s. HavePages s.ranges) (λ r hart there. absurd (none_in r there))
    (λ w past e same before have may. pages_step w past (after past) e may have) journal lawful

-- ---- where a text stands

-- the text of dlerror stands in doublewords, below the linker's own page
pub record IsTextPlace (at : ℕ) : Type 0 where
  pub aligned : at % 8 ≡ 0
  pub low : at ≤ 0x80f000

in_doublewords : (a : ℕ) → a % 4096 ≡ 0 → a % 8 ≡ 0
in_doublewords a aligned = omega (arith, aligned)

pub texts_stand : (m : Machine) (journal : List Event) → Lawful m journal → RangesAreApart (after journal) → (hart : ℕ) → IsTextPlace (stack_start (after journal) hart)
texts_stand m journal lawful apart hart = by (find (λ r. is_stack hart r.purpose) (after journal).ranges) refl
  where
    by : (found : Option Range) → find (λ r. is_stack hart r.purpose) (after journal).ranges ≡ found → IsTextPlace (option_map_or (λ r. r.address) found 0)
    by None e = record { aligned = refl; low = omega arith }
    by (Some r) e =
        let found = found_in (λ (q : Range). is_stack hart q.purpose) (after journal).ranges r e in
        let pages : 0 < r.pages = stacks_have_pages m journal lawful r hart found.0 found.1 in
        let guest = apart.guest r found.0 pages in
        record { aligned = in_doublewords r.address guest.aligned; low = omega (arith, guest.high) }
