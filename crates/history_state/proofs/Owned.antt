-- Each range is an object's, a hart's stack or static area, or a block's: of an image or a block that is there.
use Rattle.std.proofs.Common.{◌≡◌, ⊎_elim, ℕ, Bool, true, false, not, List, [], ◌∷◌, ◌++◌, map, Option, Some, None, refl, sym, ap, subst, ◌∙◌}
use Rattle.std.specs.Prelude.{if◌then◌else◌}
use Rattle.std.specs.List.{Contains, filter, range_with_len}
use Rattle.std.proofs.lemmas.List.Elements.{Contains-append_cases, Contains-append_left, Contains-append_right, Contains-push}
use Rattle.address_space.specs.Pages.{without}
use Rattle.ld_base.specs.declared.linking.Loaded.{Loaded}
use Rattle.history_event.specs.declared.event.CloseAnswer.TheVariants as closes
use Rattle.history_event.specs.declared.event.Event.{Event}
use Rattle.history_event.specs.declared.event.Event.TheVariants as events
use Rattle.history_event.specs.declared.event.OpenAnswer.TheVariants as opens
use Rattle.history_event.specs.declared.event.OpenAsk.{OpenAsk}
use Rattle.history_event.specs.declared.event.Purpose.{Purpose}
use Rattle.history_event.specs.declared.event.Purpose.TheVariants as purposes
use Rattle.history_event.specs.declared.event.Range.{Range}
use Rattle.history_event.specs.declared.event.SymAnswer.TheVariants as syms
use Rattle.history_event.specs.declared.state.Block.{Block}
use Rattle.history_state.specs.State.{Linked, State, Statics}
use Rattle.history_state.specs.After.{after}
use Rattle.history_state.specs.Allowed.{AllowedIn}
use Rattle.history_state.specs.Areas.{AreGiven, Area, areas, free_pages, has_storage, object_area, other_areas, stack_area, static_area, static_areas}
use Rattle.history_state.specs.Bound.{linked_with, uncopied}
use Rattle.history_state.specs.Laws.{RangesAreOwned}
use Rattle.history_state.specs.Legal.{Lawful}
use Rattle.history_state.specs.Lookup.{MayHaveBlock}
use Rattle.history_state.specs.Objects.{has, is_startup}
use Rattle.history_state.specs.Opening.{Opens, OpensName}
use Rattle.history_state.specs.Setting.{Machine, Setting}
use Rattle.history_state.specs.Step.{binds, block_ranges, die, goes_with, initialise, loaded, lower, seen_after, step, unmap}
use Rattle.history_state.specs.Storage.{statics_with}
use Rattle.history_state.specs.Lemmas.History.{by_lawful}
use Rattle.history_state.specs.Lemmas.Lists.{first_or_later, from_filter, from_map, here, in_filter, in_map, later, none_in, only_in}
use Rattle.history_state.specs.Lemmas.Ranges.{block_free}

-- what a purpose is of: an image of its serial, or a block of its hart and serial
abbrev IsOwned : List Linked → List Block → Purpose → Type 0
IsOwned images blocks (purposes.Object serial) = (i : Linked) × Contains images i × (i.serial ≡ serial)
IsOwned images blocks (purposes.Stack hart) = Unit {0}
IsOwned images blocks (purposes.StaticTls hart) = Unit {0}
IsOwned images blocks (purposes.Block hart serial) = (b : Block) × Contains blocks b × (b.hart ≡ hart) × (b.serial ≡ serial)

record Owned (s : State) : Type 0 where
  owned : (r : Range) → Contains s.ranges r → IsOwned s.images s.blocks r.purpose
  block : (b : Block) → Contains s.blocks b → (r : Range) × Contains s.ranges r × (r.purpose ≡ purposes.Block b.hart b.serial)

-- ---- an opening

-- a range that is given is for an area that was wanted
given_area : (free : List ℕ) (wanted : List Area) (ranges : List Range) (left : List ℕ) → AreGiven free wanted ranges left → (r : Range) → Contains ranges r → (a : Area) × Contains wanted a × (r.purpose ≡ a.purpose)
given_area free [] [] left g r h = absurd (none_in r h)
given_area free [] (q ∷ qs) left g r h = absurd g
given_area free (a ∷ wanted) [] left g r h = absurd g
given_area free (a ∷ wanted) (q ∷ qs) left g r h = ⊎_elim
    (λ (e : q ≡ r). (a, here a wanted, subst (λ (x : Range). x.purpose ≡ a.purpose) e g.0.purpose))
    (λ (i : Contains qs r). let rest = given_area (without free q.address q.pages) wanted qs left g.1 r i in (rest.0, later a wanted rest.0 rest.1, rest.2))
    (first_or_later q qs r h)

-- what is wanted for a new object, and beside the objects
abbrev News : List Loaded → Purpose → Type 0
News added (purposes.Object serial) = (a : Loaded) × Contains added a × (a.serial ≡ serial)
News added (purposes.Stack hart) = Unit {0}
News added (purposes.StaticTls hart) = Unit {0}
News added (purposes.Block hart serial) = ⊥

static_news : (added : List Loaded) (st : Statics) (harts : ℕ) (a : Area) → (t : Bool) → Contains (if t then map (static_area st added) (range_with_len 0 harts) else []) a → News added a.purpose
static_news added st harts a true h = let at = from_map (static_area st added) (range_with_len 0 harts) a h in subst (λ (x : Area). News added x.purpose) at.2 tt
static_news added st harts a false h = absurd (none_in a h)

other_news : (added : List Loaded) (startup : Bool) (st : Statics) (harts : ℕ) (a : Area) → Contains (other_areas startup st harts added) a → News added a.purpose
other_news added true st harts a h = ⊎_elim
    (λ (i : Contains (map stack_area (range_with_len 0 harts)) a). let at = from_map stack_area (range_with_len 0 harts) a i in subst (λ (x : Area). News added x.purpose) at.2 tt)
    (λ (i : Contains (static_areas st harts added) a). static_news added st harts a (has_storage added) i)
    (Contains-append_cases (map stack_area (range_with_len 0 harts)) (static_areas st harts added) a h)
other_news added false st harts a h = absurd (none_in a h)

area_news : (added : List Loaded) (startup : Bool) (st : Statics) (harts : ℕ) (a : Area) → Contains (areas startup st harts added) a → News added a.purpose
area_news added startup st harts a h = ⊎_elim
    (λ (i : Contains (map object_area added) a). let at = from_map object_area added a i in subst (λ (x : Area). News added x.purpose) at.2 (at.0, at.1, refl))
    (λ (i : Contains (other_areas startup st harts added) a). other_news added startup st harts a i)
    (Contains-append_cases (map object_area added) (other_areas startup st harts added) a h)

range_news : (w : Setting) (s : State) (hart : ℕ) (ask : OpenAsk) (id root : ℕ) (added : List Loaded) (ranges : List Range) (name : Option (List ℕ)) → OpensName w s hart ask name id root added ranges
    → (r : Range) → Contains ranges r → News added r.purpose
range_news w s hart ask id root added ranges (Some name) loads r h =
    let at = given_area (free_pages s.ranges) _ ranges loads.placed.left loads.placed.given r h in
    subst (News added) (sym at.2) (area_news added (is_startup s) (statics_with added s.statics) w.machine.harts at.0 at.1)
range_news w s hart ask id root added ranges None program r h = absurd (none_in r (subst (λ (rs : List Range). Contains rs r) program.no_pages h))

-- a new object has its image
new_owned : (s : State) (hart : ℕ) (ask : OpenAsk) (id root : ℕ) (added : List Loaded) (ranges : List Range) (p : Purpose) → News added p
    → IsOwned (s.images ++ linked_with s.images (map (uncopied (loaded s hart ask id root added ranges) (seen_after s ask id root added) (binds s ask)) added)) s.blocks p
unfolding linked_with
new_owned s hart ask id root added ranges (purposes.Object serial) news =
    let made = uncopied (loaded s hart ask id root added ranges) (seen_after s ask id root added) (binds s ask) in
    (_, Contains-append_right s.images _ _ (in_map _ (map made added) (made news.0) (in_map made added news.0 news.1)), news.2)
new_owned s hart ask id root added ranges (purposes.Stack h) news = tt
new_owned s hart ask id root added ranges (purposes.StaticTls h) news = tt
new_owned s hart ask id root added ranges (purposes.Block h serial) news = absurd news

same_owned : (images more : List Linked) (blocks : List Block) (p : Purpose) → IsOwned images blocks p → IsOwned (images ++ more) blocks p
same_owned images more blocks (purposes.Object serial) o = (o.0, Contains-append_left images more o.0 o.1, o.2)
same_owned images more blocks (purposes.Stack hart) o = tt
same_owned images more blocks (purposes.StaticTls hart) o = tt
same_owned images more blocks (purposes.Block hart serial) o = o

owned_open : (w : Setting) (s : State) (hart : ℕ) (ask : OpenAsk) (id root : ℕ) (added : List Loaded) (ranges : List Range) → Opens w s hart ask id root added ranges → Owned s
    → Owned (step s (events.Open hart ask (opens.Done id root added ranges)))
unfolding loaded
owned_open w s hart ask id root added ranges may owned = record {
  owned = λ r there. ⊎_elim
      (λ (old : Contains s.ranges r). same_owned s.images _ s.blocks r.purpose (owned.owned r old))
      (λ (new : Contains ranges r). new_owned s hart ask id root added ranges r.purpose (range_news w s hart ask id root added ranges ask.name may.name r new))
      (Contains-append_cases s.ranges ranges r there);
  block = λ b there. let at = owned.block b there in (at.0, Contains-append_left s.ranges ranges at.0 at.1, at.2);
}

-- ---- a block, and an unmapping

owned_block : (s : State) (hart serial address : ℕ) → MayHaveBlock s hart serial address → Owned s → Owned (step s (events.Tls hart serial address))
owned_block s hart serial address may owned =
    let free = block_free s hart serial address may in
    let new : Block = record { hart = hart; serial = serial; address = address } in
    let purpose : free.0.purpose ≡ purposes.Block hart serial = free.3 in
    record {
      owned = λ r there. ⊎_elim
          (λ (old : Contains s.ranges r). with_block s.images s.blocks new r.purpose (owned.owned r old))
          (λ (i : Contains (block_ranges s hart serial address) r).
          let is : free.0 ≡ r = only_in free.0 r (subst (λ (rs : List Range). Contains rs r) free.1 i) in
          subst (IsOwned s.images (s.blocks ++ new ∷ [])) (sym purpose ∙ ap (λ (x : Range). x.purpose) is) (new, Contains-push s.blocks new, refl, refl))
          (Contains-append_cases s.ranges (block_ranges s hart serial address) r there);
      block = λ b there. ⊎_elim
          (λ (old : Contains s.blocks b). let at = owned.block b old in (at.0, Contains-append_left s.ranges (block_ranges s hart serial address) at.0 at.1, at.2))
          (λ (e : Contains (new ∷ []) b).
          let is : new ≡ b = only_in new b e in (
            free.0,
            Contains-append_right s.ranges (block_ranges s hart serial address) free.0 (subst (λ (rs : List Range). Contains rs free.0) (sym free.1) (here free.0 [])),
            purpose ∙ ap (λ (x : Block). purposes.Block x.hart x.serial) is,
          ))
          (Contains-append_cases s.blocks (new ∷ []) b there);
    }
  where
    with_block : (images : List Linked) (blocks : List Block) (new : Block) (p : Purpose) → IsOwned images blocks p → IsOwned images (blocks ++ new ∷ []) p
    with_block images blocks new (purposes.Object d) o = o
    with_block images blocks new (purposes.Stack h) o = tt
    with_block images blocks new (purposes.StaticTls h) o = tt
    with_block images blocks new (purposes.Block h d) o = (o.0, Contains-append_left blocks (new ∷ []) o.0 o.1, o.2, o.3)

owned_unmap : (s : State) (hart : ℕ) (set : List ℕ) → Owned s → Owned (unmap hart set s)
unfolding unmap
owned_unmap s hart set owned = record {
  owned = λ r there.
      let kept = from_filter (λ (q : Range). not (goes_with set q)) s.ranges r there in
      stays r.purpose (owned.owned r kept.0) kept.1;
  block = λ b there.
      let kept = from_filter (λ (q : Block). not (has set q.serial)) s.blocks b there in
      let at = owned.block b kept.0 in
      (at.0, in_filter (λ (q : Range). not (goes_with set q)) s.ranges at.0 at.1 (ap (λ (p : Purpose). not (goes_by p)) at.2 ∙ kept.1), at.2);
}
  where
    goes_by : Purpose → Bool
    goes_by (purposes.Object serial) = has set serial
    goes_by (purposes.Stack h) = false
    goes_by (purposes.StaticTls h) = false
    goes_by (purposes.Block h serial) = has set serial

    stays : (p : Purpose) → IsOwned s.images s.blocks p → not (goes_by p) ≡ true → IsOwned (filter (λ m. not (has set m.serial)) s.images) (filter (λ b. not (has set b.serial)) s.blocks) p
    stays (purposes.Object serial) o kept = (o.0, in_filter (λ (m : Linked). not (has set m.serial)) s.images o.0 o.1 (ap (λ (n : ℕ). not (has set n)) o.2 ∙ kept), o.2)
    stays (purposes.Stack h) o kept = tt
    stays (purposes.StaticTls h) o kept = tt
    stays (purposes.Block h serial) o kept = (o.0, in_filter (λ (b : Block). not (has set b.serial)) s.blocks o.0 o.1 (ap (λ (n : ℕ). not (has set n)) o.3 ∙ kept), o.2, o.3)

owned_step : (w : Setting) (past : List Event) (s : State) (e : Event) → AllowedIn w past s e → Owned s → Owned (step s e)
unfolding die lower initialise
owned_step w past s (events.Open hart ask (opens.Done id root added ranges)) may owned = owned_open w s hart ask id root added ranges may owned
owned_step w past s (events.Open hart ask opens.Absent) may owned = owned
owned_step w past s (events.Open hart ask (opens.Refused fault)) may owned = record { owned = owned.owned; block = owned.block }
owned_step w past s (events.Close hart handle (closes.Done set)) may owned = record { owned = owned.owned; block = owned.block }
owned_step w past s (events.Close hart handle (closes.Refused fault)) may owned = record { owned = owned.owned; block = owned.block }
owned_step w past s (events.Unmapped hart set) may owned = owned_unmap s hart set owned
owned_step w past s (events.Grant number hart owner slot choice value) may owned = record { owned = owned.owned; block = owned.block }
owned_step w past s (events.Bound number) may owned = record { owned = owned.owned; block = owned.block }
owned_step w past s (events.Lost number saw) may owned = record { owned = owned.owned; block = owned.block }
owned_step w past s (events.Unresolved hart owner slot choice) may owned = owned
owned_step w past s (events.Sym hart ask (syms.Found serial index value)) may owned = owned
owned_step w past s (events.Sym hart ask (syms.Refused fault)) may owned = record { owned = owned.owned; block = owned.block }
owned_step w past s (events.Tls hart owner address) may owned = owned_block s hart owner address may owned
owned_step w past s (events.Init hart object) may owned = record { owned = owned.owned; block = owned.block }
owned_step w past s (events.Fini hart object) may owned = record { owned = owned.owned; block = owned.block }
owned_step w past s (events.Wrote hart bytes) may owned = owned
owned_step w past s (events.Told hart fault) may owned = record { owned = owned.owned; block = owned.block }
owned_step w past s (events.Ended hart reason) may owned = record { owned = owned.owned; block = owned.block }

pub ranges_owned : (m : Machine) (journal : List Event) → Lawful m journal → RangesAreOwned (after journal)
ranges_owned m journal lawful =
    let owned : Owned (after journal) = by_lawful m Owned (record { owned = λ r there. absurd (none_in r there); block = λ b there. absurd (none_in b there) })
    (λ w past e same past_lawful owned may. owned_step w past (after past) e may owned) journal lawful in
    record {
      object = λ r serial there is. subst (IsOwned (after journal).images (after journal).blocks) is (owned.owned r there);
      late = λ r hart serial there is. subst (IsOwned (after journal).images (after journal).blocks) is (owned.owned r there);
      block = owned.block;
    }
