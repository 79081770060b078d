-- Each image has its range: its object's pages, where its base says.
use Rattle.std.proofs.Common.{◌≡◌, ⊎_elim, ℕ, Bool, not, List, [], ◌∷◌, ◌++◌, map, length, Option, Some, None, ap, subst, ◌∙◌, arith}
use Rattle.std.specs.List.{Contains, filter}
use Rattle.std.proofs.lemmas.List.{take_all}
use Rattle.std.proofs.lemmas.List.Elements.{Contains-append_cases, Contains-append_left, Contains-append_right}
use Rattle.ld_base.specs.declared.linking.Loaded.{Loaded}
use Rattle.history_event.specs.declared.event.CloseAnswer.{CloseAnswer}
use Rattle.history_event.specs.declared.event.CloseAnswer.TheVariants as closes
use Rattle.history_event.specs.declared.event.Event.{Event}
use Rattle.history_event.specs.declared.event.Event.TheVariants as events
use Rattle.history_event.specs.declared.event.OpenAnswer.{OpenAnswer}
use Rattle.history_event.specs.declared.event.OpenAnswer.TheVariants as opens
use Rattle.history_event.specs.declared.event.OpenAsk.{OpenAsk}
use Rattle.history_event.specs.declared.event.Purpose.{Purpose}
use Rattle.history_event.specs.declared.event.Purpose.TheVariants as purposes
use Rattle.history_event.specs.declared.event.Range.{Range}
use Rattle.history_event.specs.declared.event.SymAnswer.{SymAnswer}
use Rattle.history_event.specs.declared.event.SymAnswer.TheVariants as syms
use Rattle.history_event.specs.declared.event.SymAsk.{SymAsk}
use Rattle.address_space.specs.Pages.{without}
use Rattle.scope_rule.specs.Seen.{Seen}
use Rattle.seg_image.specs.Pages.{low_of, own_address, pages_of}
use Rattle.history_state.specs.State.{Linked, State}
use Rattle.history_state.specs.After.{after}
use Rattle.history_state.specs.Allowed.{AllowedIn}
use Rattle.history_state.specs.Areas.{Area, AreBased, AreGiven, free_pages, object_area}
use Rattle.history_state.specs.Bound.{linked_with, uncopied, with_copies}
use Rattle.history_state.specs.Laws.{ImagesArePlaced, IsRangeOf}
use Rattle.history_state.specs.Legal.{Lawful}
use Rattle.history_state.specs.Objects.{has}
use Rattle.history_state.specs.Opening.{MayOpen, OpensName}
use Rattle.history_state.specs.Setting.{Machine, Setting}
use Rattle.history_state.specs.Step.{binds, die, goes_with, initialise, loaded, lower, purpose_goes, seen_after, step, unmap}
use Rattle.history_state.specs.Lemmas.History.{by_history}
use Rattle.history_state.specs.Lemmas.Lists.{first_or_later, from_filter, from_map, here, in_filter, later, none_in}

abbrev Ranged : List Linked → List Range → Type 0
Ranged images ranges = (m : Linked) → Contains images m → IsRangeOf ranges m

more_ranges : (ranges more : List Range) (m : Linked) → IsRangeOf ranges m → IsRangeOf (ranges ++ more) m
more_ranges ranges more m i = record { range = i.range; there = Contains-append_left ranges more i.range i.there; purpose = i.purpose; pages = i.pages; base = i.base }

-- ---- an opening

-- what is known of a new object's pages
pub record HasPages (ranges : List Range) (a : Loaded) : Type 0 where
  pub range : Range
  pub there : Contains ranges range
  pub purpose : range.purpose ≡ purposes.Object a.serial
  pub pages : range.pages ≡ pages_of a.object
  pub base : a.base ≡ own_address (low_of a.object) range.address

given_pages : (free : List ℕ) (added : List Loaded) (others : List Area) (ranges : List Range) (left : List ℕ) → AreGiven free (map object_area added ++ others) ranges left → AreBased added ranges
    → (a : Loaded) → Contains added a → HasPages ranges a
given_pages free [] others ranges left given based a h = absurd (none_in a h)
given_pages free (o ∷ added) others [] left given based a h = absurd given
given_pages free (o ∷ added) others (r ∷ ranges) left given based a h = ⊎_elim
    (λ (e : o ≡ a). subst (HasPages (r ∷ ranges)) e (record { range = r; there = here r ranges; purpose = given.0.purpose; pages = given.0.pages; base = based.0 }))
    (λ (i : Contains added a).
    let rest = given_pages (without free r.address r.pages) added others ranges left given.1 based.1 a i in
    record { range = rest.range; there = later r ranges rest.range rest.there; purpose = rest.purpose; pages = rest.pages; base = rest.base })
    (first_or_later o added a h)

pub opens_pages : (w : Setting) (s : State) (hart : ℕ) (ask : OpenAsk) (id root : ℕ) (added : List Loaded) (ranges : List Range) (name : Option (List ℕ))
    → OpensName w s hart ask name id root added ranges → (a : Loaded) → Contains added a → HasPages ranges a
opens_pages w s hart ask id root added ranges (Some name) loads a h = given_pages (free_pages s.ranges) added _ ranges loads.placed.left loads.placed.given loads.placed.based a h
opens_pages w s hart ask id root added ranges None program a h = absurd (none_in a (subst (λ (os : List Loaded). Contains os a) program.none h))

ranged_open : (s : State) (ns : Seen) (now : Bool) (added : List Loaded) (images : List Linked) (old ranges : List Range) → ((a : Loaded) → Contains added a → HasPages ranges a)
    → Ranged images old → Ranged (images ++ linked_with images (map (uncopied s ns now) added)) (old ++ ranges)
unfolding linked_with
ranged_open s ns now added images old ranges has_pages ranged m there = ⊎_elim
    (λ (h : Contains images m). more_ranges old ranges m (ranged m h))
    (λ (h : Contains (map (with_copies (images ++ map (uncopied s ns now) added)) (map (uncopied s ns now) added)) m).
    let at = from_map (with_copies (images ++ map (uncopied s ns now) added)) (map (uncopied s ns now) added) m h in
    let by = from_map (uncopied s ns now) added at.0 at.1 in
    let p = has_pages by.0 by.1 in
    let first : IsRangeOf (old ++ ranges) (uncopied s ns now by.0) =
    record { range = p.range; there = Contains-append_right old ranges p.range p.there; purpose = p.purpose; pages = p.pages; base = p.base } in
    let made : IsRangeOf (old ++ ranges) at.0 = subst (IsRangeOf (old ++ ranges)) by.2 first in
    subst (IsRangeOf (old ++ ranges)) at.2 (record { range = made.range; there = made.there; purpose = made.purpose; pages = made.pages; base = made.base }))
    (Contains-append_cases images (map (with_copies (images ++ map (uncopied s ns now) added)) (map (uncopied s ns now) added)) m there)

-- ---- an unmapping

ranged_unmap : (set : List ℕ) (images : List Linked) (ranges : List Range) → Ranged images ranges → Ranged (filter (λ m. not (has set m.serial)) images) (filter (λ r. not (goes_with set r)) ranges)
ranged_unmap set images ranges ranged m there =
    let kept = from_filter (λ (q : Linked). not (has set q.serial)) images m there in
    let i = ranged m kept.0 in
    record {
      range = i.range;
      there = in_filter (λ (r : Range). not (goes_with set r)) ranges i.range i.there (ap (λ (p : Purpose). not (purpose_goes set p)) i.purpose ∙ kept.1);
      purpose = i.purpose;
      pages = i.pages;
      base = i.base;
    }

-- ---- each event

abbrev RangedIn : State → Type 0
RangedIn s = Ranged s.images s.ranges

open_ranged : (w : Setting) (s : State) (hart : ℕ) (ask : OpenAsk) (answer : OpenAnswer) → MayOpen w s hart ask answer → RangedIn s → RangedIn (step s (events.Open hart ask answer))
unfolding loaded
open_ranged w s hart ask (opens.Done id root added ranges) may ranged =
    ranged_open (loaded s hart ask id root added ranges) (seen_after s ask id root added) (binds s ask) added s.images s.ranges ranges (opens_pages w s hart ask id root added ranges ask.name may.name) ranged
open_ranged w s hart ask opens.Absent may ranged = ranged
open_ranged w s hart ask (opens.Refused fault) may ranged = ranged

close_ranged : (s : State) (hart handle : ℕ) (answer : CloseAnswer) → RangedIn s → RangedIn (step s (events.Close hart handle answer))
unfolding die lower
close_ranged s hart handle (closes.Done set) ranged = ranged
close_ranged s hart handle (closes.Refused fault) ranged = ranged

sym_ranged : (s : State) (hart : ℕ) (ask : SymAsk) (answer : SymAnswer) → RangedIn s → RangedIn (step s (events.Sym hart ask answer))
sym_ranged s hart ask (syms.Found serial index value) ranged = ranged
sym_ranged s hart ask (syms.Refused fault) ranged = ranged

ranged_step : (w : Setting) (past : List Event) (s : State) (e : Event) → AllowedIn w past s e → RangedIn s → RangedIn (step s e)
unfolding unmap initialise
ranged_step w past s (events.Open hart ask answer) may ranged = open_ranged w s hart ask answer may ranged
ranged_step w past s (events.Close hart handle answer) may ranged = close_ranged s hart handle answer ranged
ranged_step w past s (events.Unmapped hart set) may ranged = ranged_unmap set s.images s.ranges ranged
ranged_step w past s (events.Grant number hart owner slot choice value) may ranged = ranged
ranged_step w past s (events.Bound number) may ranged = ranged
ranged_step w past s (events.Lost number saw) may ranged = ranged
ranged_step w past s (events.Unresolved hart owner slot choice) may ranged = ranged
ranged_step w past s (events.Sym hart ask answer) may ranged = sym_ranged s hart ask answer ranged
ranged_step w past s (events.Tls hart owner address) may ranged = λ m there. more_ranges s.ranges _ m (ranged m there)
ranged_step w past s (events.Init hart object) may ranged = ranged
ranged_step w past s (events.Fini hart object) may ranged = ranged
ranged_step w past s (events.Wrote hart bytes) may ranged = ranged
ranged_step w past s (events.Told hart fault) may ranged = ranged
ranged_step w past s (events.Ended hart reason) may ranged = ranged

pub images_placed : (m : Machine) (journal : List Event) → Lawful m journal → ImagesArePlaced (after journal)
images_placed m journal lawful =
    subst (λ (es : List Event). RangedIn (after es)) (take_all (length journal) journal (omega arith))
    (by_history m RangedIn (λ i there. absurd (none_in i there)) (λ w past e same ranged may. ranged_step w past (after past) e may ranged) journal lawful (length journal))
