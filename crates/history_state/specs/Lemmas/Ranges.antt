-- Reserved ranges have no page in common, and lie in guest memory.
use Rattle.std.proofs.Common.{◌≡◌, ⊎_elim, ℕ, ◌+◌, ◌-◌, ◌*◌, ◌<◌, ◌≤◌, Bool, true, false, not, leb, ltb, List, [], ◌∷◌, ◌++◌, length, Option, Some, None, refl, sym, ap, subst, ◌∙◌, arith}
use Rattle.std.specs.List.{Contains, filter, list_any}
use Rattle.std.specs.Option.{option_and_then, option_map_or}
use Rattle.std.proofs.lemmas.Bool.{and_parts, leb-true, ltb-true, not-true, true≢false}
use Rattle.std.proofs.lemmas.List.{take_all}
use Rattle.std.proofs.lemmas.List.Elements.{Contains-push_cases}
use Rattle.address_space.specs.Pages.{AllFree, guest_pages, is_within, without}
use Rattle.ld_base.specs.declared.linking.Loaded.{Loaded}
use Rattle.ld_base.specs.declared.object.TlsSeg.{TlsSeg}
use Rattle.history_event.specs.declared.event.CloseAnswer.{CloseAnswer}
use Rattle.history_event.specs.declared.event.CloseAnswer.TheVariants as closes
use Rattle.history_event.specs.declared.event.Event.{Event}
use Rattle.history_event.specs.declared.event.Event.TheVariants as events
use Rattle.history_event.specs.declared.event.OpenAnswer.{OpenAnswer}
use Rattle.history_event.specs.declared.event.OpenAnswer.TheVariants as opens
use Rattle.history_event.specs.declared.event.OpenAsk.{OpenAsk}
use Rattle.history_event.specs.declared.event.Purpose.TheVariants as purposes
use Rattle.history_event.specs.declared.event.Range.{Range}
use Rattle.history_event.specs.declared.event.SymAnswer.{SymAnswer}
use Rattle.history_event.specs.declared.event.SymAnswer.TheVariants as syms
use Rattle.history_event.specs.declared.event.SymAsk.{SymAsk}
use Rattle.history_state.specs.State.{State}
use Rattle.history_state.specs.After.{after}
use Rattle.history_state.specs.Allowed.{AllowedIn}
use Rattle.history_state.specs.Areas.{AreGiven, Area, StandsAt, Where, anywhere, free_pages, only}
use Rattle.history_state.specs.Legal.{Lawful}
use Rattle.history_state.specs.Lookup.{MayHaveBlock}
use Rattle.history_state.specs.Objects.{object_at}
use Rattle.history_state.specs.Opening.{MayOpen, OpensName}
use Rattle.history_state.specs.Setting.{Machine, Setting}
use Rattle.history_state.specs.Step.{add_block, block_range, block_ranges, die, goes_with, initialise, loaded, lower, step, unmap}
use Rattle.history_state.specs.Storage.{residue}
use Rattle.history_state.specs.Lemmas.History.{by_history}
use Rattle.history_state.specs.Lemmas.Lists.{first_or_later, from_filter, in_any_not, none_in}
use Rattle.history_state.specs.Lemmas.Pages.{page_number}

-- no two ranges have a page in common, and each lies in guest memory
pub record Apart (ranges : List Range) : Type 0 where
  pub one : (page : ℕ) (r q : Range) → Contains ranges r → Contains ranges q → Contains guest_pages page
      → is_within r.address r.pages page ≡ true → is_within q.address q.pages page ≡ true → r ≡ q
  pub inside : (r : Range) (k : ℕ) → Contains ranges r → k < r.pages → Contains guest_pages (r.address + 4096 * k)

-- these pages are of guest memory, and of none of the ranges
abbrev Clear : List ℕ → List Range → Type 0
Clear free ranges = (page : ℕ) → Contains free page → Contains guest_pages page × ((r : Range) → Contains ranges r → is_within r.address r.pages page ≡ false)

pub clear_free : (ranges : List Range) → Clear (free_pages ranges) ranges
unfolding free_pages
clear_free ranges page h =
    let kept = from_filter (λ p. not (list_any (λ (r : Range). is_within r.address r.pages p) ranges)) guest_pages page h in
    (kept.0, λ r there. in_any_not (λ (q : Range). is_within q.address q.pages page) ranges r (not-true _ kept.1) there)

-- a page of a range is one of those that were free
page_in : (free : List ℕ) (ranges : List Range) → Clear free ranges → (r : Range) → AllFree free r.address r.pages → (page : ℕ) → Contains guest_pages page
    → is_within r.address r.pages page ≡ true → Contains free page
page_in free ranges clear r all page guest within =
    let parts = and_parts (leb r.address page) (ltb page (r.address + 4096 * r.pages)) within in
    let low : r.address ≤ page = leb-true r.address page parts.0 in
    let high : page < r.address + 4096 * r.pages = ltb-true page (r.address + 4096 * r.pages) parts.1 in
    let some : 0 < r.pages = omega (arith, low, high) in
    let first = page_number (r.address + 4096 * 0) (clear (r.address + 4096 * 0) (all 0 some)).0 in
    let m : ℕ = first.0 in
    let at : r.address + 4096 * 0 ≡ 0x10000 + 4096 * m = first.2 in
    let number = page_number page guest in
    let n : ℕ = number.0 in
    let is : page ≡ 0x10000 + 4096 * n = number.2 in
    let within_k : n - m < r.pages = omega (arith, low, high, at, is) in
    let same : r.address + 4096 * (n - m) ≡ page = omega (arith, low, at, is) in
    subst (Contains free) same (all (n - m) within_k)

apart_push : (free : List ℕ) (ranges : List Range) (r : Range) → Apart ranges → Clear free ranges → AllFree free r.address r.pages → Apart (ranges ++ r ∷ [])
apart_push free ranges r apart clear all = record {
  one = λ page a b first second guest in_a in_b. ⊎_elim
      (λ (old : Contains ranges a). ⊎_elim
      (λ (old' : Contains ranges b). apart.one page a b old old' guest in_a in_b)
      (λ (e : r ≡ b). absurd (not_both page a old guest in_a (subst (λ (x : Range). is_within x.address x.pages page ≡ true) (sym e) in_b)))
      (Contains-push_cases ranges r b second))
      (λ (e : r ≡ a). ⊎_elim
      (λ (old' : Contains ranges b). absurd (not_both page b old' guest in_b (subst (λ (x : Range). is_within x.address x.pages page ≡ true) (sym e) in_a)))
      (λ (e' : r ≡ b). sym e ∙ e')
      (Contains-push_cases ranges r b second))
      (Contains-push_cases ranges r a first);
  inside = λ a k there few. ⊎_elim
      (λ (old : Contains ranges a). apart.inside a k old few)
      (λ (e : r ≡ a). subst (λ (x : Range). Contains guest_pages (x.address + 4096 * k)) e (clear (r.address + 4096 * k) (all k (subst (λ (x : Range). k < x.pages) (sym e) few))).0)
      (Contains-push_cases ranges r a there);
}
  where
    not_both : (page : ℕ) (a : Range) → Contains ranges a → Contains guest_pages page → is_within a.address a.pages page ≡ true → is_within r.address r.pages page ≡ true → ⊥
    not_both page a old guest in_a in_r = true≢false (sym in_a ∙ (clear page (page_in free ranges clear r all page guest in_r)).1 a old)

clear_without : (free : List ℕ) (ranges : List Range) (r : Range) → Clear free ranges → Clear (without free r.address r.pages) (ranges ++ r ∷ [])
clear_without free ranges r clear page h =
    let kept = from_filter (λ p. not (is_within r.address r.pages p)) free page h in
    let was = clear page kept.0 in (
      was.0,
      λ a there. ⊎_elim
          (λ (old : Contains ranges a). was.1 a old)
          (λ (e : r ≡ a). subst (λ (x : Range). is_within x.address x.pages page ≡ false) e (not-true _ kept.1))
          (Contains-push_cases ranges r a there),
    )

stands_free : (free : List ℕ) (pages address : ℕ) (at : Where) → StandsAt free pages at address → AllFree free address pages
stands_free free pages address (anywhere align) stands = stands.fits.room
stands_free free pages address (only own) stands = stands.1

append_one : (xs : List Range) (r : Range) (ys : List Range) → (xs ++ r ∷ []) ++ ys ≡ xs ++ r ∷ ys
append_one [] r ys = refl
append_one (x ∷ xs) r ys = ap (λ (zs : List Range). x ∷ zs) (append_one xs r ys)

append_none : (xs : List Range) → xs ++ [] ≡ xs
append_none [] = refl
append_none (x ∷ xs) = ap (λ (zs : List Range). x ∷ zs) (append_none xs)

given_apart : (free : List ℕ) (wanted : List Area) (given : List Range) (left : List ℕ) (ranges : List Range) → AreGiven free wanted given left → Apart ranges → Clear free ranges → Apart (ranges ++ given)
given_apart free [] [] left ranges g apart clear = subst Apart (sym (append_none ranges)) apart
given_apart free [] (r ∷ rs) left ranges g apart clear = absurd g
given_apart free (a ∷ wanted) [] left ranges g apart clear = absurd g
given_apart free (a ∷ wanted) (r ∷ rs) left ranges g apart clear =
    let all : AllFree free r.address r.pages = subst (AllFree free r.address) (sym g.0.pages) (stands_free free a.pages r.address a.place g.0.stands) in
    subst Apart (append_one ranges r rs)
    (given_apart (without free r.address r.pages) wanted rs left (ranges ++ r ∷ []) g.1 (apart_push free ranges r apart clear all) (clear_without free ranges r clear))

-- the pages that are given are free before
pub given_free : (free : List ℕ) (wanted : List Area) (given : List Range) (left : List ℕ) → AreGiven free wanted given left → (r : Range) → Contains given r → AllFree free r.address r.pages
given_free free [] [] left g r h = absurd (none_in r h)
given_free free [] (q ∷ qs) left g r h = absurd g
given_free free (a ∷ wanted) [] left g r h = absurd g
given_free free (a ∷ wanted) (q ∷ qs) left g r h = ⊎_elim
    (λ (e : q ≡ r). subst (λ (x : Range). AllFree free x.address x.pages) e (subst (AllFree free q.address) (sym g.0.pages) (stands_free free a.pages q.address a.place g.0.stands)))
    (λ (i : Contains qs r). λ k few. (from_filter (λ p. not (is_within q.address q.pages p)) free (r.address + 4096 * k) (given_free (without free q.address q.pages) wanted qs left g.1 r i k few)).0)
    (first_or_later q qs r h)

pub opens_free : (w : Setting) (s : State) (hart : ℕ) (ask : OpenAsk) (id root : ℕ) (added : List Loaded) (ranges : List Range) (name : Option (List ℕ))
    → OpensName w s hart ask name id root added ranges → (r : Range) → Contains ranges r → AllFree (free_pages s.ranges) r.address r.pages
opens_free w s hart ask id root added ranges (Some name) loads r h = given_free (free_pages s.ranges) _ ranges loads.placed.left loads.placed.given r h
opens_free w s hart ask id root added ranges None program r h = absurd (none_in r (subst (λ (rs : List Range). Contains rs r) program.no_pages h))

apart_filter : (p : Range → Bool) (ranges : List Range) → Apart ranges → Apart (filter p ranges)
apart_filter p ranges apart = record {
  one = λ page r q first second. apart.one page r q (from_filter p ranges r first).0 (from_filter p ranges q second).0;
  inside = λ r k there. apart.inside r k (from_filter p ranges r there).0;
}

-- ---- each event

opens_apart : (w : Setting) (s : State) (hart : ℕ) (ask : OpenAsk) (id root : ℕ) (added : List Loaded) (ranges : List Range) (name : Option (List ℕ))
    → OpensName w s hart ask name id root added ranges → Apart s.ranges → Apart (s.ranges ++ ranges)
opens_apart w s hart ask id root added ranges (Some name) loads apart = given_apart (free_pages s.ranges) _ ranges loads.placed.left s.ranges loads.placed.given apart (clear_free s.ranges)
opens_apart w s hart ask id root added ranges None program apart = subst (λ (rs : List Range). Apart (s.ranges ++ rs)) (sym program.no_pages) (subst Apart (sym (append_none s.ranges)) apart)

open_apart : (w : Setting) (s : State) (hart : ℕ) (ask : OpenAsk) (answer : OpenAnswer) → MayOpen w s hart ask answer → Apart s.ranges → Apart (step s (events.Open hart ask answer)).ranges
unfolding loaded
open_apart w s hart ask (opens.Done id root added ranges) may apart = opens_apart w s hart ask id root added ranges ask.name may.name apart
open_apart w s hart ask opens.Absent may apart = apart
open_apart w s hart ask (opens.Refused fault) may apart = apart

close_apart : (s : State) (hart handle : ℕ) (answer : CloseAnswer) → Apart s.ranges → Apart (step s (events.Close hart handle answer)).ranges
unfolding die lower
close_apart s hart handle (closes.Done set) apart = apart
close_apart s hart handle (closes.Refused fault) apart = apart

sym_apart : (s : State) (hart : ℕ) (ask : SymAsk) (answer : SymAnswer) → Apart s.ranges → Apart (step s (events.Sym hart ask answer)).ranges
sym_apart s hart ask (syms.Found serial index value) apart = apart
sym_apart s hart ask (syms.Refused fault) apart = apart

-- the pages of a block are free before
pub block_free : (s : State) (hart serial a : ℕ) → MayHaveBlock s hart serial a → (r : Range) × (block_ranges s hart serial a ≡ r ∷ []) × AllFree (free_pages s.ranges) r.address r.pages × (r.purpose ≡ purposes.Block hart serial)
block_free s hart serial a may =
    let segment : option_and_then (λ (o : Loaded). o.object.tls) (object_at s serial) ≡ Some may.seg =
    ap (option_and_then (λ (o : Loaded). o.object.tls)) may.wants.mapped ∙ may.wants.storage in
    let is : a ≡ may.pages + residue may.seg = may.is in
    let at : may.pages ≡ a - residue may.seg = behind a may.pages (residue may.seg) is in (
      block_range hart serial a may.seg,
      ap (λ (found : Option TlsSeg). option_map_or (λ seg. block_range hart serial a seg ∷ []) found []) segment,
      subst (λ (x : ℕ). AllFree (free_pages s.ranges) x (block_range hart serial a may.seg).pages) at may.first.fits.room,
      refl,
    )
  where
    behind : (x y z : ℕ) → x ≡ y + z → y ≡ x - z
    behind x y z e = omega (arith, e)

block_apart : (s : State) (hart serial a : ℕ) → MayHaveBlock s hart serial a → Apart s.ranges → Apart (add_block hart serial a s).ranges
block_apart s hart serial a may apart =
    let free = block_free s hart serial a may in
    subst (λ (rs : List Range). Apart (s.ranges ++ rs)) (sym free.1) (apart_push (free_pages s.ranges) s.ranges free.0 apart (clear_free s.ranges) free.2)

apart_step : (w : Setting) (past : List Event) (s : State) (e : Event) → AllowedIn w past s e → Apart s.ranges → Apart (step s e).ranges
unfolding unmap initialise
apart_step w past s (events.Open hart ask answer) may apart = open_apart w s hart ask answer may apart
apart_step w past s (events.Close hart handle answer) may apart = close_apart s hart handle answer apart
apart_step w past s (events.Unmapped hart set) may apart = apart_filter (λ r. not (goes_with set r)) s.ranges apart
apart_step w past s (events.Grant number hart owner slot choice value) may apart = apart
apart_step w past s (events.Bound number) may apart = apart
apart_step w past s (events.Lost number saw) may apart = apart
apart_step w past s (events.Unresolved hart owner slot choice) may apart = apart
apart_step w past s (events.Sym hart ask answer) may apart = sym_apart s hart ask answer apart
apart_step w past s (events.Tls hart owner address) may apart = block_apart s hart owner address may apart
apart_step w past s (events.Init hart object) may apart = apart
apart_step w past s (events.Fini hart object) may apart = apart
apart_step w past s (events.Wrote hart bytes) may apart = apart
apart_step w past s (events.Told hart fault) may apart = apart
apart_step w past s (events.Ended hart reason) may apart = apart

pub apart_after : (m : Machine) (journal : List Event) → Lawful m journal → Apart (after journal).ranges
apart_after m journal lawful =
    subst (λ (es : List Event). Apart (after es).ranges) (take_all (length journal) journal (omega arith))
    (by_history m (λ s. Apart s.ranges) (record { one = λ page r q there. absurd (none_in r there); inside = λ r k there. absurd (none_in r there) })
    (λ w past e same apart may. apart_step w past (after past) e may apart) journal lawful (length journal))
