-- Each hart starts in its own stack: startup reserves one for each.
use Rattle.std.proofs.Common.{◌≡◌, ⊎_elim, ℕ, zero, suc, ◌+◌, ◌-◌, ◌*◌, ◌%◌, ◌<◌, Bool, true, false, List, [], ◌∷◌, ◌++◌, map, length, Option, Some, None, refl, sym, ap, subst, ◌∙◌, arith}
use Rattle.std.specs.Prelude.{if◌then◌else◌, find}
use Rattle.std.specs.List.{Contains, range_with_len, slice_get}
use Rattle.std.specs.Option.{option_map_or}
use Rattle.std.proofs.lemmas.Bool.{eq-eqb, eqb-true, true≢false}
use Rattle.std.proofs.lemmas.List.{append-nil, append_assoc}
use Rattle.std.proofs.lemmas.List.Elements.{Contains-append_cases, Contains-append_left, Contains-append_right}
use Rattle.std.proofs.lemmas.Option.{slice_get_within}
use Rattle.address_space.specs.Pages.{without}
use Rattle.ld_base.specs.declared.linking.Loaded.{Loaded}
use Rattle.history_event.specs.declared.event.Event.{Event}
use Rattle.history_event.specs.declared.event.Purpose.{Purpose}
use Rattle.history_event.specs.declared.event.Purpose.TheVariants as purposes
use Rattle.history_event.specs.declared.event.Range.{Range}
use Rattle.history_event.specs.declared.handed.HartEntry.{HartEntry}
use Rattle.history_state.specs.After.{after, after_from}
use Rattle.history_state.specs.Areas.{Area, AreGiven, IsGiven, areas, has_storage, object_area, stack_area, static_area, static_areas}
use Rattle.history_state.specs.Lemmas.History.{after_push}
use Rattle.history_state.specs.Lemmas.Lists.{first_or_later, found_in, from_map, here, in_map, later, none_in, not_found}
use Rattle.history_state.specs.Lemmas.Pages.{range_has}
use Rattle.history_state.specs.Setting.{Setting}
use Rattle.history_state.specs.State.{State, Statics}
use Rattle.history_state.specs.Step.{loaded}
use Rattle.history_state.specs.Storage.{statics_with}
use Rattle.history_calls.specs.declared.link_served.startup.Setup.{Setup}
use Rattle.history_calls.specs.Lemmas.Serving.{harts_have_entries}
use Rattle.history_calls.specs.Startup.{FindHarts, entries_from, entry_at, found_at, is_stack, opening, program_entry, stack_end}
use Rattle.link_startup.specs.Stacks.{StacksAreOwn, StartsInStack}

-- ---- what is given for what is wanted

-- each range is of an area
given_for : (free : List ℕ) (areas : List Area) (ranges : List Range) (left : List ℕ) → AreGiven free areas ranges left → (r : Range) → Contains ranges r
    → (a : Area) × (rest : List ℕ) × Contains areas a × IsGiven rest a r
given_for free [] [] left given r there = absurd (none_in r there)
given_for free [] (q ∷ qs) left given r there = absurd given
given_for free (a ∷ more) [] left given r there = absurd given
given_for free (a ∷ more) (q ∷ qs) left given r there = ⊎_elim
    (λ (e : q ≡ r). (a, free, here a more, subst (IsGiven free a) e given.0))
    (λ (i : Contains qs r). let its = given_for (without free q.address q.pages) more qs left given.1 r i in (its.0, its.1, later a more its.0 its.2, its.3))
    (first_or_later q qs r there)

-- and each area has a range
range_for : (free : List ℕ) (areas : List Area) (ranges : List Range) (left : List ℕ) → AreGiven free areas ranges left → (a : Area) → Contains areas a
    → (r : Range) × Contains ranges r × (r.purpose ≡ a.purpose)
range_for free [] ranges left given a there = absurd (none_in a there)
range_for free (b ∷ more) [] left given a there = absurd given
range_for free (b ∷ more) (q ∷ qs) left given a there = ⊎_elim
    (λ (e : b ≡ a). (q, here q qs, given.0.purpose ∙ ap (λ (x : Area). x.purpose) e))
    (λ (i : Contains more a). let its = range_for (without free q.address q.pages) more qs left given.1 a i in (its.0, later q qs its.0 its.1, its.2))
    (first_or_later b more a there)

-- ---- stacks

-- an area for a hart's stack is the stack's
stack_only : (st : Statics) (harts : ℕ) (added : List Loaded) (a : Area) (hart : ℕ) → Contains (areas true st harts added) a → a.purpose ≡ purposes.Stack hart → a ≡ stack_area hart
stack_only st harts added a hart there e = ⊎_elim
    (λ (i : Contains (map object_area added) a). let at = from_map object_area added a i in let d : purposes.Object at.0.serial ≡ purposes.Stack hart = ap (λ (x : Area). x.purpose) at.2 ∙ e in absurd cc)
    (λ (i : Contains (map stack_area (range_with_len 0 harts) ++ static_areas st harts added) a). ⊎_elim
    (λ (j : Contains (map stack_area (range_with_len 0 harts)) a).
    let at = from_map stack_area (range_with_len 0 harts) a j in
    let d : purposes.Stack at.0 ≡ purposes.Stack hart = ap (λ (x : Area). x.purpose) at.2 ∙ e in
    let one : at.0 ≡ hart = cc in
    sym at.2 ∙ ap stack_area one)
    (λ (j : Contains (static_areas st harts added) a). absurd (stored (has_storage added) j))
    (Contains-append_cases (map stack_area (range_with_len 0 harts)) (static_areas st harts added) a i))
    (Contains-append_cases (map object_area added) (map stack_area (range_with_len 0 harts) ++ static_areas st harts added) a there)
  where
    stored : (t : Bool) → Contains (if t then map (static_area st added) (range_with_len 0 harts) else []) a → ⊥
    stored true j = let at = from_map (static_area st added) (range_with_len 0 harts) a j in let d : purposes.StaticTls at.0 ≡ purposes.Stack hart = ap (λ (x : Area). x.purpose) at.2 ∙ e in cc
    stored false j = none_in a j

stack_wanted : (st : Statics) (harts : ℕ) (added : List Loaded) (hart : ℕ) → hart < harts → Contains (areas true st harts added) (stack_area hart)
stack_wanted st harts added hart few =
    Contains-append_right (map object_area added) _ _
    (Contains-append_left (map stack_area (range_with_len 0 harts)) (static_areas st harts added) _
    (in_map stack_area (range_with_len 0 harts) hart (range_has 0 harts hart (omega arith) (omega (arith, few)))))

stack_purpose : (hart : ℕ) (p : Purpose) → is_stack hart p ≡ true → p ≡ purposes.Stack hart
stack_purpose hart (purposes.Object serial) e = absurd (true≢false (sym e))
stack_purpose hart (purposes.Stack h) e = ap (λ (n : ℕ). purposes.Stack n) (eqb-true h hart e)
stack_purpose hart (purposes.StaticTls h) e = absurd (true≢false (sym e))
stack_purpose hart (purposes.Block h serial) e = absurd (true≢false (sym e))

purpose_stack : (hart : ℕ) (p : Purpose) → p ≡ purposes.Stack hart → is_stack hart p ≡ true
purpose_stack hart p e = ap (is_stack hart) e ∙ eq-eqb hart hart refl

-- a stack of 16 pages, which begin at a page
in_stack : (s : State) (hart sp : ℕ) (r : Range) (free : List ℕ) (a : Area) → Contains s.ranges r → r.purpose ≡ purposes.Stack hart → sp ≡ r.address + 4096 * r.pages - 48
    → a ≡ stack_area hart → IsGiven free a r → StartsInStack s hart sp
in_stack s hart sp r free a there own is same given =
    let its : IsGiven free (stack_area hart) r = subst (λ (x : Area). IsGiven free x r) same given in
    let pages : r.pages ≡ 16 = its.pages in
    let page : r.address % 4096 ≡ 0 = its.stands.fits.aligned in
    record {
      stack = r;
      reserved = there;
      own = own;
      top = omega (arith, is, pages);
      within = omega (arith, is, pages);
      aligned = omega (arith, is, pages, page);
    }

module _ (s : State) (free left : List ℕ) (st : Statics) (harts : ℕ) (added : List Loaded) (ranges : List Range)
    (given : AreGiven free (areas true st harts added) ranges left) (are : s.ranges ≡ ranges) where
  begins_in_stack : (hart sp : ℕ) → hart < harts → sp ≡ stack_end s hart - 48 → StartsInStack s hart sp
  begins_in_stack hart sp few is = by (find (λ (r : Range). is_stack hart r.purpose) s.ranges) refl
    where
      by : (found : Option Range) → find (λ (r : Range). is_stack hart r.purpose) s.ranges ≡ found → StartsInStack s hart sp
      by None e =
          let its = range_for free (areas true st harts added) ranges left given (stack_area hart) (stack_wanted st harts added hart few) in
          let there : Contains s.ranges its.0 = subst (λ (rs : List Range). Contains rs its.0) (sym are) its.1 in
          absurd (true≢false (sym (purpose_stack hart its.0.purpose its.2) ∙ not_found (λ (r : Range). is_stack hart r.purpose) s.ranges its.0 e there))
      by (Some r) e =
          let found = found_in (λ (q : Range). is_stack hart q.purpose) s.ranges r e in
          let own : r.purpose ≡ purposes.Stack hart = stack_purpose hart r.purpose found.1 in
          let its = given_for free (areas true st harts added) ranges left given r (subst (λ (rs : List Range). Contains rs r) are found.0) in
          in_stack s hart sp r its.1 its.0 found.0 own
          (is ∙ ap (λ (x : Option Range). option_map_or (λ (q : Range). q.address + 4096 * q.pages) x 0 - 48) e)
          (stack_only st harts added its.0 hart its.2 (sym its.3.purpose ∙ own)) its.3

-- ---- the run

-- names that are found leave the state as it is
found_same : (w : Setting) (past : List Event) (hart : ℕ) (names : List (List ℕ)) (found : List Event) (addresses : List ℕ) → FindHarts w past hart names found addresses
    → after (past ++ found) ≡ after past
found_same w past hart names found addresses (FindHarts.no_more p h) = ap after (append-nil past)
found_same w past hart names found addresses (FindHarts.one_more p h name rest serial index value more others finds further) =
    let e : Event = found_at h name serial index value in
    ap after (sym (append_assoc past (e ∷ []) more)) ∙ found_same w (past ++ e ∷ []) (h + 1) rest more others further ∙ after_push past e

ranges_then : (setup : Setup) (root : ℕ) (added : List Loaded) (ranges : List Range) → (after (opening setup root added ranges ∷ [])).ranges ≡ ranges
unfolding loaded after_from
ranges_then setup root added ranges = refl

entry_there : (s : State) (hart : ℕ) (starts : List ℕ) (k : ℕ) (entry : HartEntry) → slice_get (entries_from s hart starts) k ≡ Some entry → entry.sp ≡ stack_end s (hart + k) - 48
entry_there s hart [] k entry at = absurd (let d : None ≡ Some entry = at in cc)
entry_there s hart (pc ∷ rest) zero entry at =
    let one : entry_at s hart pc ≡ entry = cc in
    let same : hart ≡ hart + 0 = omega arith in
    ap (λ (e : HartEntry). e.sp) (sym one) ∙ ap (λ n. stack_end s n - 48) same
entry_there s hart (pc ∷ rest) (suc k) entry at =
    let same : (hart + 1) + k ≡ hart + suc k = omega arith in
    entry_there s (hart + 1) rest k entry at ∙ ap (λ n. stack_end s n - 48) same

pub stacks_are_own : StacksAreOwn
unfolding after_from
stacks_are_own w setup journal started hart entry machine starts at =
    let placed = starts.opens.name.placed in
    let state : after journal ≡ after (opening setup starts.root starts.added starts.ranges ∷ []) =
    ap after starts.are ∙ found_same w (opening setup starts.root starts.added starts.ranges ∷ []) 1 setup.harts starts.found starts.addresses starts.finds in
    let ranges : (after journal).ranges ≡ starts.ranges = ap (λ (s : State). s.ranges) state ∙ ranges_then setup starts.root starts.added starts.ranges in
    let sp : entry.sp ≡ stack_end (after journal) (0 + hart) - 48 =
    entry_there (after journal) 0 (program_entry (after journal) ∷ starts.addresses) hart entry
    (subst (λ (es : List HartEntry). slice_get es hart ≡ Some entry) starts.entries at) in
    let same : 0 + hart ≡ hart = omega arith in
    let count : length started.entries ≡ length setup.harts + 1 = harts_have_entries w setup journal started starts in
    let within : hart < length started.entries = slice_get_within started.entries hart entry at in
    let harts : w.machine.harts ≡ length setup.harts + 1 = machine in
    let few : hart < w.machine.harts = omega (arith, count, within, harts) in
    begins_in_stack (after journal) _ placed.left (statics_with starts.added (after []).statics) w.machine.harts starts.added starts.ranges placed.given ranges hart entry.sp few
    (sp ∙ ap (λ n. stack_end (after journal) n - 48) same)
