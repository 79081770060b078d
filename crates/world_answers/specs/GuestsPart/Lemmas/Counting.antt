-- What a library counted in one part of a run after another, it counted in all of them.
use Rattle.std.proofs.Common.{◌≡◌, inl, inr, ℕ, ◌+◌, ◌<◌, ◌≤◌, Bool, true, false, cond, List, [], ◌∷◌, ◌++◌, Some, length, refl, sym, ap, subst, ◌∙◌, append-nil, append_assoc, arith}
use Rattle.std.specs.Prelude.{◌||◌, count_by}
use Rattle.std.specs.List.{AllByRecursion, list_any}
use Rattle.std.specs.Set.{distinct_count, is_member, unique_keys}
use Rattle.std.specs.Str.{bytes_eq}
use Rattle.std.proofs.lemmas.Bool.{or_parts, true≢false}
use Rattle.std.proofs.lemmas.List.Folds.{list_any-append}
use Rattle.std.proofs.lemmas.List.Sums.{sum_by-cons}
use Rattle.ld_base.specs.declared.fault.DlFault.{DlFault}
use Rattle.ld_base.specs.declared.fault.DlFault.TheVariants as faults
use Rattle.library_source.specs.Count.{RisesBy}
use Rattle.history_event.specs.declared.event.Event.{Event}
use Rattle.history_event.specs.declared.event.Event.TheVariants as events
use Rattle.history_event.specs.declared.event.OpenAnswer.TheVariants as openings
use Rattle.history_event.specs.declared.event.OpenAsk.{OpenAsk}
use Rattle.history_calls.specs.Laws.{is_read_fault}
use Rattle.history_calls.specs.CallLaws.Counts.{ArePaths, ShowsInCounts}
use Rattle.hart_moves.specs.Harts.{HartState, Resolving}
use Rattle.world_turns.proofs.Counting.{counts_join}
use Rattle.world_turns.specs.Counts.{Counts, ShowInCounts, has_candidate, is_missed, is_refused_for}
use Rattle.world_turns.specs.World.{World, has_won, settled_by, settling}
use Rattle.world_answers.specs.GuestsPart.Counting.{IsCounted, IsShown, RefusesNone, Rise, is_refusal}

-- ---- events that refuse no opening

pub both_spare : (one other : List Event) → list_any is_refusal one ≡ false → list_any is_refusal other ≡ false → list_any is_refusal (one ++ other) ≡ false
both_spare one other a b = list_any-append is_refusal one other ∙ (λ i. a i || b i)

place_spares : (r : Resolving) → list_any is_refusal (settled_by r) ≡ false
place_spares Resolving.idle = refl
place_spares (Resolving.to_exchange o) = refl
place_spares (Resolving.to_finish o found) = refl
place_spares (Resolving.to_settle o found) = by (has_won o found)
  where
    by : (t : Bool) → list_any is_refusal (cond t (events.Bound o.number) (events.Lost o.number found) ∷ []) ≡ false
    by true = refl
    by false = refl

-- none does that is settled
pub settling_spares : (harts : List HartState) → list_any is_refusal (settling harts) ≡ false
settling_spares [] = refl
settling_spares (b ∷ rest) = both_spare (settled_by b.resolving) (settling rest) (place_spares b.resolving) (settling_spares rest)

-- ---- what they show

pub spare_shown : (folders : List (List ℕ)) (before after : Counts) (es : List Event) → list_any is_refusal es ≡ false → AllByRecursion (IsShown folders before after) es
spare_shown folders before after [] none = tt
spare_shown folders before after (e ∷ rest) none =
    let parts = or_parts (is_refusal e) (list_any is_refusal rest) none in
    (λ h ask fault is. absurd (true≢false (sym (ap is_refusal is) ∙ parts.0)), spare_shown folders before after rest parts.1)

not_for : (of : DlFault → Bool) (e : Event) → is_refusal e ≡ false → is_refused_for of e ≡ false
not_for of (events.Open h ask (openings.Refused fault)) none = absurd (true≢false none)
not_for of (events.Open h ask _) none = refl
not_for of _ none = refl

none_count : (of : DlFault → Bool) (es : List Event) → list_any is_refusal es ≡ false → count_by (is_refused_for of) es ≡ 0
none_count of [] none = refl
none_count of (e ∷ rest) none =
    let parts = or_parts (is_refusal e) (list_any is_refusal rest) none in
    sum_by-cons (λ (x : Event). cond (is_refused_for of x) 1 0) e rest ∙ (λ i. cond (not_for of e parts.0 i) 1 0 + none_count of rest parts.1 i)

no_rise : (n before after : ℕ) → n ≡ 0 → before ≤ after → RisesBy n before after
no_rise n before after none le = inl (omega (arith, none, le))

pub spare_counts : (folders : List (List ℕ)) (before after : Counts) (es : List Event) → Rise before after → list_any is_refusal es ≡ false
    → ShowInCounts folders es before after
spare_counts folders before after es rise none = record {
  faults = no_rise (count_by (is_refused_for is_read_fault) es) before.faults after.faults (none_count is_read_fault es none) rise.faults;
  misses = no_rise (count_by (is_refused_for (is_missed folders)) es) before.misses after.misses (none_count (is_missed folders) es none) rise.misses;
}

pub none_counted : (folders : List (List ℕ)) (old new : World) (before after : Counts) → Rise before after → RefusesNone old new
    → IsCounted folders old new before after
none_counted folders old new before after rise x = record {
  appended = x.appended;
  are = x.are;
  each = spare_shown folders before after x.appended x.none;
  all = spare_counts folders before after x.appended rise x.none;
}

pub unmoved : (world : World) → RefusesNone world world
unmoved world = record { appended = []; are = sym (append-nil world.journal); none = refl }

-- ---- one refusal

some_distinct : (paths : List (List ℕ)) → 0 < length paths → 1 ≤ distinct_count bytes_eq paths
some_distinct [] some = absurd (omega (arith, some))
some_distinct (path ∷ rest) some = by (λ more. some_distinct rest more) (is_member bytes_eq rest path) refl rest refl
  where
    by : (0 < length rest → 1 ≤ distinct_count bytes_eq rest) → (t : Bool) → is_member bytes_eq rest path ≡ t → (others : List (List ℕ)) → others ≡ rest
        → 1 ≤ length (cond t (unique_keys bytes_eq rest) (path ∷ unique_keys bytes_eq rest))
    by again false is others are = omega arith
    by again true is [] are = absurd (true≢false (sym is ∙ ap (λ (xs : List (List ℕ)). is_member bytes_eq xs path) (sym are)))
    by again true is (other ∷ others) are = again (subst (λ (xs : List (List ℕ)). 0 < length xs) are (omega arith))

missed_once : (paths : List (List ℕ)) (before after : ℕ) (t : Bool) → (t ≡ true → 0 < length paths) → RisesBy (distinct_count bytes_eq paths) before after
    → before ≤ after → RisesBy (0 + cond t 1 0) before after
missed_once paths before after false some rises le = inl (omega (arith, le))
missed_once paths before after true some (inr end) le = inr end
missed_once paths before after true some (inl rises) le =
    let once : 1 ≤ distinct_count bytes_eq paths = some_distinct paths (some refl) in inl (omega (arith, rises, once))

-- of an opening whose paths are these, of which there are some where its name has a candidate
module _ (Are : List ℕ → List (List ℕ) → Type 0) (folders : List (List ℕ))
    (some : (name : List ℕ) (paths : List (List ℕ)) → Are name paths → has_candidate folders name ≡ true → 0 < length paths) (h : ℕ) (ask : OpenAsk) where
  read_shows : (fault : DlFault) (first last : Counts) → Rise first last → ShowsInCounts Are (Some fault) first.faults last.faults first.misses last.misses
      → RisesBy (count_by (is_refused_for is_read_fault) (events.Open h ask (openings.Refused fault) ∷ [])) first.faults last.faults
  read_shows (faults.ReadFault path) first last rise shows = shows.failed path refl
  read_shows _ first last rise shows = let le = rise.faults in inl (omega (arith, le))

  missed_shows : (fault : DlFault) (first last : Counts) → Rise first last → ShowsInCounts Are (Some fault) first.faults last.faults first.misses last.misses
      → RisesBy (count_by (is_refused_for (is_missed folders)) (events.Open h ask (openings.Refused fault) ∷ [])) first.misses last.misses
  missed_shows (faults.MissingLibrary name) first last rise shows =
      let missed = shows.missed name refl in
      missed_once missed.paths first.misses last.misses (has_candidate folders name) (some name missed.paths missed.are) missed.each rise.misses
  missed_shows _ first last rise shows = let le = rise.misses in inl (omega (arith, le))

  pub refusal_shows : (fault : DlFault) (first last : Counts) → Rise first last → ShowsInCounts Are (Some fault) first.faults last.faults first.misses last.misses
      → ShowInCounts folders (events.Open h ask (openings.Refused fault) ∷ []) first last
  refusal_shows fault first last rise shows = record { faults = read_shows fault first last rise shows; misses = missed_shows fault first last rise shows }

-- ---- one part after another

rises_wider : (n a b c d : ℕ) → a ≤ b → c ≤ d → RisesBy n b c → RisesBy n a d
rises_wider n a b c d low high (inl x) = inl (omega (arith, low, high, x))
rises_wider n a b c d low high (inr x) = inr (omega (arith, high, x))

shows_wider : (folders : List (List ℕ)) (fault : DlFault) (a b c d : Counts) → Rise a b → Rise c d
    → ShowsInCounts (ArePaths folders) (Some fault) b.faults c.faults b.misses c.misses
    → ShowsInCounts (ArePaths folders) (Some fault) a.faults d.faults a.misses d.misses
shows_wider folders fault a b c d low high shows = record {
  failed = λ path is. rises_wider 1 a.faults b.faults c.faults d.faults low.faults high.faults (shows.failed path is);
  missed = λ name is.
      let missed = shows.missed name is in
      record {
        paths = missed.paths;
        are = missed.are;
        each = rises_wider (distinct_count bytes_eq missed.paths) a.misses b.misses c.misses d.misses low.misses high.misses missed.each;
      };
}

all_wider : (folders : List (List ℕ)) (a b c d : Counts) (es : List Event) → Rise a b → Rise c d → AllByRecursion (IsShown folders b c) es
    → AllByRecursion (IsShown folders a d) es
all_wider folders a b c d [] low high all = tt
all_wider folders a b c d (e ∷ rest) low high all =
    (λ h ask fault is. shows_wider folders fault a b c d low high (all.0 h ask fault is), all_wider folders a b c d rest low high all.1)

pub both_shown : (folders : List (List ℕ)) (before after : Counts) (one other : List Event) → AllByRecursion (IsShown folders before after) one
    → AllByRecursion (IsShown folders before after) other → AllByRecursion (IsShown folders before after) (one ++ other)
both_shown folders before after [] other x y = y
both_shown folders before after (e ∷ rest) other x y = (x.0, both_shown folders before after rest other x.1 y)

pub same_counts : (counts : Counts) → Rise counts counts
same_counts counts = record { faults = omega arith; misses = omega arith }

pub counted_more : (folders : List (List ℕ)) (old between new : World) (a b c : Counts) → Rise a b → Rise b c → IsCounted folders old between a b
    → IsCounted folders between new b c → IsCounted folders old new a c
counted_more folders old between new a b c low high x y = record {
  appended = x.appended ++ y.appended;
  are = y.are ∙ ap (λ (es : List Event). es ++ y.appended) x.are ∙ append_assoc old.journal x.appended y.appended;
  each = both_shown folders a c x.appended y.appended (all_wider folders a a b c x.appended (same_counts a) high x.each)
      (all_wider folders a b c c y.appended low (same_counts c) y.each);
  all = counts_join folders x.appended y.appended a b c x.all y.all;
}
