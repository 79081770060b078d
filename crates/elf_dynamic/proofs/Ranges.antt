-- Ranges of addresses: where they lie, the doublewords that they name, and how they are counted.
use Rattle.std.proofs.Common.{◌≡◌, ℕ, ◌+◌, ◌-◌, ◌*◌, ◌%◌, ◌<◌, ◌≤◌, ◌^◌, true, false, List, arith, inl, inr, ◌∙◌, refl, ◌/◌, ◌==◌, ◌||◌, Bool, [], ◌∷◌}
use Rattle.std.proofs.Common.{◌++◌, length, get_or, Some, None, ◌↔◌, ◌⊎◌, zero, suc, ◌&&◌, w64, nat_le, nat_lt, cond, map, take, add-one}
use Rattle.std.proofs.lemmas.Option.{get_or_from_slice_get, slice_get_within, slice_get-get_or, slice_get_past}
use Rattle.ld_base.specs.declared.object.Reloc.{Reloc}
use Rattle.ld_base.specs.declared.object.Span.{Span}
use Rattle.ld_base.specs.declared.object.Symbol.{Symbol}
use Rattle.ld_base.specs.declared.parts.Header.{Header}
use Rattle.elf_dynamic.specs.Memory.{in_writable, AreLow, overlaps}
use Rattle.elf_dynamic.specs.Named.{doubleword, named_by}
use Rattle.elf_dynamic.specs.Rules.{is_bad_place, is_bad_reloc, is_no_slot, times_named}
use Rattle.elf_dynamic.proofs.Tests.{writable_decides, counted}
use Rattle.std.proofs.lemmas.Bool.Decides.{nat_tests}
use Rattle.elf_dynamic.specs.Ranges.{is_writable, LiesIn}
use lib.IntN.{pos}
use Rattle.std.specs.Prelude.{position, if◌then◌else◌, count_by, min}
use Rattle.std.specs.List.{list_any}
use Rattle.std.proofs.lemmas.Bool.{lt-ltb, le-ltb, cases_Bool, cases_lt}
use Rattle.std.proofs.lemmas.List.Folds.{list_any-append}
use Rattle.std.proofs.lemmas.List.Sums.{position_or_len_is, count_by_more_yes, count_by_more_no, sum_by-cons}
use Rattle.elf_dynamic.specs.Marks.{is_marked, AreMarks}
use Rattle.std.specs.BTreeMap.{BTreeMap, Updates, get, is_at}
use Rattle.std.specs.Ordering.{nat_cmp}
use Rattle.elf_dynamic.specs.Ends.{IsMet}
use Rattle.elf_dynamic.specs.Judged.{AreEnds}
use Rattle.std.proofs.Math.ListN.{set}
use Rattle.std.proofs.lemmas.List.{get_or_past}
use Rattle.std.proofs.lemmas.Grind.{common_steps, get_or_default_zero}
use Rattle.std.proofs.lemmas.Nat.Bits.{bit_at_ones, bit_at_set_same, bit_at_set_other, bit_at-zero}
use Rattle.std.specs.Int.{bit_at}
use Rattle.std.specs.Int.RustNames.{bit_or}
use Rattle.std.specs.List.Sorted.{IsPartitionPoint}
use Rattle.std.proofs.Math.Seq.{take-length}
use Rattle.elf_dynamic.specs.Naming.{begin_of, count_below, end_of}

-- ---- what lies in mapped segments ends in the first 4 GiB of addresses

pub low_writable : (headers : List Header) (s : Span) → AreLow headers → in_writable headers s ≡ true → 0 < s.size → s.start + s.size ≤ 2 ^ 32
low_writable headers s low inside some =
    elim ((writable_decides headers s).0 inside) [
      | inl none ↦ absurd (omega arith)
      | inr l ↦
          let ends = rw (get_or_from_slice_get headers l.index l.segment l.segment l.is) at
          (low l.index l.segment (slice_get_within headers l.index l.segment l.is)) in
          omega (arith, l.high, ends l.mapped)
    ]

-- the doubleword of a place that isn't bad
pub low_place : (headers : List Header) (place : ℕ) → AreLow headers → is_bad_place headers place ≡ false → place + 8 ≤ 2 ^ 32
low_place headers place low good =
    let inside : in_writable headers (doubleword place) ≡ true = grind arith in
    low_writable headers (doubleword place) low inside (omega arith)

-- the bytes of a relocation that isn't bad
pub low_reloc : (headers : List Header) (symbols : List Symbol) (r : Reloc) → AreLow headers → is_bad_reloc headers symbols r ≡ false
    → 0 < (named_by symbols r).size → (named_by symbols r).start + (named_by symbols r).size ≤ 2 ^ 32
low_reloc headers symbols r low good some = low_writable headers (named_by symbols r) low (grind (arith, nat_tests)) some

-- a slot that isn't bad by itself
pub low_slot : (bytes : List ℕ) (headers : List Header) (symbols : List Symbol) (r : Reloc) → AreLow headers → is_no_slot bytes headers symbols r ≡ false
    → (r.place % 8 ≡ 0) × (r.place + 8 ≤ 2 ^ 32)
low_slot bytes headers symbols r low good = (grind arith, low_place headers r.place low (grind arith))

-- a doubleword of a range of writable memory is in writable memory
pub sure_place : (headers : List Header) (next bit : ℕ) → 1 ≤ bit → bit < 64 → next % 8 ≡ 0
    → in_writable headers (record { start = next; size = 504 }) ≡ true → is_bad_place headers (next + 8 * (bit - 1)) ≡ false
sure_place headers next bit some few aligned inside =
    let wide = (writable_decides headers (record { start = next; size = 504 })).0 inside in
    let fits = writable_decides headers (doubleword (next + 8 * (bit - 1))) in
    let within = λ (l : LiesIn headers is_writable (record { start = next; size = 504 })).
    fits.1 (inr (record { index = l.index; segment = l.segment; is = l.is; mapped = l.mapped; flagged = l.flagged; low = omega arith; high = omega arith })) in
    grind (arith, nat_tests)

-- ---- the doublewords that others than slots name, and the search of the first bad slot

module _ (words : List ℕ) (others : List Span) (place : ℕ) (marks : AreMarks words others) (aligned : place % 8 ≡ 0) where
  -- a doubleword at its place
  pub marked_place : is_marked words (place / 8) ≡ list_any (overlaps (doubleword place)) others
  marked_place = let same : 8 * (place / 8) ≡ place = omega arith in rw (marks (place / 8), same) refl

  -- two doublewords
  pub marked_two : (is_marked words (place / 8) || is_marked words (place / 8 + 1)) ≡ list_any (overlaps (record { start = place; size = 16 })) others
  marked_two =
      let first : 8 * (place / 8) ≡ place = omega arith in
      let second : 8 * (place / 8 + 1) ≡ place + 8 = omega arith in
      rw (marks (place / 8), marks (place / 8 + 1), first, second) (each others)
    where
      two : (s : Span) → overlaps (record { start = place; size = 16 }) s ≡ (overlaps (doubleword place) s || overlaps (doubleword (place + 8)) s)
      two s = grind (arith, nat_tests)

      each : (spans : List Span) → (list_any (overlaps (doubleword place)) spans || list_any (overlaps (doubleword (place + 8))) spans)
          ≡ list_any (overlaps (record { start = place; size = 16 })) spans
      each [] = refl
      each (s ∷ spans) = rw (two s, ← each spans) (grind arith)

-- what is named at the head of a table of slots
pub ruleset head_of_slots = (low_writable, marked_two, counted, list_any-append)

-- ---- a search

-- what the code reads where there is no relocation
abbrev pub nothing : Reloc
nothing = record { place = 0; kind = 0; symbol = 0; addend = pos 0 }

module _ {X : Type 0} (p : X → Bool) (xs : List X) (i : ℕ) (d : X) (before : (k : ℕ) → k < i → p (get_or xs k d) ≡ false) where
  pub position_here : i < length xs → p (get_or xs i d) ≡ true → Some i ≡ position p xs
  position_here within passes =
      rw (position_or_len_is p xs i d (omega arith) before (λ less. passes), lt-ltb i (length xs) within) refl

  pub position_past : length xs ≤ i → None ≡ position p xs
  position_past past =
      rw (
        position_or_len_is p xs (length xs) d (omega arith) (λ k below. before k (omega arith)) (λ less. absurd (omega arith)),
        le-ltb (length xs) (length xs) (omega arith),
      ) refl

-- ---- ranges that lie apart, as a map from where each begins to where it ends

any_more : (p : Span → Bool) (ranges : List Span) (range : Span) → list_any p (ranges ++ range ∷ []) ≡ (p range || list_any p ranges)
any_more p ranges range = rw list_any-append (grind arith)

-- ---- a range without bytes

module _ (range : Span) (none : range.size ≡ 0) where
  apart_from : (s : Span) → overlaps s range ≡ false
  apart_from s = grind (arith, nat_tests)

  pub none_overlaps : (ranges : List Span) → list_any (overlaps range) ranges ≡ false
  none_overlaps [] = refl
  none_overlaps (s ∷ ranges) = grind (arith, nat_tests, none_overlaps ranges)

  pub none_ends : (ranges : List Span) (ends : BTreeMap ℕ ℕ) → AreEnds ranges ends → AreEnds (ranges ++ range ∷ []) ends
  none_ends ranges ends are = record { apart = are.apart; met = λ s some. rw (any_more, apart_from s) (are.met s some) }

-- ---- one range more

module _ (ranges : List Span) (ends : BTreeMap ℕ ℕ) (are : AreEnds ranges ends) (range : Span) (some : 0 < range.size)
    (clear : IsMet ends range.start (range.start + range.size) → ⊥)
    (new : BTreeMap ℕ ℕ) (put : Updates nat_cmp ends new range.start (Some (range.start + range.size))) where
  not_at : (other : ℕ) → (range.start ≡ other → ⊥) → is_at (nat_cmp range.start) other ≡ false
  not_at other apart = grind (arith, nat_tests)

  from_new : (start end : ℕ) → get nat_cmp new start ≡ Some end
      → ((range.start ≡ start) × (range.start + range.size ≡ end)) ⊎ (get nat_cmp ends start ≡ Some end)
  from_new start end found = let other = put.2 start in let kept = not_at start in grind (arith, put.1)

  from_old : (start end : ℕ) → get nat_cmp ends start ≡ Some end → get nat_cmp new start ≡ Some end
  from_old start end found =
      let reaches = are.apart.some start end found in
      put.2 start (not_at start (λ same. clear (start, (end, record { stands = found; begins = omega arith; reaches = omega arith })))) ∙ found

  before : (start end : ℕ) → get nat_cmp ends start ≡ Some end → start < range.start + range.size → end ≤ range.start
  before start end found begins = grind arith

  apart_more : (start end next past : ℕ) → get nat_cmp new start ≡ Some end → get nat_cmp new next ≡ Some past → start < next → end ≤ next
  apart_more start end next past found also less =
      let reaches = are.apart.some next past in
      let both = are.apart.apart start end next past in
      grind (arith, from_new start end found, from_new next past also, before start end, before next past)

  met_more : (s : Span) → 0 < s.size → IsMet new s.start (s.start + s.size) ↔ ((overlaps s range || list_any (overlaps s) ranges) ≡ true)
  met_more s size = (
    λ (first, (past, m)).
        let ends_in = m.begins in
        let reaches = m.reaches in
        elim (from_new first past m.stands) [
          | inl same ↦ grind (arith, nat_tests)
          | inr stands ↦ let own = (are.met s size).0 (first, (past, record { stands = stands; begins = ends_in; reaches = reaches })) in grind arith
        ],
    λ any. elim (cases_Bool (overlaps s range)) [
      | inl own ↦ (range.start, (range.start + range.size, record { stands = put.1; begins = grind (arith, nat_tests); reaches = grind (arith, nat_tests) }))
      | inr other ↦
          let (first, (past, m)) = (are.met s size).1 (rw other at any) in
          (first, (past, record { stands = from_old first past m.stands; begins = m.begins; reaches = m.reaches }))
    ],
  )

  pub put_ends : AreEnds (ranges ++ range ∷ []) new
  put_ends = record {
    apart = record {
      some = λ start end found. (let old = are.apart.some start end in grind (arith, from_new start end found));
      apart = apart_more;
    };
    met = λ s size. rw any_more (met_more s size);
  }

-- ---- the doublewords of one range more

pub put_marks : (old new : List ℕ) (ranges : List Span) (range : Span) → AreMarks old ranges
    → ((e : ℕ) → is_marked new e ≡ (overlaps (doubleword (8 * e)) range || is_marked old e)) → AreMarks new (ranges ++ range ∷ [])
put_marks old new ranges range are step e = step e ∙ rw (are e, any_more) refl

pub none_marks : (words : List ℕ) (ranges : List Span) (range : Span) → AreMarks words ranges → range.size ≡ 0 → AreMarks words (ranges ++ range ∷ [])
none_marks words ranges range are none = put_marks words words ranges range are (λ e. rw (apart_from range none (doubleword (8 * e))) refl)

-- ---- sets of doublewords as bits of words

-- one word of no bits more
pub get_or_zero : (xs : List ℕ) (k : ℕ) → get_or (xs ++ 0 ∷ []) k 0 ≡ get_or xs k 0
get_or_zero xs k = grind (arith, common_steps)

-- a doubleword by the bit of its word, which is 0 where there is no word
marked_get : (words : List ℕ) (d : ℕ) → is_marked words d ≡ (bit_at (get_or words (d / 64) 0) (d % 64) == 1)
unfolding is_marked
marked_get words d = grind (arith, common_steps, slice_get-get_or, slice_get_past, get_or_past, bit_at-zero)

-- words that read the same have the same doublewords
pub same_marks : (old new : List ℕ) → ((k : ℕ) → get_or new k 0 ≡ get_or old k 0) → (d : ℕ) → is_marked new d ≡ is_marked old d
same_marks old new same d = rw (marked_get new d, marked_get old d, same (d / 64)) refl

pub none_marked : (words : List ℕ) → words ≡ [] → (d : ℕ) → is_marked words d ≡ false
unfolding is_marked
none_marked words none d = rw none refl

-- a word anew
marked_set : (words : List ℕ) (i v e : ℕ) → i < length words → is_marked (set words i v) e ≡ (if e / 64 == i then bit_at v (e % 64) == 1 else is_marked words e)
marked_set words i v e within = rw (marked_get (set words i v) e, marked_get words e) (grind (arith, nat_tests, common_steps))

bit_more : (word bit k : ℕ) → bit < 64 → (bit_at (bit_or word (1 * 2 ^ bit % 2 ^ 64)) k == 1) ≡ (bit == k || bit_at word k == 1)
bit_more word bit k below =
    let has = bit_at_set_same w64 word bit below in let kept = bit_at_set_other w64 word bit below k in grind (arith, nat_tests)

-- one doubleword more, of words that may have been made longer
pub set_step : (old grown : List ℕ) (d e word : ℕ) → ((k : ℕ) → get_or grown k 0 ≡ get_or old k 0) → d / 64 < length grown → word ≡ get_or grown (d / 64) word
    → is_marked (set grown (d / 64) (bit_or word (1 * 2 ^ (d % 64) % 2 ^ 64))) e ≡ (d == e || is_marked old e)
set_step old grown d e word same within is =
    let here : word ≡ get_or grown (d / 64) 0 = is ∙ get_or_default_zero grown (d / 64) word within in
    rw (marked_set grown (d / 64) _ e within, bit_more word (d % 64) (e % 64) (omega arith), ← same_marks old grown same e, marked_get grown e)
    (grind (arith, nat_tests))

-- ---- a whole word

-- its doublewords
pub fill_step : (old grown : List ℕ) (i e : ℕ) → ((k : ℕ) → get_or grown k 0 ≡ get_or old k 0) → i < length grown
    → is_marked (set grown i (2 ^ 64 - 1)) e ≡ (e / 64 == i || is_marked old e)
fill_step old grown i e same within =
    rw (marked_set grown i _ e within, bit_at_ones 64 (e % 64) (omega arith), ← same_marks old grown same e) (grind (arith, nat_tests))

pub word_more : (d e : ℕ) → d % 64 ≡ 0 → (e / 64 == d / 64) ≡ (nat_le d e && nat_lt e (d + 64))
word_more d e first = grind (arith, nat_tests)

pub one_more : (d e : ℕ) → (d == e) ≡ (nat_le d e && nat_lt e (d + 1))
one_more d e = grind (arith, nat_tests)

-- ---- counting ranges by where they begin and end

-- ---- a partition point is a count

module _ (p : ℕ → Bool) (xs : List ℕ) (i : ℕ) (point : IsPartitionPoint (λ n. p n ≡ true) (λ n. p n ≡ false) xs i) (fits : i ≤ length xs) where
  front : (m : ℕ) → m ≤ length xs → count_by p (take m xs) ≡ min m i
  front zero within = omega arith
  front (suc m) within =
      let rest = front m (omega arith) in
      elim (cases_lt m i) [
        | inl below ↦ let more = rw add-one at (count_by_more_yes p xs m 0 (omega arith) (point.0 m 0 (omega arith) (omega arith))) in omega arith
        | inr past ↦ let same = rw add-one at (count_by_more_no p xs m 0 (omega arith) (point.1 m 0 (omega arith) (omega arith))) in omega arith
      ]

  -- as many pass as stand before the point
  pub count_from_point : count_by p xs ≡ i
  count_from_point = let all = rw take-length at (front (length xs) (omega arith)) in omega arith

-- ---- those that begin before the end of a range, and don't end before its first byte

module _ (a : Span) where
  one_of : (b : Span) → 0 < a.size → a.start + a.size < 2 ^ 64
      → cond (overlaps a b) 1 0 + cond (nat_lt (end_of b) (a.start + 1)) 1 0 ≡ cond (nat_lt (begin_of b) (a.start + a.size)) 1 0
  one_of b some near = grind (arith, nat_tests)

  pub times_from_counts : (ranges : List Span) → 0 < a.size → a.start + a.size < 2 ^ 64
      → times_named ranges a + count_below (a.start + 1) (map end_of ranges) ≡ count_below (a.start + a.size) (map begin_of ranges)
  times_from_counts [] some near = refl
  times_from_counts (b ∷ ranges) some near =
      omega (
        arith,
        sum_by-cons (λ s. cond (overlaps a s) 1 0) b ranges,
        sum_by-cons (λ n. cond (nat_lt n (a.start + 1)) 1 0) (end_of b) (map end_of ranges),
        sum_by-cons (λ n. cond (nat_lt n (a.start + a.size)) 1 0) (begin_of b) (map begin_of ranges),
        one_of b some near,
        times_from_counts ranges some near,
      )

  -- a range without bytes has none in common
  pub times_of_none : (ranges : List Span) → a.size ≡ 0 → times_named ranges a ≡ 0
  times_of_none ranges none = let any = none_overlaps a none ranges in grind (arith, nat_tests, counted (overlaps a) ranges)
