-- Segments in ascending order, on pages of their own.
use Rattle.std.proofs.Common.{◌≡◌, ℕ, zero, suc, ◌+◌, ◌-◌, ◌*◌, ◌%◌, ◌^◌, ◌<◌, ◌≤◌, true, false, List, [], ◌∷◌, length, Some, None, nat_le, nat_lt, ◌⊎◌, add-one, if◌then◌else◌, get_or, refl, arith, subst, sym, ◌∙◌, inl, inr}
use Rattle.std.proofs.lemmas.Bool.{and_from, and_left, and_right, cases_lt, cases_order, cond-true, cond-false, le-leb, lt-leb, lt-ltb, le-ltb}
use Rattle.std.proofs.lemmas.Option.{get_or_from_slice_get, slice_get_read, slice_get_within}
use Rattle.std.specs.List.{slice_get}
use Rattle.std.specs.Option.{option_map_or}
use Rattle.ld_base.specs.declared.object.Object.{Object}
use Rattle.ld_base.specs.declared.object.Segment.{Segment}
use Rattle.seg_image.specs.Accepted.{Accepted, IsSegment}
use Rattle.seg_image.specs.Pages.{IsInside, end_of, has_page, high_of, low_of, pages_of, segment_at, start_of}
use Rattle.seg_image.specs.Plain.{IsNext}
use Rattle.seg_image.proofs.Found.{find_at, find_nowhere, find_same}

-- a segment's pages hold its memory
pub pages_hold : (g : Segment) → (start_of g ≤ g.vaddr) × (g.vaddr + g.memsz ≤ end_of g)
pages_hold g = (omega arith, omega arith)

pub in_page : (v : ℕ) (g : Segment) → start_of g ≤ v → v < end_of g → has_page v g ≡ true
in_page v g low high = and_from (nat_le (start_of g) v) (nat_lt v (end_of g)) (le-leb (start_of g) v low) (lt-ltb v (end_of g) high)

pub below_page : (v : ℕ) (g : Segment) → v < start_of g → has_page v g ≡ false
below_page v g low = and_left (nat_le (start_of g) v) (nat_lt v (end_of g)) (lt-leb (start_of g) v low)

pub above_page : (v : ℕ) (g : Segment) → end_of g ≤ v → has_page v g ≡ false
above_page v g high = and_right (nat_le (start_of g) v) (nat_lt v (end_of g)) (le-ltb v (end_of g) high)

-- the bytes of a doubleword lie in the pages of the same segments
pub same_page : (v i : ℕ) (g : Segment) → v % 8 ≡ 0 → i < 8 → has_page (v + i) g ≡ has_page v g
same_page v i g aligned small =
    elim (cases_lt v (start_of g)) [
      | inl below ↦ below_page (v + i) g (omega arith) ∙ sym (below_page v g below)
      | inr from ↦ elim (cases_lt v (end_of g)) [
        | inl inside ↦ in_page (v + i) g (omega arith) (omega arith) ∙ sym (in_page v g from inside)
        | inr above ↦ above_page (v + i) g (omega arith) ∙ sym (above_page v g above)
      ]
    ]

pub same_segment : (o : Object) (v i : ℕ) → v % 8 ≡ 0 → i < 8 → segment_at o (v + i) ≡ segment_at o v
unfolding segment_at
same_segment o v i aligned small = find_same (has_page (v + i)) (has_page v) o.segments (λ g. same_page v i g aligned small)

-- an index within a list has an element
element : {X : Type 0} (xs : List X) (k : ℕ) → k < length xs → (x : X) × (slice_get xs k ≡ Some x)
element [] k less = absurd (omega arith)
element (x ∷ xs) zero less = (x, refl)
element (x ∷ xs) (suc k) less = element xs k (omega arith)

-- how far the pages of so many segments reach
abbrev pub reached : Object → ℕ → ℕ
reached o zero = low_of o
reached o (suc n) = option_map_or end_of (slice_get o.segments n) 0

module _ (o : Object) (a : Accepted o) where
  pub segment_fits : (k : ℕ) (g : Segment) → slice_get o.segments k ≡ Some g → IsSegment g
  segment_fits k g is = subst IsSegment (get_or_from_slice_get o.segments k g g is) (a.segments k g (slice_get_within o.segments k g is))

  pub in_order : (i j : ℕ) (g h : Segment) → i < j → slice_get o.segments i ≡ Some g → slice_get o.segments j ≡ Some h → end_of g ≤ start_of h
  in_order i j g h less at_i at_j =
      let order = a.ordered i j g less (slice_get_within o.segments j h at_j) in
      let first = get_or_from_slice_get o.segments i g g at_i in
      let second = get_or_from_slice_get o.segments j h g at_j in
      rw (first, second) at order

  -- the segment in whose pages an address lies is the only one
  pub segment_is : (k : ℕ) (g : Segment) (v : ℕ) → slice_get o.segments k ≡ Some g → start_of g ≤ v → v < end_of g → segment_at o v ≡ Some g
  unfolding segment_at
  segment_is k g v at low high =
      find_at (has_page v) o.segments k g at (in_page v g low high)
      (λ j h less here. let order = in_order j k h g less here at in above_page v h (omega arith))

  -- the first page of all, and the end of the last
  pub low_is : (g : Segment) → slice_get o.segments 0 ≡ Some g → low_of o ≡ start_of g
  unfolding low_of
  low_is g at = rw at

  pub high_is : (g : Segment) → slice_get o.segments (length o.segments - 1) ≡ Some g → high_of o ≡ end_of g
  unfolding high_of
  high_is g at = rw at

  -- there is a first segment and a last one
  pub first : (g : Segment) × (slice_get o.segments 0 ≡ Some g)
  first = element o.segments 0 a.some

  pub last : (g : Segment) × (slice_get o.segments (length o.segments - 1) ≡ Some g)
  last = element o.segments (length o.segments - 1) (let some = a.some in omega arith)

  pub low_below : (k : ℕ) (g : Segment) → slice_get o.segments k ≡ Some g → low_of o ≤ start_of g
  low_below zero g at = let same = low_is g at in omega arith
  low_below (suc k) g at =
      let f = first in
      let same = low_is f.0 f.1 in
      let order = in_order 0 (suc k) f.0 g (omega arith) f.1 at in
      let fits = segment_fits 0 f.0 f.1 in
      omega arith

  pub high_above : (k : ℕ) (g : Segment) → slice_get o.segments k ≡ Some g → end_of g ≤ high_of o
  high_above k g at =
      let within = slice_get_within o.segments k g at in
      let l = last in
      let same = high_is l.0 l.1 in
      elim (cases_lt k (length o.segments - 1)) [
        | inl before ↦ (
            let order = in_order k (length o.segments - 1) g l.0 before at l.1 in
            let fits = segment_fits (length o.segments - 1) l.0 l.1 in
            omega arith)
        | inr from ↦ (
            let here : k ≡ length o.segments - 1 = omega arith in
            let one : slice_get o.segments (length o.segments - 1) ≡ Some g = subst (λ n. slice_get o.segments n ≡ Some g) here at in
            let is = high_is g one in
            omega arith)
      ]

  -- the pages fill what lies between
  pub all_pages : (low_of o % 4096 ≡ 0) × (low_of o + 4096 * pages_of o ≡ high_of o) × (low_of o ≤ high_of o) × (high_of o < 2 ^ 33)
  unfolding pages_of
  all_pages =
      let f = first in
      let l = last in
      let low = low_is f.0 f.1 in
      let high = high_is l.0 l.1 in
      let above = high_above 0 f.0 f.1 in
      let fits = segment_fits 0 f.0 f.1 in
      let fits_last = segment_fits (length o.segments - 1) l.0 l.1 in
      (omega arith, omega arith, omega arith, omega arith)

  -- an address of a segment's memory
  pub inside_pages : (v : ℕ) → IsInside o v → (low_of o ≤ v) × (v < low_of o + 4096 * pages_of o) × (low_of o % 4096 ≡ 0) × (low_of o + 4096 * pages_of o < 2 ^ 33)
  inside_pages v i =
      let low = low_below i.at i.segment i.is in
      let high = high_above i.at i.segment i.is in
      let all = all_pages in
      let hold = pages_hold i.segment in
      let from = i.low in
      let to = i.high in
      (omega arith, omega arith, omega arith, omega arith)

  pub low_under_high : low_of o ≤ high_of o
  low_under_high = all_pages.2

  -- the word that holds a place begins there
  pub at_place : (k v : ℕ) → low_of o + 8 * k ≤ v → v < low_of o + 8 * k + 8 → v % 8 ≡ 0 → low_of o + 8 * k ≡ v
  at_place k v low high aligned = let pages = all_pages in omega arith

  pub reached_more : (n : ℕ) (g : Segment) → slice_get o.segments n ≡ Some g → reached o (n + 1) ≡ end_of g
  reached_more n g at = rw (add-one, at)

  pub reached_all : reached o (length o.segments) ≡ low_of o + 4096 * pages_of o
  reached_all =
      let some = a.some in
      let count : suc (length o.segments - 1) ≡ length o.segments = omega arith in
      let end = high_is last.0 last.1 in
      let pages = all_pages in
      let is : reached o (suc (length o.segments - 1)) ≡ end_of last.0 = rw last.1 in
      let here : reached o (length o.segments) ≡ end_of last.0 = subst (λ n. reached o n ≡ end_of last.0) count is in
      omega arith

  -- the segments before reach no further
  ends_before : (j n : ℕ) (h : Segment) → j < n → n < length o.segments → slice_get o.segments j ≡ Some h → end_of h ≤ reached o n
  ends_before j zero h less within at = absurd (omega arith)
  ends_before j (suc n) h less within at =
      let m = element o.segments n (omega arith) in
      let is : reached o (suc n) ≡ end_of m.0 = rw m.1 in
      elim (cases_lt j n) [
        | inl before ↦ (let order = in_order j n h m.0 before at m.1 in let fits = segment_fits n m.0 m.1 in omega arith)
        | inr from ↦ (
            let same : j ≡ n = omega arith in
            let here : slice_get o.segments n ≡ Some h = rw same at at in
            let one : Some m.0 ≡ Some h = sym m.1 ∙ here in
            let equal : m.0 ≡ h = cc in
            rw (is, equal) (omega arith))
      ]

  reaches : (n : ℕ) (g : Segment) → slice_get o.segments n ≡ Some g → reached o n ≤ start_of g
  reaches zero g at = low_below zero g at
  reaches (suc n) g at =
      let within = slice_get_within o.segments (suc n) g at in
      let m = element o.segments n (omega arith) in
      let is : reached o (suc n) ≡ end_of m.0 = rw m.1 in
      let order = in_order n (suc n) m.0 g (omega arith) m.1 at in
      omega arith

  no_page : (n : ℕ) (g : Segment) (v : ℕ) → slice_get o.segments n ≡ Some g → reached o n ≤ v → v < start_of g → segment_at o v ≡ None
  unfolding segment_at
  no_page n g v at from below = find_nowhere (has_page v) o.segments (λ j h here. outside j h here (cases_order j n))
    where
      outside : (j : ℕ) (h : Segment) → slice_get o.segments j ≡ Some h → (j ≡ n) ⊎ ((j < n) ⊎ (n < j)) → has_page v h ≡ false
      outside j h here (inl same) =
          let there : slice_get o.segments n ≡ Some h = rw same at here in
          let one : Some g ≡ Some h = sym at ∙ there in
          let equal : g ≡ h = cc in
          below_page v h (rw (← equal) below)
      outside j h here (inr (inl before)) =
          let ends = ends_before j n h before (slice_get_within o.segments n g at) here in
          above_page v h (omega arith)
      outside j h here (inr (inr behind)) =
          let order = in_order n j g h behind at here in
          let fits = segment_fits n g at in
          below_page v h (omega arith)

  -- the segment of an index is the next one where the words reach so far
  pub is_next : (n count : ℕ) (g : Segment) → slice_get o.segments n ≡ Some g → low_of o + 8 * count ≡ reached o n → IsNext o g count
  is_next n count g at reach = record {
    before = (let below = reaches n g at in let fits = segment_fits n g at in omega arith);
    gap = λ v from below. by_start v (rw reach at from) below (cases_lt v (start_of g));
  }
    where
      by_start : (v : ℕ) → reached o n ≤ v → v < end_of g → (v < start_of g) ⊎ (start_of g ≤ v) → segment_at o v ≡ (if nat_le (start_of g) v then Some g else None)
      by_start v from below (inl under) = no_page n g v at from under ∙ sym (cond-false (nat_le (start_of g) v) (Some g) None (lt-leb (start_of g) v under))
      by_start v from below (inr above) = segment_is n g v at above below ∙ sym (cond-true (nat_le (start_of g) v) (Some g) None (le-leb (start_of g) v above))

  -- an element that is read of the segments, by another name of theirs
  pub read_at : (n : ℕ) (g : Segment) (items : List Segment) → items ≡ o.segments → n < length items → g ≡ get_or items n g → slice_get o.segments n ≡ Some g
  read_at n g items same within is = rw (← same) (slice_get_read items (length items) n g refl within is)

  pub next_read : (n count : ℕ) (g : Segment) (items : List Segment) → items ≡ o.segments → n < length items → g ≡ get_or items n g → low_of o + 8 * count ≡ reached o n
      → IsNext o g count
  next_read n count g items same within is reach = is_next n count g (read_at n g items same within is) reach
