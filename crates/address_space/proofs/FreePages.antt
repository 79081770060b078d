-- Marks, and the list of free pages that they stand for.
use Rattle.std.proofs.Common.{◌≡◌, ℕ, ◌+◌, ◌-◌, ◌*◌, ◌/◌, ◌%◌, ◌<◌, ◌≤◌, Bool, true, false, not, ◌&&◌, ◌||◌, cond, List, [], ◌∷◌, map, get_or, length, zero, suc, arith, refl, sym, subst, ap, ◌∙◌, ◌⊎◌, inl, inr, ⊎_elim}
use Rattle.std.specs.Prelude.{nat_eq, Contains}
use Rattle.std.specs.List.{All, filter, list_any, range_with_len}
use Rattle.std.proofs.lemmas.List.FromFn.{length-map-range_with_len, get_or-map-range_with_len}
use Rattle.std.proofs.lemmas.List.Elements.{All-contains, All-contains_itself, All-filter, All-tail, All-head, filter_passes, Contains-append_right}
use Rattle.std.proofs.lemmas.List.Folds.{list_any_at}
use Rattle.std.proofs.lemmas.Bool.{cases_lt, eqb-true, eq-eqb, lt-ltb, le-ltb, le-leb, lt-leb, and_left, and_right, and_from, or_right, both_ways}
use Rattle.std.proofs.Math.Bool.{and-true, or-false}
use Rattle.std.proofs.lemmas.Map.Views.{any-filter_same}
use Rattle.address_space.specs.Pages.{AllFree, AllInUse, Fits, IsFirstFit, guest_pages, is_within, page_at, page_size, together_with, without}
use Rattle.address_space.specs.Marks.{AllMarked, FitsAt, MarksAs, is_marked, marked_pages}
use Rattle.address_space.proofs.Scan.{marked_within}

-- ---- lists

-- two tests that agree at each element of a list keep the same elements
filter_agree_on : (t u : ℕ → Bool) (xs : List ℕ) → All (λ x. t x ≡ u x) xs → filter t xs ≡ filter u xs
filter_agree_on t u [] all = refl
filter_agree_on t u (x ∷ xs) all =
    let rest = filter_agree_on t u xs (All-tail (λ y. t y ≡ u y) x xs all) in
    let first = All-head (λ y. t y ≡ u y) x xs all in
    ap (λ b. cond b (x ∷ filter t xs) (filter t xs)) first ∙ ap (λ ys. cond (u x) (x ∷ ys) ys) rest

-- a test that each element passes keeps all
filter_all : (t : ℕ → Bool) (xs : List ℕ) → All (λ x. t x ≡ true) xs → filter t xs ≡ xs
filter_all t [] all = refl
filter_all t (x ∷ xs) all =
    ap (λ b. cond b (x ∷ filter t xs) (filter t xs)) (All-head (λ y. t y ≡ true) x xs all)
    ∙ ap (λ ys. x ∷ ys) (filter_all t xs (All-tail (λ y. t y ≡ true) x xs all))

-- what passes two tests, one after the other
filter-filter : (t u : ℕ → Bool) (xs : List ℕ) → filter t (filter u xs) ≡ filter (λ x. u x && t x) xs
filter-filter t u [] = refl
filter-filter t u (x ∷ xs) =
    let both = filter (λ y. u y && t y) xs in
    let rest = filter-filter t u xs in
    elim (u x) as (λ b. filter t (cond b (x ∷ filter u xs) (filter u xs)) ≡ cond (b && t x) (x ∷ both) both)
    [ true ↦ ap (λ ys. cond (t x) (x ∷ ys) ys) rest | false ↦ rest ]

-- an element that passes is kept
kept_at : (t : ℕ → Bool) (xs : List ℕ) (x k : ℕ) → k < length xs → get_or xs k x ≡ x → t x ≡ true → Contains (filter t xs) x
kept_at t [] x k within same passes = absurd (omega arith)
kept_at t (y ∷ ys) x zero within same passes =
    subst (λ (b : Bool). Contains (cond b (y ∷ filter t ys) (filter t ys)) x) (sym (ap t same ∙ passes)) (0, omega arith, same)
kept_at t (y ∷ ys) x (suc k) within same passes =
    let rest = kept_at t ys x k (omega arith) same passes in
    elim (t y) as (λ b. Contains (cond b (y ∷ filter t ys) (filter t ys)) x)
    [ true ↦ Contains-append_right (y ∷ []) (filter t ys) x rest | false ↦ rest ]

-- ---- the pages that may be given away

-- the page of this number is one of so many from the first on
page_among : (n k : ℕ) → k < n → Contains (map page_at (range_with_len 0 n)) (page_at k)
page_among n k small =
    let len = length-map-range_with_len page_at 0 n in
    (k, omega arith, get_or-map-range_with_len page_at 0 n k k (page_at k) small (omega arith))

number_among : (n page : ℕ) → Contains (map page_at (range_with_len 0 n)) page → (k : ℕ) × (k < n) × (page ≡ page_at k)
number_among n page there =
    let len = length-map-range_with_len page_at 0 n in
    let small : there.0 < n = omega arith in
    (there.0, small, sym there.2 ∙ get_or-map-range_with_len page_at 0 n there.0 there.0 page small (omega arith))

all_among : (P : ℕ → Type 0) (n : ℕ) → ((k : ℕ) → k < n → P (page_at k)) → All P (map page_at (range_with_len 0 n))
all_among P n each k d within =
    let len = length-map-range_with_len page_at 0 n in
    let small : k < n = omega arith in
    subst P (sym (get_or-map-range_with_len page_at 0 n k k d small (omega arith))) (each k small)

guest_page : (k : ℕ) → k < 2047 → Contains guest_pages (page_at k)
unfolding guest_pages
guest_page k small = page_among 2047 k small

pub guest_number : (page : ℕ) → Contains guest_pages page → (k : ℕ) × (k < 2047) × (page ≡ page_at k)
unfolding guest_pages
guest_number page there = number_among 2047 page there

all_guest : (P : ℕ → Type 0) → ((k : ℕ) → k < 2047 → P (page_at k)) → All P guest_pages
unfolding guest_pages
all_guest P each = all_among P 2047 each

-- ---- marks

-- the mark of the page of this number
is_marked_at : (marks : List Bool) (k : ℕ) → is_marked marks (page_at k) ≡ get_or marks k false
is_marked_at marks k =
    let number : (page_at k - page_at 0) / page_size ≡ k = omega arith in
    ap (λ n. get_or marks n false) number

-- a page that is marked is one of the marked pages, and each of them is
page_marked : (marks : List Bool) (k : ℕ) → k < 2047 → get_or marks k false ≡ true → Contains (marked_pages marks) (page_at k)
page_marked marks k small mark =
    let there = guest_page k small in
    kept_at (is_marked marks) guest_pages (page_at k) there.0 there.1 there.2 (is_marked_at marks k ∙ mark)

number_marked : (marks : List Bool) (page : ℕ) → Contains (marked_pages marks) page →
    (k : ℕ) × (k < 2047) × (page ≡ page_at k) × (get_or marks k false ≡ true)
number_marked marks page there =
    let passes = All-contains (λ p. is_marked marks p ≡ true) (marked_pages marks) page (filter_passes (is_marked marks) guest_pages) there in
    let all = All-filter (is_marked marks) (Contains guest_pages) guest_pages (All-contains_itself guest_pages) in
    let number = guest_number page (All-contains (Contains guest_pages) (marked_pages marks) page all there) in
    (number.0, number.1, number.2, sym (is_marked_at marks number.0) ∙ ap (is_marked marks) (sym number.2) ∙ passes)

-- all marks set stand for all pages
pub marked_pages-all : (marks : List Bool) → ((k : ℕ) → k < 2047 → get_or marks k false ≡ true) → marked_pages marks ≡ guest_pages
marked_pages-all marks each =
    filter_all (is_marked marks) guest_pages (all_guest (λ p. is_marked marks p ≡ true) (λ k small. is_marked_at marks k ∙ each k small))

-- ---- what fits

pub Fits-marked : (marks : List Bool) (pages align start : ℕ) → length marks ≤ 2047 → FitsAt marks pages align start →
    Fits (marked_pages marks) pages align (page_at start)
Fits-marked marks pages align start short fits = record {
  aligned = fits.aligned;
  room = λ k h.
      let mark = fits.marked k h in
      let within = marked_within marks (start + k) mark in
      let same : page_at (start + k) ≡ page_at start + page_size * k = omega arith in
      subst (Contains (marked_pages marks)) same (page_marked marks (start + k) (omega arith) mark);
}

pub place_of_Fits : (marks : List Bool) (pages align address : ℕ) → 0 < pages → Fits (marked_pages marks) pages align address →
    (start : ℕ) × (address ≡ page_at start) × FitsAt marks pages align start
place_of_Fits marks pages align address some fits =
    let first = number_marked marks (address + page_size * 0) (fits.room 0 some) in
    let start = first.0 in
    let same : address ≡ page_at start = let e = first.2 in omega arith in (
      start,
      same,
      record {
        aligned = ap (λ a. a % align) (sym same) ∙ fits.aligned;
        marked = λ k h.
            let there = number_marked marks (address + page_size * k) (fits.room k h) in
            let number : there.0 ≡ start + k = let e = there.2 in omega arith in
            ap (λ n. get_or marks n false) (sym number) ∙ there.3;
      },
    )

pub IsFirstFit-marked : (marks : List Bool) (pages align start : ℕ) → 0 < pages → length marks ≤ 2047 →
    FitsAt marks pages align start → ((other : ℕ) → FitsAt marks pages align other → start ≤ other) →
    IsFirstFit (marked_pages marks) pages align (page_at start)
IsFirstFit-marked marks pages align start some short fits least = record {
  fits = Fits-marked marks pages align start short fits;
  least = λ other f.
      let place = place_of_Fits marks pages align other some f in
      let e = place.1 in
      let h = least place.0 place.2 in
      omega arith;
}

-- ---- ranges

-- free pages may be given away
pub AllFree-guest : (marks : List Bool) (address pages : ℕ) → AllFree (marked_pages marks) address pages → AllFree guest_pages address pages
AllFree-guest marks address pages free k h =
    All-contains (Contains guest_pages) (marked_pages marks) _
    (All-filter (is_marked marks) (Contains guest_pages) guest_pages (All-contains_itself guest_pages)) (free k h)

-- the numbers of a range of pages that may be given away
pub range_numbers : (address pages : ℕ) → 0 < pages → AllFree guest_pages address pages → (k : ℕ) × (address ≡ page_at k) × (k + pages ≤ 2047)
range_numbers address pages some all =
    let first = guest_number _ (all 0 some) in
    let last = guest_number _ (all (pages - 1) (omega arith)) in
    let here = first.2 in
    let there = last.2 in
    let small = last.1 in
    (first.0, omega arith, omega arith)

-- pages that may be given away are in use once they are taken from the free ones
pub AllInUse-without : (free : List ℕ) (address pages : ℕ) → AllFree guest_pages address pages → AllInUse (without free address pages) address pages
AllInUse-without free address pages all k h =
    let page = address + page_size * k in
    let within : is_within address pages page ≡ true =
    and_from _ _ (le-leb address page (omega arith)) (lt-ltb page (address + page_size * pages) (omega arith)) in (
      all k h,
      λ there.
          both_ways (not (is_within address pages page)) (ap not within)
          (All-contains (λ p. not (is_within address pages p) ≡ true) (without free address pages) page
          (filter_passes (λ p. not (is_within address pages p)) free) there),
    )

-- so many pages from an address on are those from a place on
abbrev pub IsPlaceOf : ℕ → ℕ → ℕ → Type 0
IsPlaceOf address pages start = 0 < pages → address ≡ page_at start

pub AllFree-marked : (marks : List Bool) (address pages start : ℕ) → IsPlaceOf address pages start → start + pages ≤ 2047 →
    AllMarked marks start pages → AllFree (marked_pages marks) address pages
AllFree-marked marks address pages start place short marked k h =
    let here = place (omega arith) in
    let same : page_at (start + k) ≡ address + page_size * k = omega arith in
    subst (Contains (marked_pages marks)) same (page_marked marks (start + k) (omega arith) (marked k h))

pub AllMarked-free : (marks : List Bool) (address pages start : ℕ) → IsPlaceOf address pages start →
    AllFree (marked_pages marks) address pages → AllMarked marks start pages
AllMarked-free marks address pages start place free k h =
    let here = place (omega arith) in
    let there = number_marked marks (address + page_size * k) (free k h) in
    let number : there.0 ≡ start + k = let e = there.2 in omega arith in
    ap (λ n. get_or marks n false) (sym number) ∙ there.3

within_none : (address page : ℕ) → is_within address 0 page ≡ false
within_none address page = ⊎_elim
    (λ (before : page < address). and_left _ _ (lt-leb address page before))
    (λ (behind : address ≤ page). and_right _ _ (le-ltb page (address + page_size * 0) (omega arith)))
    (cases_lt page address)

within_before : (address pages start k : ℕ) → IsPlaceOf address pages start → k < start → is_within address pages (page_at k) ≡ false
within_before address zero start k place before = within_none address (page_at k)
within_before address (suc n) start k place before =
    let here = place (omega arith) in
    and_left _ _ (lt-leb address (page_at k) (omega arith))

within_behind : (address pages start k : ℕ) → IsPlaceOf address pages start → start + pages ≤ k → is_within address pages (page_at k) ≡ false
within_behind address zero start k place behind = within_none address (page_at k)
within_behind address (suc n) start k place behind =
    let here = place (omega arith) in
    and_right _ _ (le-ltb (page_at k) (address + page_size * suc n) (omega arith))

within_range : (address pages start k : ℕ) → IsPlaceOf address pages start → start ≤ k → k < start + pages → is_within address pages (page_at k) ≡ true
within_range address pages start k place low high =
    let here = place (omega arith) in
    and_from _ _ (le-leb address (page_at k) (omega arith)) (lt-ltb (page_at k) (address + page_size * pages) (omega arith))

-- a range of marks is given one value: what is so outside of it and inside of it is so of each page
each_page : (P : ℕ → Type 0) (address pages start : ℕ) → IsPlaceOf address pages start →
    ((k : ℕ) → k < 2047 → is_within address pages (page_at k) ≡ false → (k < start) ⊎ (start + pages ≤ k) → P (page_at k)) →
    ((k : ℕ) → k < 2047 → is_within address pages (page_at k) ≡ true → start ≤ k → k < start + pages → P (page_at k)) →
    All P guest_pages
each_page P address pages start place outside inside = all_guest P (λ k small. ⊎_elim
    (λ (before : k < start). outside k small (within_before address pages start k place before) (inl before))
    (λ (low : start ≤ k). ⊎_elim
    (λ (high : k < start + pages). inside k small (within_range address pages start k place low high) low high)
    (λ (behind : start + pages ≤ k). outside k small (within_behind address pages start k place behind) (inr behind))
    (cases_lt k (start + pages)))
    (cases_lt k start))

unchanged : (old new : List Bool) (start pages : ℕ) (value : Bool) → MarksAs old start pages value new →
    (k : ℕ) → (k < start) ⊎ (start + pages ≤ k) → is_marked new (page_at k) ≡ is_marked old (page_at k)
unchanged old new start pages value marks k where' =
    is_marked_at new k ∙ ⊎_elim (marks.before k) (marks.behind k) where' ∙ sym (is_marked_at old k)

-- where a range of marks is cleared, its pages are gone from the free pages
pub marked_pages-without : (old new : List Bool) (address pages start : ℕ) → IsPlaceOf address pages start →
    MarksAs old start pages false new → marked_pages new ≡ without (marked_pages old) address pages
marked_pages-without old new address pages start place marks =
    filter_agree_on (is_marked new) (λ p. is_marked old p && not (is_within address pages p)) guest_pages
    (each_page (λ p. is_marked new p ≡ (is_marked old p && not (is_within address pages p))) address pages start place
    (λ k small out where'.
    unchanged old new start pages false marks k where' ∙ sym (and-true (is_marked old (page_at k)))
    ∙ ap (λ b. is_marked old (page_at k) && not b) (sym out))
    (λ k small in' low high.
    is_marked_at new k ∙ marks.inside k low high
    ∙ sym (and_right (is_marked old (page_at k)) (not (is_within address pages (page_at k))) (ap not in'))))
    ∙ sym (filter-filter (λ p. not (is_within address pages p)) (is_marked old) guest_pages)

-- a page is listed as free exactly where it is marked
listed_at : (marks : List Bool) (k : ℕ) → k < 2047 → list_any (nat_eq (page_at k)) (marked_pages marks) ≡ is_marked marks (page_at k)
listed_at marks k small =
    let there = guest_page k small in
    let listed : list_any (nat_eq (page_at k)) guest_pages ≡ true =
    list_any_at (nat_eq (page_at k)) guest_pages there.0 (page_at k) there.1 (eq-eqb (page_at k) _ (sym there.2)) in
    any-filter_same (nat_eq (page_at k)) (is_marked marks) (is_marked marks (page_at k))
    (λ p e. ap (is_marked marks) (sym (eqb-true (page_at k) p e))) guest_pages
    ∙ ap (λ b. is_marked marks (page_at k) && b) listed
    ∙ and-true (is_marked marks (page_at k))

-- where a range of marks is set, its pages are free too
pub marked_pages-together_with : (old new : List Bool) (address pages start : ℕ) → IsPlaceOf address pages start →
    MarksAs old start pages true new → marked_pages new ≡ together_with (marked_pages old) address pages
marked_pages-together_with old new address pages start place marks =
    let listed : ℕ → Bool = λ p. list_any (nat_eq p) (marked_pages old) in
    filter_agree_on (is_marked new) (λ p. listed p || is_within address pages p) guest_pages
    (each_page (λ p. is_marked new p ≡ (listed p || is_within address pages p)) address pages start place
    (λ k small out where'.
    unchanged old new start pages true marks k where' ∙ sym (listed_at old k small)
    ∙ sym (or-false (listed (page_at k))) ∙ ap (λ b. listed (page_at k) || b) (sym out))
    (λ k small in' low high.
    is_marked_at new k ∙ marks.inside k low high
    ∙ sym (or_right (listed (page_at k)) (is_within address pages (page_at k)) in')))

-- where a range of marks was set and is cleared, its pages are in use
pub AllInUse-cleared : (old new : List Bool) (address pages start : ℕ) → IsPlaceOf address pages start → start + pages ≤ 2047 →
    AllMarked old start pages → MarksAs old start pages false new → AllInUse (marked_pages new) address pages
AllInUse-cleared old new address pages start place short marked marks =
    subst (λ (free : List ℕ). AllInUse free address pages)
    (sym (marked_pages-without old new address pages start place marks))
    (AllInUse-without (marked_pages old) address pages
    (AllFree-guest old address pages (AllFree-marked old address pages start place short marked)))
