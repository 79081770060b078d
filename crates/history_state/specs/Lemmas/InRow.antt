-- Ranges that stand one after another from the start of guest memory on: the next one is the first fit.
use Rattle.std.proofs.Common.{◌≡◌, inr, ⊎_elim, ℕ, ◌+◌, ◌*◌, ◌<◌, ◌≤◌, Bool, true, false, not, ◌||◌, ltb, leb, List, [], ◌∷◌, refl, sym, ap, subst, ◌∙◌, arith}
use Rattle.std.specs.Prelude.{◌%◌}
use Rattle.std.specs.List.{Contains, list_any}
use Rattle.std.proofs.lemmas.Bool.{and_from, cases_lt, le-leb, leb-true, lt-ltb, not-true, or_left, or_right, true≢false}
use Rattle.address_space.specs.Pages.{IsFirstFit, guest_pages, is_within, page_at, without}
use Rattle.history_event.specs.declared.event.Range.{Range}
use Rattle.history_state.specs.Areas.{Area, AreGiven, IsGiven, anywhere, free_pages}
use Rattle.history_state.specs.Lemmas.Lists.{from_filter, in_filter}
use Rattle.history_state.specs.Lemmas.Pages.{outside, page_number, page_there}

-- from the page of one number to that of another
abbrev pub AreInRow : ℕ → List Range → ℕ → Type 0
AreInRow n [] m = n ≡ m
AreInRow n (r ∷ rest) m = (r.address ≡ page_at n) × AreInRow (n + r.pages) rest m

-- the free pages are those of guest memory from the one of this number on
pub record IsFrom (free : List ℕ) (n : ℕ) : Type 0 where
  pub there : (k : ℕ) → k < 2047 → n ≤ k → Contains free (page_at k)
  pub only : (page : ℕ) → Contains free page → Contains guest_pages page × (page_at n ≤ page)

abbrev any_has : List Range → ℕ → Bool
any_has ranges page = list_any (λ (r : Range). is_within r.address r.pages page) ranges

inside : (n count page : ℕ) → page_at n ≤ page → page < page_at (n + count) → is_within (page_at n) count page ≡ true
inside n count page low high =
    and_from (leb (page_at n) page) (ltb page (page_at n + 4096 * count)) (le-leb _ _ low) (lt-ltb _ _ (omega (arith, high)))

row_has : (n : ℕ) (ranges : List Range) (m page : ℕ) → AreInRow n ranges m → page_at n ≤ page → page < page_at m → any_has ranges page ≡ true
row_has n [] m page row low high = absurd (omega (arith, row, low, high))
row_has n (r ∷ rest) m page row low high = ⊎_elim
    (λ (h : page < page_at (n + r.pages)).
    or_left (is_within r.address r.pages page) (any_has rest page)
    (subst (λ (a : ℕ). is_within a r.pages page ≡ true) (sym row.0) (inside n r.pages page low h)))
    (λ (h : page_at (n + r.pages) ≤ page). or_right (is_within r.address r.pages page) (any_has rest page) (row_has (n + r.pages) rest m page row.1 h high))
    (cases_lt page (page_at (n + r.pages)))

row_up : (n : ℕ) (ranges : List Range) (m : ℕ) → AreInRow n ranges m → n ≤ m
row_up n [] m row = omega (arith, row)
row_up n (r ∷ rest) m row = let more = row_up (n + r.pages) rest m row.1 in omega (arith, more)

row_lacks : (n : ℕ) (ranges : List Range) (m page : ℕ) → AreInRow n ranges m → page_at m ≤ page → any_has ranges page ≡ false
row_lacks n [] m page row high = refl
row_lacks n (r ∷ rest) m page row high =
    let up = row_up (n + r.pages) rest m row.1 in
    let first : is_within r.address r.pages page ≡ false = subst (λ (a : ℕ). is_within a r.pages page ≡ false) (sym row.0)
    (outside (page_at n) r.pages page (inr (omega (arith, up, high)))) in
    ap (λ (b : Bool). b || any_has rest page) first ∙ row_lacks (n + r.pages) rest m page row.1 high

pub free_from : (ranges : List Range) (m : ℕ) → AreInRow 0 ranges m → IsFrom (free_pages ranges) m
unfolding free_pages
free_from ranges m row = record {
  there = λ k few high. in_filter (λ page. not (any_has ranges page)) guest_pages (page_at k) (page_there k few)
      (ap not (row_lacks 0 ranges m (page_at k) row (omega (arith, high))));
  only = λ page h.
      let kept = from_filter (λ p. not (any_has ranges p)) guest_pages page h in
      let at = page_number page kept.0 in
      let low : page_at 0 ≤ page = let is : page ≡ 0x10000 + 4096 * at.0 = at.2 in omega (arith, is) in (
        kept.0,
        ⊎_elim
            (λ (lt : page < page_at m). absurd (true≢false (sym (row_has 0 ranges m page row low lt) ∙ not-true (any_has ranges page) kept.1)))
            (λ (le : page_at m ≤ page). le)
            (cases_lt page (page_at m)),
      );
}

pub fits_next : (free : List ℕ) (n pages : ℕ) → IsFrom free n → page_at n % 4096 ≡ 0 → 1 ≤ pages → n + pages ≤ 2047 → IsFirstFit free pages 4096 (page_at n)
fits_next free n pages from aligned some few = record {
  fits = record {
    aligned = aligned;
    room = λ k h. let e : page_at (n + k) ≡ page_at n + 4096 * k = omega arith in subst (Contains free) e (from.there (n + k) (omega (arith, h, few)) (omega arith));
  };
  least = λ other fits. let low : page_at n ≤ other + 4096 * 0 = (from.only (other + 4096 * 0) (fits.room 0 (omega (arith, some)))).1 in omega (arith, low);
}

pub left_from : (free : List ℕ) (n pages : ℕ) → IsFrom free n → IsFrom (without free (page_at n) pages) (n + pages)
left_from free n pages from = record {
  there = λ k few high. in_filter (λ page. not (is_within (page_at n) pages page)) free (page_at k) (from.there k few (omega (arith, high)))
      (ap not (outside (page_at n) pages (page_at k) (inr (omega (arith, high)))));
  only = λ page h.
      let kept = from_filter (λ p. not (is_within (page_at n) pages p)) free page h in
      let was = from.only page kept.0 in (
        was.0,
        ⊎_elim
            (λ (lt : page < page_at (n + pages)). absurd (true≢false (sym (inside n pages page was.1 lt) ∙ not-true (is_within (page_at n) pages page) kept.1)))
            (λ (le : page_at (n + pages) ≤ page). le)
            (cases_lt page (page_at (n + pages))),
      );
}

-- each area stands right behind the one before
abbrev pub StandInRow : ℕ → List Area → List Range → Type 0
StandInRow n [] [] = Unit {0}
StandInRow n [] (r ∷ ranges) = ⊥
StandInRow n (area ∷ rest) [] = ⊥
StandInRow n (area ∷ rest) (r ∷ ranges) =
    (area ≡ record { pages = r.pages; place = anywhere 4096; purpose = r.purpose })
    × (r.address ≡ page_at n) × (page_at n % 4096 ≡ 0) × (leb 1 r.pages ≡ true) × (leb (n + r.pages) 2047 ≡ true)
    × StandInRow (n + r.pages) rest ranges

pub given_in_row : (free : List ℕ) (n : ℕ) (areas : List Area) (ranges : List Range) → IsFrom free n → StandInRow n areas ranges
    → (left : List ℕ) × AreGiven free areas ranges left
given_in_row free n [] [] from stand = (free, refl)
given_in_row free n [] (r ∷ ranges) from stand = absurd stand
given_in_row free n (area ∷ rest) [] from stand = absurd stand
given_in_row free n (area ∷ rest) (r ∷ ranges) from stand =
    let next : IsFrom (without free r.address r.pages) (n + r.pages) =
    subst (λ (a : ℕ). IsFrom (without free a r.pages) (n + r.pages)) (sym stand.1) (left_from free n r.pages from) in
    let more = given_in_row (without free r.address r.pages) (n + r.pages) rest ranges next stand.5 in
    let fit : IsFirstFit free r.pages 4096 r.address = subst (λ (a : ℕ). IsFirstFit free r.pages 4096 a) (sym stand.1)
    (fits_next free n r.pages from stand.2 (leb-true _ _ stand.3) (leb-true _ _ stand.4)) in
    (more.0, (subst (λ (a : Area). IsGiven free a r) (sym stand.0) (record { pages = refl; purpose = refl; stands = fit }), more.1))
