-- The pages of guest memory, by their numbers.
use Rattle.std.proofs.Common.{◌≡◌, ◌⊎◌, ⊎_elim, ℕ, zero, suc, ◌+◌, ◌*◌, ◌<◌, ◌≤◌, true, false, ltb, leb, sym, subst, arith}
use Rattle.std.specs.List.{Contains, range_with_len}
use Rattle.std.proofs.lemmas.Bool.{and_left, and_right, cases_Bool, cases_lt, leb-true, ltb-true}
use Rattle.address_space.specs.Pages.{guest_pages, is_within, page_at}
use Rattle.history_state.specs.Lemmas.Lists.{from_map, here as first_in, in_map, later}
use Rattle.history_state.specs.Lemmas.Brought.{in_range}

pub range_has : (from n x : ℕ) → from ≤ x → x < from + n → Contains (range_with_len from n) x
range_has from zero x low high = absurd (omega (arith, low, high))
range_has from (suc n) x low high = ⊎_elim
    (λ (more : from < x). later from (range_with_len (from + 1) n) x (range_has (from + 1) n x (omega (arith, more)) (omega (arith, high))))
    (λ (no_more : x ≤ from). let e : from ≡ x = omega (arith, low, no_more) in subst (Contains (range_with_len from (suc n))) e (first_in from (range_with_len (from + 1) n)))
    (cases_lt from x)

-- the pages of guest memory by their numbers
pub page_there : (n : ℕ) → n < 2047 → Contains guest_pages (page_at n)
unfolding guest_pages
page_there n h = in_map page_at (range_with_len 0 2047) n (range_has 0 2047 n (omega arith) (omega (arith, h)))

pub page_number : (page : ℕ) → Contains guest_pages page → (n : ℕ) × (n < 2047) × (page ≡ 0x10000 + 4096 * n)
unfolding guest_pages
page_number page h =
    let at = from_map page_at (range_with_len 0 2047) page h in
    let low = (in_range 0 2047 at.0 at.1).1 in
    let high : at.0 < 0 + 2047 = low in
    (at.0, omega (arith, high), sym at.2)

-- outside a range
pub outside : (address count page : ℕ) → (page < address) ⊎ (address + 4096 * count ≤ page) → is_within address count page ≡ false
outside address count page out = ⊎_elim
    (λ (h : page < address). and_left (leb address page) (ltb page (address + 4096 * count)) (below address page h))
    (λ (h : address + 4096 * count ≤ page). and_right (leb address page) (ltb page (address + 4096 * count)) (above page (address + 4096 * count) h))
    out
  where
    below : (a p : ℕ) → p < a → leb a p ≡ false
    below a p h = ⊎_elim (λ (t : leb a p ≡ true). absurd (let le : a ≤ p = leb-true a p t in omega (arith, h, le))) (λ (f : leb a p ≡ false). f) (cases_Bool (leb a p))

    above : (p b : ℕ) → b ≤ p → ltb p b ≡ false
    above p b h = ⊎_elim (λ (t : ltb p b ≡ true). absurd (let lt : p < b = ltb-true p b t in omega (arith, h, lt))) (λ (f : ltb p b ≡ false). f) (cases_Bool (ltb p b))
