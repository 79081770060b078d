-- Ranges that take pages one after another.
use Rattle.std.proofs.Common.{◌≡◌, ⊎_elim, ℕ, zero, suc, ◌<◌, ◌+◌, ◌*◌, Bool, true, false, not, cond, List, [], ◌∷◌, ◌++◌, append_assoc, take, get_or, length, refl, sym, ap, subst, ◌∙◌, arith}
use Rattle.std.specs.List.{Contains, filter, list_any}
use Rattle.std.proofs.lemmas.Bool.{true≢false}
use Rattle.std.proofs.lemmas.List.{append-nil}
use Rattle.std.proofs.lemmas.List.Elements.{Contains-append_left, Contains-append_right, Contains-append_cases}
use Rattle.address_space.specs.Pages.{AllFree, guest_pages, is_within, without}
use Rattle.history_event.specs.declared.event.Range.{Range}
use Rattle.history_state.specs.Areas.{free_pages}
use Rattle.history_state.specs.Lemmas.FreePages.{without_one}
use Rattle.history_state.specs.Lemmas.Lists.{any_in, from_filter, in_any, in_filter}
use Rattle.link_spaces.specs.ReservedPagesPart.Laid.{AreLaid}

all_pass : (xs : List ℕ) → xs ≡ filter (λ x. not false) xs
all_pass [] = refl
all_pass (x ∷ xs) = ap (λ (ys : List ℕ). x ∷ ys) (all_pass xs)

-- beside no range all pages are free
pub all_free : guest_pages ≡ free_pages []
unfolding free_pages
all_free = all_pass guest_pages

-- one range more
pub one_more : (regions new : List ℕ) (ranges : List Range) (r : Range) → regions ≡ free_pages ranges → new ≡ without regions r.address r.pages → new ≡ free_pages (ranges ++ r ∷ [])
one_more regions new ranges r are is = is ∙ ap (λ (free : List ℕ). without free r.address r.pages) are ∙ without_one ranges r

-- what is free beside some ranges is free beside fewer
free_beside : (some fewer : List Range) (page : ℕ) → ((r : Range) → Contains fewer r → Contains some r) → Contains (free_pages some) page → Contains (free_pages fewer) page
unfolding free_pages
free_beside some fewer page among free =
    let was = from_filter (λ p. not (list_any (λ (r : Range). is_within r.address r.pages p) some)) guest_pages page free in
    in_filter (λ p. not (list_any (λ (r : Range). is_within r.address r.pages p) fewer)) guest_pages page was.0 (by (list_any (λ (r : Range). is_within r.address r.pages page) fewer) refl was.1)
  where
    by : (b : Bool) → list_any (λ (r : Range). is_within r.address r.pages page) fewer ≡ b → not (list_any (λ (r : Range). is_within r.address r.pages page) some) ≡ true
        → not (list_any (λ (r : Range). is_within r.address r.pages page) fewer) ≡ true
    by false e was = ap not e
    by true e was =
        let at = any_in (λ (r : Range). is_within r.address r.pages page) fewer e in
        absurd (true≢false (sym was ∙ ap not (in_any (λ (r : Range). is_within r.address r.pages page) some at.0 (among at.0 at.1) at.2)))

pub laid_push : (before rest : List Range) (r : Range) → AreLaid before rest → AllFree (free_pages (before ++ rest)) r.address r.pages → AreLaid before (rest ++ r ∷ [])
laid_push before [] r laid free = (subst (λ (rs : List Range). AllFree (free_pages rs) r.address r.pages) (append-nil before) free, tt)
laid_push before (q ∷ rest) r laid free =
    (laid.0, laid_push (before ++ q ∷ []) rest r laid.1 (subst (λ (rs : List Range). AllFree (free_pages rs) r.address r.pages) (sym (append_assoc before (q ∷ []) rest)) free))

pub laid_at : (before ranges : List Range) (i : ℕ) (d : Range) → i < length ranges → AreLaid before ranges
    → AllFree (free_pages (before ++ take i ranges)) (get_or ranges i d).address (get_or ranges i d).pages
laid_at before [] i d lt laid = absurd (omega (arith, lt))
laid_at before (r ∷ ranges) zero d lt laid = subst (λ (rs : List Range). AllFree (free_pages rs) r.address r.pages) (sym (append-nil before)) laid.0
laid_at before (r ∷ ranges) (suc i) d lt laid =
    subst (λ (rs : List Range). AllFree (free_pages rs) (get_or ranges i d).address (get_or ranges i d).pages) (append_assoc before (r ∷ []) (take i ranges))
    (laid_at (before ++ r ∷ []) ranges i d (omega (arith, lt)) laid.1)

-- fewer ranges are laid, too
pub laid_filter : (p : Range → Bool) (before fewer ranges : List Range) → ((r : Range) → Contains fewer r → Contains before r) → AreLaid before ranges → AreLaid fewer (filter p ranges)
laid_filter p before fewer [] among laid = tt
laid_filter p before fewer (r ∷ ranges) among laid =
    at (p r) (laid_filter p (before ++ r ∷ []) (fewer ++ r ∷ []) ranges with_one laid.1)
    (laid_filter p (before ++ r ∷ []) fewer ranges (λ q inside. Contains-append_left before (r ∷ []) q (among q inside)) laid.1)
  where
    with_one : (q : Range) → Contains (fewer ++ r ∷ []) q → Contains (before ++ r ∷ []) q
    with_one q inside = ⊎_elim
        (λ (front : Contains fewer q). Contains-append_left before (r ∷ []) q (among q front))
        (λ (last : Contains (r ∷ []) q). Contains-append_right before (r ∷ []) q last)
        (Contains-append_cases fewer (r ∷ []) q inside)

    at : (b : Bool) → AreLaid (fewer ++ r ∷ []) (filter p ranges) → AreLaid fewer (filter p ranges) → AreLaid fewer (cond b (r ∷ filter p ranges) (filter p ranges))
    at true more same = ((λ k lt. free_beside before fewer (r.address + 4096 * k) among (laid.0 k lt)), more)
    at false more same = same
