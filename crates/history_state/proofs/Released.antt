-- Pages of ranges that go are free again.
use Rattle.std.proofs.Common.{◌≡◌, ℕ, ◌||◌, Bool, true, false, not, List, [], ◌∷◌, refl, sym, ap, ◌∙◌}
use Rattle.std.specs.Prelude.{nat_eq}
use Rattle.std.specs.List.{Contains, filter, list_any}
use Rattle.std.proofs.lemmas.Bool.{eq-eqb, eqb-true, true≢false}
use Rattle.address_space.specs.Pages.{guest_pages, is_within}
use Rattle.history_event.specs.declared.event.Event.{Event}
use Rattle.history_event.specs.declared.event.Range.{Range}
use Rattle.history_state.specs.After.{after}
use Rattle.history_state.specs.Areas.{free_pages, released}
use Rattle.history_state.specs.Legal.{Lawful}
use Rattle.history_state.specs.Setting.{Machine}
use Rattle.history_state.specs.Step.{goes_with}
use Rattle.history_state.specs.Lemmas.Lists.{any_in, filter_alike, from_filter, in_any, in_filter}
use Rattle.history_state.specs.Lemmas.Map.{ranges_apart}

-- the range has the page
abbrev page_of : ℕ → Range → Bool
page_of page r = is_within r.address r.pages page

-- a page of the list is free where it passed
is_free : (f : ℕ → Bool) (xs : List ℕ) (x : ℕ) → Contains xs x → list_any (nat_eq x) (filter f xs) ≡ f x
is_free f xs x inside = by (f x) refl (list_any (nat_eq x) (filter f xs)) refl
  where
    by : (a : Bool) → f x ≡ a → (b : Bool) → list_any (nat_eq x) (filter f xs) ≡ b → list_any (nat_eq x) (filter f xs) ≡ f x
    by true e true g = g ∙ sym e
    by false e false g = g ∙ sym e
    by true e false g = absurd (true≢false (sym (in_any (nat_eq x) (filter f xs) x (in_filter f xs x inside e) (eq-eqb x x refl)) ∙ g))
    by false e true g =
        let at = any_in (nat_eq x) (filter f xs) g in
        let kept = from_filter f xs at.0 at.1 in
        absurd (true≢false (sym kept.1 ∙ ap f (sym (eqb-true x at.0 at.2)) ∙ e))

released_are : (f : ℕ → Bool) (gone : List Range) → released (filter f guest_pages) gone ≡ filter (λ page. f page || list_any (page_of page) gone) guest_pages
released_are f [] = filter_alike f (λ page. f page || false) guest_pages (λ x i. by (f x))
  where
    by : (t : Bool) → t ≡ (t || false)
    by true = refl
    by false = refl
released_are f (r ∷ gone) =
    ap (λ (free : List ℕ). released free gone) (filter_alike (λ page. list_any (nat_eq page) (filter f guest_pages) || is_within r.address r.pages page) (λ page. f page || page_of page r) guest_pages
    (λ x i. ap (λ (t : Bool). t || page_of x r) (is_free f guest_pages x i)))
    ∙ released_are (λ page. f page || page_of page r) gone
    ∙ filter_alike (λ page. (f page || page_of page r) || list_any (page_of page) gone) (λ page. f page || (page_of page r || list_any (page_of page) gone)) guest_pages
    (λ x i. by (f x) (page_of x r) (list_any (page_of x) gone))
  where
    by : (a b c : Bool) → ((a || b) || c) ≡ (a || (b || c))
    by true b c = refl
    by false b c = refl

-- a range goes or is kept
parted : (goes p : Range → Bool) (rs : List Range) → list_any p rs ≡ (list_any p (filter goes rs) || list_any p (filter (λ r. not (goes r)) rs))
parted goes p [] = refl
parted goes p (r ∷ rs) = by (goes r) refl (p r) refl (parted goes p rs)
  where
    either : (t : Bool) → true ≡ (t || true)
    either true = refl
    either false = refl

    by : (g : Bool) → goes r ≡ g → (t : Bool) → p r ≡ t → list_any p rs ≡ (list_any p (filter goes rs) || list_any p (filter (λ r. not (goes r)) rs))
        → list_any p (r ∷ rs) ≡ (list_any p (filter goes (r ∷ rs)) || list_any p (filter (λ r. not (goes r)) (r ∷ rs)))
    by true e true f rest = rw (e, f) refl
    by true e false f rest = rw (e, f) rest
    by false e true f rest = rw (e, f) (either (list_any p (filter goes rs)))
    by false e false f rest = rw (e, f) rest

pub released_free : (m : Machine) (journal : List Event) → Lawful m journal → (set : List ℕ)
    → released (free_pages (after journal).ranges) (filter (goes_with set) (after journal).ranges) ≡ free_pages (filter (λ r. not (goes_with set r)) (after journal).ranges)
unfolding free_pages
released_free m journal lawful set =
    released_are (λ page. not (list_any (page_of page) (after journal).ranges)) (filter (goes_with set) (after journal).ranges)
    ∙ filter_alike (λ page. not (list_any (page_of page) (after journal).ranges) || list_any (page_of page) (filter (goes_with set) (after journal).ranges))
    (λ page. not (list_any (page_of page) (filter (λ r. not (goes_with set r)) (after journal).ranges))) guest_pages
    (λ page i. ap (λ (t : Bool). not t || list_any (page_of page) (filter (goes_with set) (after journal).ranges)) (parted (goes_with set) (page_of page) (after journal).ranges)
    ∙ by page i (list_any (page_of page) (filter (goes_with set) (after journal).ranges)) refl (list_any (page_of page) (filter (λ r. not (goes_with set r)) (after journal).ranges)) refl)
  where
    by : (page : ℕ) → Contains guest_pages page → (g : Bool) → list_any (page_of page) (filter (goes_with set) (after journal).ranges) ≡ g
        → (k : Bool) → list_any (page_of page) (filter (λ r. not (goes_with set r)) (after journal).ranges) ≡ k → (not (g || k) || g) ≡ not k
    by page i true e true f =
        let r = any_in (page_of page) (filter (goes_with set) (after journal).ranges) e in
        let q = any_in (page_of page) (filter (λ r. not (goes_with set r)) (after journal).ranges) f in
        let went = from_filter (goes_with set) (after journal).ranges r.0 r.1 in
        let stays = from_filter (λ r. not (goes_with set r)) (after journal).ranges q.0 q.1 in
        let same : r.0 ≡ q.0 = (ranges_apart m journal lawful).one page r.0 q.0 went.0 stays.0 i r.2 q.2 in
        absurd (true≢false (sym stays.1 ∙ ap (λ (x : Range). not (goes_with set x)) (sym same) ∙ ap not went.1))
    by page i true e false f = refl
    by page i false e true f = refl
    by page i false e false f = refl
