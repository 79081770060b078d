-- Pages that are given away are free no more.
use Rattle.std.proofs.Common.{◌≡◌, ℕ, ◌||◌, ◌&&◌, Bool, true, false, not, List, [], ◌∷◌, ◌++◌, append_assoc, refl, sym, ap, ◌∙◌}
use Rattle.std.proofs.lemmas.List.{append-nil}
use Rattle.std.specs.List.{filter, list_any}
use Rattle.address_space.specs.Pages.{guest_pages, is_within, without}
use Rattle.history_event.specs.declared.event.Range.{Range}
use Rattle.history_state.specs.Areas.{Area, AreGiven, free_pages}

-- what passes two tests passes one that is both
both_pass : (p q r : ℕ → Bool) → ((x : ℕ) → r x ≡ (q x && p x)) → (xs : List ℕ) → filter p (filter q xs) ≡ filter r xs
both_pass p q r is [] = refl
both_pass p q r is (x ∷ xs) = by (q x) (p x) refl refl (both_pass p q r is xs)
  where
    by : (a b : Bool) → q x ≡ a → p x ≡ b → filter p (filter q xs) ≡ filter r xs → filter p (filter q (x ∷ xs)) ≡ filter r (x ∷ xs)
    by true true e f rest = rw (e, f, is x ∙ ap (λ (t : Bool). t && p x) e ∙ f) (ap (λ (ys : List ℕ). x ∷ ys) rest)
    by true false e f rest = rw (e, f, is x ∙ ap (λ (t : Bool). t && p x) e ∙ f) rest
    by false b e f rest = rw (e, is x ∙ ap (λ (t : Bool). t && p x) e) rest

any_more : (p : Range → Bool) (rs : List Range) (r : Range) → not (list_any p (rs ++ r ∷ [])) ≡ (not (list_any p rs) && not (p r))
any_more p [] r = by (p r)
  where
    by : (t : Bool) → not (t || false) ≡ not t
    by true = refl
    by false = refl
any_more p (q ∷ rs) r = by (p q) (any_more p rs r)
  where
    by : (t : Bool) → not (list_any p (rs ++ r ∷ [])) ≡ (not (list_any p rs) && not (p r)) → not (t || list_any p (rs ++ r ∷ [])) ≡ (not (t || list_any p rs) && not (p r))
    by true rest = refl
    by false rest = rest

-- one range more
pub without_one : (rs : List Range) (r : Range) → without (free_pages rs) r.address r.pages ≡ free_pages (rs ++ r ∷ [])
unfolding free_pages
without_one rs r = both_pass (λ page. not (is_within r.address r.pages page)) (λ page. not (list_any (λ (q : Range). is_within q.address q.pages page) rs)) (λ page. not (list_any (λ (q : Range). is_within q.address q.pages page) (rs ++ r ∷ [])))
    (λ page. any_more (λ (q : Range). is_within q.address q.pages page) rs r) guest_pages

-- so many more
given_free_from : (free : List ℕ) (areas : List Area) (ranges : List Range) (left : List ℕ) (rs : List Range) → free ≡ free_pages rs → AreGiven free areas ranges left → left ≡ free_pages (rs ++ ranges)
given_free_from free [] [] left rs is given = given ∙ is ∙ ap free_pages (sym (append-nil rs))
given_free_from free [] (r ∷ ranges) left rs is given = absurd given
given_free_from free (a ∷ areas) [] left rs is given = absurd given
given_free_from free (a ∷ areas) (r ∷ ranges) left rs is given =
    given_free_from (without free r.address r.pages) areas ranges left (rs ++ r ∷ []) (ap (λ (pages : List ℕ). without pages r.address r.pages) is ∙ without_one rs r) given.1
    ∙ ap free_pages (append_assoc rs (r ∷ []) ranges)

pub free_follow : (rs : List Range) (areas : List Area) (ranges : List Range) (left : List ℕ) → AreGiven (free_pages rs) areas ranges left → left ≡ free_pages (rs ++ ranges)
free_follow rs areas ranges left given = given_free_from (free_pages rs) areas ranges left rs refl given
