-- Ranges that take pages one after another.
use Rattle.std.proofs.Common.{◌<◌, ℕ, zero, suc, List, [], ◌∷◌, ◌++◌, append_assoc, take, get_or, length, sym, subst, arith}
use Rattle.std.proofs.lemmas.List.{append-nil}
use Rattle.address_space.specs.Pages.{AllFree}
use Rattle.history_event.specs.declared.event.Range.{Range}
use Rattle.history_state.specs.Areas.{free_pages}
use Rattle.link_spaces.specs.ReservedPagesPart.Laid.{AreLaid}

-- each is free beside those in front of it
pub laid_at : (before ranges : List Range) (i : ℕ) (d : Range) → i < length ranges → AreLaid before ranges
    → AllFree (free_pages (before ++ take i ranges)) (get_or ranges i d).address (get_or ranges i d).pages
laid_at before [] i d lt laid = absurd (omega (arith, lt))
laid_at before (r ∷ ranges) zero d lt laid = subst (λ (rs : List Range). AllFree (free_pages rs) r.address r.pages) (sym (append-nil before)) laid.0
laid_at before (r ∷ ranges) (suc i) d lt laid =
    subst (λ (rs : List Range). AllFree (free_pages rs) (get_or ranges i d).address (get_or ranges i d).pages) (append_assoc before (r ∷ []) (take i ranges))
    (laid_at (before ++ r ∷ []) ranges i d (omega (arith, lt)) laid.1)
