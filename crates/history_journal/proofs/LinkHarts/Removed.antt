-- Taking out the refusal that is kept for a hart.
use Rattle.std.proofs.Common.{◌≡◌, ℕ, zero, suc, ◌<◌, Bool, true, false, not, cond, eqb, List, [], ◌∷◌, drop, get_or, length, Some, None, refl, sym, ap, ◌∙◌}
use Rattle.std.specs.List.{filter, find, remove, slice_get}
use Rattle.std.proofs.Math.Seq.{drop-cons}
use Rattle.std.proofs.lemmas.Option.{slice_get-get_or}
use Rattle.history_event.specs.declared.state.Kept.{Kept}
use Rattle.history_journal.specs.LinkHarts.Kept.{is_anothers, is_of}

-- the search of the rest stops at its first
pub found_at : (hart : ℕ) (kept : List Kept) (place : ℕ) (k : Kept) → place < length kept → k ≡ get_or kept place k → eqb k.hart hart ≡ true
    → find (is_of hart) (drop place kept) ≡ find (is_of hart) kept → slice_get kept place ≡ find (is_of hart) kept
found_at hart kept place k lt at is rest =
    slice_get-get_or kept place k lt ∙ ap (λ (x : Kept). Some x) (sym at)
    ∙ sym (ap (λ (b : Bool). cond b (Some k) (find (is_of hart) (drop (suc place) kept))) is)
    ∙ sym (ap (λ (x : Kept). find (is_of hart) (x ∷ drop (suc place) kept)) (sym at))
    ∙ sym (ap (find (is_of hart)) (drop-cons kept place k lt))
    ∙ rest

-- what is taken out of that place is the one that was looked for
pub at_place : (hart : ℕ) (kept : List Kept) (place : ℕ) (k : Kept) → place < length kept → k ≡ get_or kept place k → slice_get kept place ≡ find (is_of hart) kept
    → find (is_of hart) kept ≡ Some k
at_place hart kept place k lt at found = sym found ∙ slice_get-get_or kept place k lt ∙ ap (λ (x : Kept). Some x) (sym at)

pub find_passes : (hart : ℕ) (kept : List Kept) (k : Kept) → find (is_of hart) kept ≡ Some k → eqb k.hart hart ≡ true
find_passes hart [] k e = absurd (let d : None ≡ Some k = e in cc)
find_passes hart (x ∷ kept) k e = at (λ f. find_passes hart kept k f) (eqb x.hart hart) refl e
  where
    at : (find (is_of hart) kept ≡ Some k → eqb k.hart hart ≡ true) → (b : Bool) → eqb x.hart hart ≡ b → cond b (Some x) (find (is_of hart) kept) ≡ Some k → eqb k.hart hart ≡ true
    at again true t f = let same : x ≡ k = cc in sym (ap (λ (y : Kept). eqb y.hart hart) same) ∙ t
    at again false t f = again f

-- where none is found, all are others'
pub none_is : (hart : ℕ) (kept : List Kept) → find (is_of hart) kept ≡ None → kept ≡ filter (is_anothers hart) kept
none_is hart [] none = refl
none_is hart (x ∷ kept) none = at (λ f. none_is hart kept f) (eqb x.hart hart) refl none
  where
    at : (find (is_of hart) kept ≡ None → kept ≡ filter (is_anothers hart) kept) → (b : Bool) → eqb x.hart hart ≡ b → cond b (Some x) (find (is_of hart) kept) ≡ None
        → x ∷ kept ≡ cond (not (eqb x.hart hart)) (x ∷ filter (is_anothers hart) kept) (filter (is_anothers hart) kept)
    at again true t f = absurd (let d : Some x ≡ None = f in cc)
    at again false t f =
        ap (λ (rest : List Kept). x ∷ rest) (again f)
        ∙ ap (λ (b : Bool). cond (not b) (x ∷ filter (is_anothers hart) kept) (filter (is_anothers hart) kept)) (sym t)

others_stay : (hart : ℕ) (kept : List Kept) (place : ℕ) (k : Kept) → slice_get kept place ≡ Some k → eqb k.hart hart ≡ true
    → filter (is_anothers hart) (remove kept place) ≡ filter (is_anothers hart) kept
others_stay hart [] place k at is = absurd (let d : None ≡ Some k = at in cc)
others_stay hart (x ∷ kept) zero k at is =
    let same : x ≡ k = cc in
    let goes : eqb x.hart hart ≡ true = ap (λ (y : Kept). eqb y.hart hart) same ∙ is in
    ap (λ (b : Bool). cond (not b) (x ∷ filter (is_anothers hart) kept) (filter (is_anothers hart) kept)) (sym goes)
others_stay hart (x ∷ kept) (suc place) k at is =
    ap (λ (rest : List Kept). cond (not (eqb x.hart hart)) (x ∷ rest) rest) (others_stay hart kept place k at is)

-- the others stay
pub removed_others : (hart : ℕ) (kept : List Kept) (place : ℕ) (k : Kept) → place < length kept → k ≡ get_or kept place k → slice_get kept place ≡ find (is_of hart) kept
    → filter (is_anothers hart) (remove kept place) ≡ filter (is_anothers hart) kept
removed_others hart kept place k lt at found =
    let is : find (is_of hart) kept ≡ Some k = at_place hart kept place k lt at found in
    others_stay hart kept place k (found ∙ is) (find_passes hart kept k is)
