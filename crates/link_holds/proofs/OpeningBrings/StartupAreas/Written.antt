-- Blocks that are written one after another.
use Rattle.std.proofs.Common.{◌≡◌, ◌⊎◌, inl, inr, ⊎_elim, ℕ, zero, suc, ◌+◌, ◌<◌, ◌≤◌, List, [], ◌∷◌, length, get_or, Some, None, refl, sym, ap, subst, ◌∙◌, arith}
use Rattle.std.specs.List.{slice_get}
use Rattle.std.proofs.lemmas.Bool.{cases_lt}
use Rattle.link_images.specs.declared.parts.Part.{Part}
use Rattle.ld_base.specs.declared.linking.Loaded.{Loaded}
use Rattle.link_holds.specs.OpeningBrings.StartupAreas.Blocks.{FitBlocks, HoldBlocks, IsBlock, static_offset}

pub same_block : (objects : List Loaded) (parts : List Part) (k x y : ℕ) (a b : List ℕ) → IsBlock objects parts k x a → IsBlock objects parts k y b → (x ≡ y) × (a ≡ b)
same_block objects parts k x y a b one two =
    let objects_same : Some one.object ≡ Some two.object = sym one.there ∙ two.there in
    let object : one.object ≡ two.object = cc in
    let offsets : Some x ≡ Some y = sym one.stands ∙ ap static_offset object ∙ two.stands in
    let parts_same : Some one.part ≡ Some two.part = sym one.kept ∙ two.kept in
    let part : one.part ≡ two.part = cc in
    let offset : x ≡ y = cc in
    (offset, one.are ∙ ap (λ (p : Part). p.storage) part ∙ sym two.are)

-- an area with the blocks of so many objects in front
pub record InFront (tp size : ℕ) (objects : List Loaded) (parts : List Part) (n : ℕ) (area : List ℕ) : Type 0 where
  pub count : length area ≡ size
  pub inside : (k x : ℕ) (bytes : List ℕ) → k < n → IsBlock objects parts k x bytes → (i : ℕ) → i < length bytes → get_or area (tp + x + i) 0 ≡ get_or bytes i 0
  pub beside : (v : ℕ) → ((k x : ℕ) (bytes : List ℕ) → k < n → IsBlock objects parts k x bytes → (v < tp + x) ⊎ (tp + x + length bytes ≤ v)) → get_or area v 0 ≡ 0

-- all of them
pub all_in_front : (tp size : ℕ) (objects : List Loaded) (parts : List Part) (n : ℕ) (area : List ℕ) → length objects ≤ n → InFront tp size objects parts n area → HoldBlocks tp objects parts area
all_in_front tp size objects parts n area all front = record {
  inside = λ k x bytes is i less. front.inside k x bytes (within k is.object is.there) is i less;
  beside = λ v out. front.beside v (λ k x bytes less is. out k x bytes is);
}
  where
    within : (k : ℕ) (o : Loaded) → slice_get objects k ≡ Some o → k < n
    within k o there = ⊎_elim
        (λ (less : k < length objects). omega (arith, less, all))
        (λ (past : length objects ≤ k). absurd (let d : None ≡ Some o = sym (past_all objects k past) ∙ there in cc))
        (cases_lt k (length objects))
      where
        past_all : (os : List Loaded) (j : ℕ) → length os ≤ j → slice_get os j ≡ None
        past_all [] j past = refl
        past_all (x ∷ os) zero past = absurd (omega (arith, past))
        past_all (x ∷ os) (suc j) past = past_all os j (omega (arith, past))

-- one more that has no block
pub without_more : (tp size : ℕ) (objects : List Loaded) (parts : List Part) (n : ℕ) (area : List ℕ) (o : Loaded) → slice_get objects n ≡ Some o → static_offset o ≡ None
    → InFront tp size objects parts n area → InFront tp size objects parts (n + 1) area
without_more tp size objects parts n area o at none front = record {
  count = front.count;
  inside = λ k x bytes less is i few. front.inside k x bytes (before k x bytes less is) is i few;
  beside = λ v out. front.beside v (λ k x bytes less is. out k x bytes (omega (arith, less)) is);
}
  where
    before : (k x : ℕ) (bytes : List ℕ) → k < n + 1 → IsBlock objects parts k x bytes → k < n
    before k x bytes less is = ⊎_elim
        (λ (below : k < n). below)
        (λ (above : n ≤ k).
        let e : k ≡ n = omega (arith, less, above) in
        let same : Some is.object ≡ Some o = sym is.there ∙ ap (slice_get objects) e ∙ at in
        let object : is.object ≡ o = cc in
        let d : Some x ≡ None = sym is.stands ∙ ap static_offset object ∙ none in absurd cc)
        (cases_lt k n)

-- one more, written over what was there
pub with_more : (tp size : ℕ) (objects : List Loaded) (parts : List Part) (n offset : ℕ) (block area new : List ℕ) → FitBlocks tp size objects parts → IsBlock objects parts n offset block
    → length new ≡ length area → ((i : ℕ) → i < length block → get_or new (tp + offset + i) 0 ≡ get_or block i 0)
    → ((v : ℕ) → (v < tp + offset) ⊎ (tp + offset + length block ≤ v) → get_or new v 0 ≡ get_or area v 0)
    → InFront tp size objects parts n area → InFront tp size objects parts (n + 1) new
with_more tp size objects parts n offset block area new fit its long written kept front = record {
  count = long ∙ front.count;
  inside = λ k x bytes less is i few. inside k x bytes less is i few;
  beside = λ v out. kept v (out n offset block (omega arith) its) ∙ front.beside v (λ k x bytes less is. out k x bytes (omega (arith, less)) is);
}
  where
    place : (x y i j m : ℕ) → (x + m ≤ y) ⊎ (y + j ≤ x) → i < m → (tp + x + i < tp + y) ⊎ (tp + y + j ≤ tp + x + i)
    place x y i j m (inl a) few = inl (omega (arith, a, few))
    place x y i j m (inr a) few = inr (omega (arith, a, few))

    inside : (k x : ℕ) (bytes : List ℕ) → k < n + 1 → IsBlock objects parts k x bytes → (i : ℕ) → i < length bytes → get_or new (tp + x + i) 0 ≡ get_or bytes i 0
    inside k x bytes less is i few = ⊎_elim
        (λ (below : k < n).
        kept (tp + x + i) (place x offset i (length block) (length bytes) (fit.apart k n x offset bytes block is its (λ e. omega (arith, below, e))) few) ∙ front.inside k x bytes below is i few)
        (λ (above : n ≤ k).
        let e : k ≡ n = omega (arith, less, above) in
        let same = same_block objects parts n x offset bytes block (subst (λ (m : ℕ). IsBlock objects parts m x bytes) e is) its in
        ap (λ (y : ℕ). get_or new (tp + y + i) 0) same.0 ∙ written i (subst (λ (b : List ℕ). i < length b) same.1 few) ∙ ap (λ (b : List ℕ). get_or b i 0) (sym same.1))
        (cases_lt k n)

pub get_at : {X : Type 0} (xs : List X) (k n : ℕ) → length xs ≡ n → k < n → (x : X) × (slice_get xs k ≡ Some x)
get_at [] k n same less = absurd (omega (arith, same, less))
get_at (x ∷ xs) zero n same less = (x, refl)
get_at (x ∷ xs) (suc k) n same less = get_at xs k (length xs) refl (omega (arith, same, less))
