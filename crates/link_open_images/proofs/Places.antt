-- Images and their objects, place by place.
use Rattle.std.proofs.Common.{◌≡◌, ◌⊎◌, inl, inr, ⊎_elim, ℕ, zero, suc, ◌-◌, ◌<◌, Bool, false, List, [], ◌∷◌, ◌++◌, drop, take, length, get_or, Some, None, Result, Ok, Err, IfOk, refl, sym, ap, subst, ◌∙◌, arith}
use Rattle.std.specs.List.{Contains, slice_get}
use Rattle.std.proofs.lemmas.List.{take_all}
use Rattle.ld_base.specs.declared.linking.Loaded.{Loaded}
use Rattle.ld_base.specs.declared.object.Reloc.{Reloc}
use Rattle.link_open_images.specs.ObjectBindings.Bindings.{bindings_in, copies_from, none_copied}
use Rattle.link_open_images.specs.Relocated.{AreBehind, AreRelocated, IsRelocated}
use Rattle.link_open_images.specs.Lemmas.Libraries.{copies_alike}
use Rattle.relocator.specs.Bindings.{is_copy}
use Rattle.relocator.specs.declared.binding.Binding.{Binding}
use Rattle.relocator.specs.declared.binding.ModulePlace.{ModulePlace}
use Rattle.scope_rule.specs.Seen.{Seen}
use Rattle.seg_image.specs.declared.image.Image.{Image}

pub pushed_at : {X : Type 0} (xs : List X) (y : X) (k : ℕ) (x : X) → slice_get (xs ++ y ∷ []) k ≡ Some x → (slice_get xs k ≡ Some x) ⊎ ((y ≡ x) × (k ≡ length xs))
pushed_at [] y zero x at = let same : y ≡ x = cc in inr (same, refl)
pushed_at {X} [] y (suc k) x at = absurd (let d : None ≡ Some x = at in cc)
pushed_at (z ∷ xs) y zero x at = inl at
pushed_at {X} (z ∷ xs) y (suc k) x at = ⊎_elim
    (λ (h : slice_get xs k ≡ Some x). inl h)
    (λ (h : (y ≡ x) × (k ≡ length xs)). inr (h.0, ap suc h.1))
    (pushed_at xs y k x at)

-- a list is its first element and the rest
pub split : {X : Type 0} (xs : List X) (d : X) → 0 < length xs → xs ≡ get_or xs 0 d ∷ take (length xs - 1) (drop 1 xs)
split [] d some = absurd (omega (arith, some))
split {X} (x ∷ xs) d some = ap (λ (ys : List X). x ∷ ys) (sym (take_all (length (x ∷ xs) - 1) xs (omega arith)))

pub behind_at : {X : Type 0} (first : X) (rest : List X) (xs : List X) → xs ≡ first ∷ rest → (k : ℕ) (x : X) → slice_get rest k ≡ Some x → slice_get xs (suc k) ≡ Some x
behind_at {X} first rest xs are k x at = ap (λ (ys : List X). slice_get ys (suc k)) are ∙ at

-- the images of a list of objects, where the first stands before the others
pub relocated_all : (ns : Seen) (now : Bool) (places : List ModulePlace) (first : Loaded) (rest : List Loaded) (images : List Image) → AreBehind ns now places first rest images
    → ((k : ℕ) (o : Loaded) → slice_get rest k ≡ Some o → (r : Reloc) → Contains o.object.relocs r → is_copy r ≡ false) → AreRelocated ns now places (first ∷ rest) images
relocated_all ns now places first rest images behind libraries = record {
  count = ap length behind.are ∙ ap suc behind.made.count;
  each = λ k o image at made. by k o image at (ap (λ (is : List Image). slice_get is k) (sym behind.are) ∙ made);
}
  where
    by : (k : ℕ) (o : Loaded) (image : Image) → slice_get (first ∷ rest) k ≡ Some o → slice_get (behind.image ∷ behind.others) k ≡ Some image
        → IsRelocated o (bindings_in (copies_from ns now places rest) ns now o) places image
    by zero o image at made =
        let same : first ≡ o = cc in
        let is : behind.image ≡ image = cc in
        subst (λ (x : Loaded). IsRelocated x (bindings_in (copies_from ns now places rest) ns now x) places image) same
        (subst (λ (i : Image). IsRelocated first (bindings_in (copies_from ns now places rest) ns now first) places i) is behind.relocated)
    by (suc k) o image at made =
        subst (λ (bs : List Binding). IsRelocated o bs places image) (copies_alike none_copied (copies_from ns now places rest) ns now o (libraries k o at))
        (behind.made.each k o image at made).relocated

pub if_ok : {A E : Type 0} (r : Result A E) (P Q : A → Type 0) → ((x : A) → P x → Q x) → IfOk r P → IfOk r Q
if_ok (Ok x) P Q f h = f x h
if_ok (Err e) P Q f h = h

-- what is behind the first element, cut out of the list
pub rest_is : {X : Type 0} (xs : List X) → take (length xs - 1) (drop 1 xs) ≡ drop 1 xs
rest_is [] = refl
rest_is {X} (x ∷ xs) = take_all (length (x ∷ xs) - 1) xs (omega arith)
