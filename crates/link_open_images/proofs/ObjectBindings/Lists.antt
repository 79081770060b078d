-- Lists, the elements of one by those of another.
use Rattle.std.proofs.Common.{◌≡◌, ℕ, zero, suc, ◌+◌, ◌<◌, Bool, true, false, cond, List, [], ◌∷◌, ◌++◌, map, take, drop, get_or, length, Some, None, eqb, refl, sym, ap, subst, ◌∙◌, append_assoc, arith, Result, Ok, Err, IfOk}
use Rattle.std.specs.List.{range_with_len, slice_get}
use Rattle.std.proofs.Math.Seq.{drop-cons}
use Rattle.std.proofs.lemmas.Option.{slice_get-get_or}
use Rattle.std.specs.Prelude.{if◌then◌else◌}
use Rattle.ld_base.specs.declared.linking.Loaded.{Loaded}
use Rattle.history_state.specs.Bound.{binds_now, no_binding}
use Rattle.relocator.specs.declared.binding.ModulePlace.{ModulePlace}
use Rattle.scope_rule.specs.Relocation.{choice_at}
use Rattle.scope_rule.specs.Seen.{Seen}
use Rattle.seg_image.specs.declared.image.Image.{Image}
use Rattle.link_open_images.specs.ObjectBindings.Bindings.{AreMade, CanRead, binding_in, slot_binding}
use Rattle.scope_rule.specs.Loading.{with_serial}

-- the search of the rest stops at its first
pub found_at : (serial : ℕ) (all : List Loaded) (place : ℕ) (o : Loaded) → place < length all → o ≡ get_or all place o → eqb o.serial serial ≡ true
    → with_serial (drop place all) serial ≡ with_serial all serial → slice_get all place ≡ with_serial all serial
found_at serial all place o lt at is rest =
    slice_get-get_or all place o lt ∙ ap (λ (x : Loaded). Some x) (sym at)
    ∙ sym (ap (λ (b : Bool). cond b (Some o) (with_serial (drop (suc place) all) serial)) is)
    ∙ sym (ap (λ (x : Loaded). with_serial (x ∷ drop (suc place) all) serial) (sym at))
    ∙ sym (ap (λ (xs : List Loaded). with_serial xs serial) (drop-cons all place o lt))
    ∙ rest

pub if_ok : {A E : Type 0} (r : Result A E) (P Q : A → Type 0) → ((x : A) → P x → Q x) → IfOk r P → IfOk r Q
if_ok (Ok x) P Q f h = f x h
if_ok (Err e) P Q f h = h

-- as many as a list has elements, all alike
pub all_alike : {X Y : Type 0} (y : Y) (xs : List X) (a : ℕ) → map (λ k. y) (range_with_len a (length xs)) ≡ map (λ x. y) xs
all_alike {X} {Y} y [] a = refl
all_alike {X} {Y} y (x ∷ xs) a = ap (λ (ys : List Y). y ∷ ys) (all_alike y xs (a + 1))

-- one more behind what was put behind others
pub one_behind : {X : Type 0} (so_far first more new : List X) (y z : X) → new ≡ so_far ++ y ∷ [] → so_far ≡ first ++ more → y ≡ z → new ≡ first ++ (more ++ z ∷ [])
one_behind {X} so_far first more new y z pushed are is =
    pushed ∙ ap (λ (xs : List X). xs ++ y ∷ []) are ∙ ap (λ (x : X). (first ++ more) ++ x ∷ []) is ∙ append_assoc first more (z ∷ [])

-- what is made of the element behind those in front comes behind what was made of them
pub next_mapped : {X Y : Type 0} (f : X → Y) (items : List X) (k : ℕ) (d : X) (so_far first new : List Y) (y : Y) → k < length items → new ≡ so_far ++ y ∷ [] → so_far ≡ first ++ map f (take k items)
    → y ≡ f (get_or items k d) → new ≡ first ++ map f (take (k + 1) items)
next_mapped {X} {Y} f items k d so_far first new y lt pushed are is =
    let next : suc k ≡ k + 1 = omega arith in
    one_behind so_far first (map f (take k items)) new y (f (get_or items k d)) pushed are is
    ∙ ap (λ (ys : List Y). first ++ ys) (subst (λ (n : ℕ). map f (take k items) ++ f (get_or items k d) ∷ [] ≡ map f (take n items)) next (front items k lt))
  where
    front : (xs : List X) (n : ℕ) → n < length xs → map f (take n xs) ++ f (get_or xs n d) ∷ [] ≡ map f (take (suc n) xs)
    front [] n less = absurd (omega (arith, less))
    front (x ∷ xs) zero less = refl
    front (x ∷ xs) (suc n) less = ap (λ (ys : List Y). f x ∷ ys) (front xs n (omega (arith, less)))

pub get_at : {X : Type 0} (xs : List X) (k n : ℕ) → n ≡ length xs → k < n → (x : X) × (slice_get xs k ≡ Some x)
get_at [] k n same lt = absurd (omega (arith, same, lt))
get_at (x ∷ xs) zero n same lt = (x, refl)
get_at (x ∷ xs) (suc k) n same lt = get_at xs k (length xs) refl (omega (arith, same, lt))

pub some_within : {X : Type 0} (xs : List X) (k : ℕ) (x : X) → slice_get xs k ≡ Some x → k < length xs
some_within [] k x at = absurd (let d : None ≡ Some x = at in cc)
some_within (y ∷ xs) zero x at = omega arith
some_within (y ∷ xs) (suc k) x at = omega (arith, some_within xs k x at)

-- bytes can be read of images that were made
pub can_read : (ns : Seen) (now : Bool) (places : List ModulePlace) (objects : List Loaded) (images : List Image) → AreMade ns now places objects images → CanRead objects images
can_read ns now places objects images are = record {
  count = are.count;
  accepted = λ k o at.
      let image : (i : Image) × (slice_get images k ≡ Some i) = get_at images k (length objects) (sym are.count) (some_within objects k o at) in
      (are.each k o image.0 at image.1).accepted;
  whole = λ k o image at made. (are.each k o image at made).relocated.all;
}

pub slots_bound : (ns : Seen) (now : Bool) (o : Loaded) → binds_now now o.object ≡ true → map (λ r. binding_in ns r (choice_at ns o r)) o.object.plt_relocs ≡ map (slot_binding ns now o) o.object.plt_relocs
slots_bound ns now o e = ap (λ (b : Bool). map (λ r. if b then binding_in ns r (choice_at ns o r) else no_binding) o.object.plt_relocs) (sym e)

pub slots_lazy : (ns : Seen) (now : Bool) (o : Loaded) → binds_now now o.object ≡ false → map (λ r. no_binding) o.object.plt_relocs ≡ map (slot_binding ns now o) o.object.plt_relocs
slots_lazy ns now o e = ap (λ (b : Bool). map (λ r. if b then binding_in ns r (choice_at ns o r) else no_binding) o.object.plt_relocs) (sym e)
