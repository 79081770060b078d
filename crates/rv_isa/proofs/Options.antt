-- Tests and look-ups that end in a value or in nothing.
use Rattle.std.proofs.Common.{◌≡◌, List, [], ◌∷◌, Bool, true, false, ◌&&◌, Option, Some, None, cond, refl, sym, ap, ◌∙◌}
use Rattle.std.specs.Prelude.{find, IfSome}
use Rattle.std.specs.Option.{option_map, option_and_then}

pub if_keeps : {A : Type 0} (P : A → Type 0) (b : Bool) (x y : A) → (b ≡ true → P x) → P y → P (cond b x y)
if_keeps P true x y hx hy = hx refl
if_keeps P false x y hx hy = hy

pub map_keeps : {A B : Type 0} (Q : B → Type 0) (f : A → B) (o : Option A) → ((a : A) → o ≡ Some a → Q (f a)) → IfSome (option_map f o) Q
map_keeps Q f None h = tt
map_keeps Q f (Some a) h = h a refl

pub and_then_keeps : {A B : Type 0} (Q : B → Type 0) (f : A → Option B) (o : Option A) → ((a : A) → o ≡ Some a → IfSome (f a) Q) → IfSome (option_and_then f o) Q
and_then_keeps Q f None h = tt
and_then_keeps Q f (Some a) h = h a refl

found_at : {A : Type 0} (test : A → Bool) (x : A) (rest : Option A) (a : A) → (rest ≡ Some a → test a ≡ true) → (b : Bool) → test x ≡ b → cond b (Some x) rest ≡ Some a → test a ≡ true
found_at test x rest a h true t e = let same : x ≡ a = cc in ap test (sym same) ∙ t
found_at test x rest a h false t e = h e

-- what a search finds passes its test
pub found_passes : {A : Type 0} (test : A → Bool) (xs : List A) (a : A) → find test xs ≡ Some a → test a ≡ true
found_passes test [] a e = cc
found_passes test (x ∷ xs) a e = found_at test x (find test xs) a (found_passes test xs a) (test x) refl e

pub and_both : (a b : Bool) → (a && b) ≡ true → (a ≡ true) × (b ≡ true)
and_both true b e = (refl, e)
and_both false b e = cc
