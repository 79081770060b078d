-- The first place of a list at which something holds, and the object at that of its serial.
use Rattle.std.proofs.Common.{◌≡◌, ℕ, ◌≤◌, ◌==◌, Bool, cond, List, [], ◌∷◌, ◌++◌, length, length-append, map, refl, sym, ap, ◌∙◌, arith}
use Rattle.std.specs.Prelude.{not, position, Option, Some, None}
use Rattle.std.specs.List.{find, position_or_len, slice_get}
use Rattle.std.specs.Option.{option_or}
use Rattle.std.proofs.lemmas.Grind.{common_steps}
use Rattle.std.proofs.lemmas.List.Folds.{find_at, position_or_len_push}
use Rattle.std.proofs.lemmas.List.Sums.{prefix_len-le-length}
use Rattle.ld_base.specs.declared.linking.Loaded.{Loaded}
use Rattle.scope_rule.specs.Loading.{object_of}
use Rattle.scope_rule.specs.Places.{place_in, serials_of}
use Rattle.scope_rule.specs.Seen.{Seen}

-- one element more
pub position_pushed : {X : Type 0} (p : X → Bool) (xs : List X) (x : X) → position p (xs ++ x ∷ []) ≡ option_or (position p xs) (cond (p x) (Some (length xs)) None)
position_pushed p xs x =
    let within : position_or_len p xs ≤ length xs = prefix_len-le-length (λ y. not (p y)) xs in
    rw (position_or_len_push p xs x) (grind (arith, common_steps, length-append xs (x ∷ [])))

place_mapped : {X : Type 0} (f : X → ℕ) (xs : List X) (q : ℕ) → place_in (map f xs) q ≡ position (λ x. f x == q) xs
place_mapped f [] q = refl
place_mapped f (x ∷ xs) q = grind (arith, common_steps, place_mapped f xs q)

-- the element at its first place is the first
pub found_by : {X : Type 0} (p : X → Bool) (xs : List X) (k : ℕ) → position p xs ≡ Some k → slice_get xs k ≡ find p xs
found_by p xs k e = sym (find_at p xs ∙ ap (slice_get xs) (grind (arith, common_steps)))

pub none_by : {X : Type 0} (p : X → Bool) (xs : List X) → position p xs ≡ None → None ≡ find p xs
none_by p [] e = refl
none_by p (x ∷ xs) e = grind (arith, common_steps, none_by p xs)

pub object_found : (s : Seen) (q k : ℕ) (o : Option Loaded) → place_in (serials_of s) q ≡ Some k → o ≡ slice_get s.objects k → o ≡ object_of s q
object_found s q k o at is = is ∙ found_by (λ (x : Loaded). x.serial == q) s.objects k (sym (place_mapped (λ (x : Loaded). x.serial) s.objects q) ∙ at)

pub none_found : (s : Seen) (q : ℕ) → place_in (serials_of s) q ≡ None → None ≡ object_of s q
none_found s q at = none_by (λ (x : Loaded). x.serial == q) s.objects (sym (place_mapped (λ (x : Loaded). x.serial) s.objects q) ∙ at)
