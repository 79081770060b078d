-- Tests of which the first settles the answer, or leaves it to the second.
use Rattle.std.proofs.Common.{◌≡◌, ℕ, ap, eqb, Option, Some, None, ◌&&◌, ◌||◌, Bool, true, false, [], ◌∷◌, refl}
use Rattle.std.specs.Bool.{Decides}
use Rattle.std.specs.List.{list_all}
use Rattle.std.specs.Option.{option_eq}
use Rattle.std.proofs.lemmas.Bool.{eq-eqb, eqb-true}

pub or_then : {P : Type 0} (a b : Bool) → a ≡ true → Decides (a || b) P → Decides a P
or_then {P} true b e d = d
or_then {P} false b e d = absurd (let n : false ≡ true = e in cc)

pub or_else : {P : Type 0} (a b : Bool) → a ≡ false → Decides (a || b) P → Decides b P
or_else {P} false b e d = d
or_else {P} true b e d = absurd (let n : true ≡ false = e in cc)

pub and_then : {P : Type 0} (a b : Bool) → a ≡ true → Decides (a && b) P → Decides b P
and_then {P} true b e d = d
and_then {P} false b e d = absurd (let n : false ≡ true = e in cc)

pub and_else : {P : Type 0} (a b : Bool) → a ≡ false → Decides (a && b) P → Decides a P
and_else {P} false b e d = d
and_else {P} true b e d = absurd (let n : true ≡ false = e in cc)

pub option_so : (o : Option ℕ) (v : ℕ) → Decides (option_eq eqb o (Some v)) (o ≡ Some v)
option_so None v = ((λ e. absurd (let n : false ≡ true = e in cc)), (λ e. absurd (let n : None ≡ Some v = e in cc)))
option_so (Some u) v = ((λ e. ap (λ (n : ℕ). Some n) (eqb-true u v e)), (λ e. eq-eqb u v (let f : Some u ≡ Some v = e in cc)))

-- all of some tests
last_and : (a : Bool) → (a && true) ≡ a
last_and true = refl
last_and false = refl

pub all_two : (a b : Bool) → list_all (λ (t : Bool). t) (a ∷ b ∷ []) ≡ (a && b)
all_two true b = last_and b
all_two false b = refl

pub all_three : (a b d : Bool) → list_all (λ (t : Bool). t) (a ∷ b ∷ d ∷ []) ≡ ((a && b) && d)
all_three true true d = last_and d
all_three true false d = refl
all_three false b d = refl

pub all_four : (a b d e : Bool) → list_all (λ (t : Bool). t) (a ∷ b ∷ d ∷ e ∷ []) ≡ (((a && b) && d) && e)
all_four true true true e = last_and e
all_four true true false e = refl
all_four true false d e = refl
all_four false b d e = refl
