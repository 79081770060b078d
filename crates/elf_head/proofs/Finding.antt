-- Searches of a list.
use Rattle.std.proofs.Common.{◌≡◌, ◌∙◌, ap, Bool, true, false, ◌||◌, List, [], ◌∷◌, refl, Bor, subst, inl, inr}
use Rattle.std.proofs.lemmas.Bool.{cases_Bool}
use Rattle.std.specs.Prelude.{Option, Some, None, is_some, find, if◌then◌else◌}
use Rattle.std.specs.List.{list_any}
use Rattle.std.specs.Option.{option_copied}

-- a search finds where some element passes
pub some_find : {X : Type 0} (p : X → Bool) (xs : List X) → is_some (find p xs) ≡ list_any p xs
some_find p [] = refl
some_find p (x ∷ xs) = elim (p x) as (λ b. is_some (if b then Some x else find p xs) ≡ (b || list_any p xs)) [ true ↦ refl | false ↦ some_find p xs ]

some_copied : {X : Type 0} (found : Option (Bor X)) → is_some found ≡ is_some (option_copied found)
some_copied None = refl
some_copied (Some x) = refl

-- the same of the element that is lent
pub some_found : {X : Type 0} (p : X → Bool) (xs : List X) (found : Option (Bor X)) → option_copied found ≡ find p xs → is_some found ≡ list_any p xs
some_found p xs found same = some_copied found ∙ ap is_some same ∙ some_find p xs

-- what is found passes
pub find_passes : {X : Type 0} (p : X → Bool) (xs : List X) (x : X) → find p xs ≡ Some x → p x ≡ true
find_passes p [] x found = cc
find_passes p (y ∷ ys) x found =
    elim (cases_Bool (p y)) [ inl passes ↦ (let same : y ≡ x = cc (rw passes at found) in subst (λ z. p z ≡ true) same passes) | inr fails ↦ find_passes p ys x (rw fails at found) ]

-- what a search of a list that is another name of xs lent, or that it lent nothing
pub found_some : {X : Type 0} (p : X → Bool) (xs ys : List X) (found : Option (Bor X)) (x : Bor X) → option_copied found ≡ find p ys → ys ≡ xs → found ≡ Some x → find p xs ≡ Some x.now
found_some p xs ys found x same list is = rw (← list, ← same, is)

pub found_none : {X : Type 0} (p : X → Bool) (xs ys : List X) (found : Option (Bor X)) → option_copied found ≡ find p ys → ys ≡ xs → found ≡ None → find p xs ≡ None
found_none p xs ys found same list is = rw (← list, ← same, is)
