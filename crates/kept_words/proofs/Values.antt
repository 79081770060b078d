-- What a lost grant saw was its slot's value when the slot's object was unmapped.
use Rattle.std.proofs.Common.{◌≡◌, ◌⊎◌, ⊎_elim, inl, inr, ℕ, zero, suc, List, [], ◌∷◌, ◌++◌, append-nil, append_assoc, None, Some, true, refl, sym, ap, subst, ◌∙◌}
use Rattle.std.specs.Prelude.{take}
use Rattle.std.specs.List.{Contains, slice_get}
use Rattle.std.proofs.lemmas.Bool.{false≢true}
use Rattle.history_event.specs.declared.event.Event.{Event}
use Rattle.history_event.specs.declared.event.Event.TheVariants.{Unmapped}
use Rattle.history_state.specs.After.{after}
use Rattle.history_state.specs.Lemmas.Lists.{here, later}
use Rattle.kept_words.specs.Kept.{AreSettled, WereSettled}
use Rattle.kept_words.specs.Staying.{leaves_memory}

-- an element of a longer list, and those before it
get_push : {X : Type 0} (xs : List X) (y : X) (n : ℕ) (x : X) → slice_get (xs ++ y ∷ []) n ≡ Some x
    → ((slice_get xs n ≡ Some x) × (take n (xs ++ y ∷ []) ≡ take n xs)) ⊎ ((y ≡ x) × (take n (xs ++ y ∷ []) ≡ xs))
get_push {X} [] y zero x at = let same : y ≡ x = cc in inr (same, refl)
get_push {X} [] y (suc n) x at = absurd (let no : None ≡ Some x = at in cc)
get_push (z ∷ xs) y zero x at = inl (at, refl)
get_push {X} (z ∷ xs) y (suc n) x at = ⊎_elim
    (λ (old : (slice_get xs n ≡ Some x) × (take n (xs ++ y ∷ []) ≡ take n xs)). inl (old.0, ap (λ (ys : List X). z ∷ ys) old.1))
    (λ (new : (y ≡ x) × (take n (xs ++ y ∷ []) ≡ xs)). inr (new.0, ap (λ (ys : List X). z ∷ ys) new.1))
    (get_push xs y n x at)

-- an event more: where it is an unmapping, what was lost of what goes has seen its slots' values
pub settled_push : (journal : List Event) (e : Event) → ((hart : ℕ) (set : List ℕ) → e ≡ Unmapped hart set → AreSettled (after journal) set) → WereSettled journal → WereSettled (journal ++ e ∷ [])
settled_push journal e goes were n hart set at = ⊎_elim
    (λ (old : (slice_get journal n ≡ Some (Unmapped hart set)) × (take n (journal ++ e ∷ []) ≡ take n journal)).
    subst (λ (past : List Event). AreSettled (after past) set) (sym old.1) (were n hart set old.0))
    (λ (new : (e ≡ Unmapped hart set) × (take n (journal ++ e ∷ []) ≡ journal)).
    subst (λ (past : List Event). AreSettled (after past) set) (sym new.1) (goes hart set new.0))
    (get_push journal e n (Unmapped hart set) at)

-- events that leave memory unmap nothing
pub settled_beside : (journal : List Event) (e : Event) → leaves_memory e ≡ true → WereSettled journal → WereSettled (journal ++ e ∷ [])
settled_beside journal e leaves = settled_push journal e (λ hart set is. absurd (false≢true (sym (ap leaves_memory is) ∙ leaves)))

pub settled_behind : (journal more : List Event) → ((e : Event) → Contains more e → leaves_memory e ≡ true) → WereSettled journal → WereSettled (journal ++ more)
settled_behind journal [] quiet were = subst WereSettled (sym (append-nil journal)) were
settled_behind journal (e ∷ more) quiet were =
    subst WereSettled (append_assoc journal (e ∷ []) more)
    (settled_behind (journal ++ e ∷ []) more (λ x there. quiet x (later e more x there)) (settled_beside journal e (quiet e (here e more)) were))
