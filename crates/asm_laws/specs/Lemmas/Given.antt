-- A thing that a line gives is among those each of which stands once.
use Rattle.std.proofs.Common.{◌≡◌, ◌∙◌, ap, sym, subst, refl, ℕ, Bool, true, false, ◌||◌, if◌then◌else◌, List, [], ◌∷◌, ◌++◌, filter_map, append_assoc}
use Rattle.std.specs.Prelude.{Option, Some}
use Rattle.std.specs.List.{list_any}
use Rattle.std.specs.Str.{bytes_eq}
use Rattle.std.proofs.lemmas.List.Elements.{filter_map-append}
use Rattle.std.proofs.lemmas.List.Folds.{list_any-append}
use Rattle.std.proofs.lemmas.Slice.Eq.{bytes_eq-Decides}
use Rattle.asm_layout.specs.Uses.{distinct_after}

or_true : (b c : Bool) → (b || (true || c)) ≡ true
or_true true c = refl
or_true false c = refl

pub present : {A : Type 0} (same : A → A → Bool) (x : A) → same x x ≡ true → (seen before behind : List A)
    → list_any (same x) (seen ++ distinct_after same seen (before ++ x ∷ behind)) ≡ true
present {A} same x itself seen [] behind =
    let P : Bool → Type 0 = λ there. list_any (same x) seen ≡ there
    → list_any (same x) (seen ++ (if there then distinct_after same seen behind else x ∷ distinct_after same (seen ++ x ∷ []) behind)) ≡ true in
    let cases : (there : Bool) → P there = λ there. elim there as P [
      | true ↦ λ is. list_any-append (same x) seen (distinct_after same seen behind) ∙ ap (λ b. b || list_any (same x) (distinct_after same seen behind)) is
      | false ↦ λ is.
          let rest = distinct_after same (seen ++ x ∷ []) behind in
          list_any-append (same x) seen (x ∷ rest) ∙ ap (λ b. list_any (same x) seen || (b || list_any (same x) rest)) itself ∙ or_true (list_any (same x) seen) (list_any (same x) rest)
    ] in
    cases (list_any (same x) seen) refl
present {A} same x itself seen (y ∷ before) behind =
    let P : Bool → Type 0 = λ there.
    list_any (same x) (seen ++ (if there then distinct_after same seen (before ++ x ∷ behind) else y ∷ distinct_after same (seen ++ y ∷ []) (before ++ x ∷ behind))) ≡ true in
    let new : P false = subst (λ (all : List A). list_any (same x) all ≡ true) (append_assoc seen (y ∷ []) (distinct_after same (seen ++ y ∷ []) (before ++ x ∷ behind)))
    (present same x itself (seen ++ y ∷ []) before behind) in
    let cases : (there : Bool) → P there = λ there. elim there as P [ true ↦ present same x itself seen before behind | false ↦ new ] in
    cases (list_any (same y) seen)

-- what a line gives
pub given : {X A : Type 0} (same : A → A → Bool) (f : X → Option A) (before : List X) (line : X) (rest : List X) (x : A) → same x x ≡ true → f line ≡ Some x
    → list_any (same x) (distinct_after same [] (filter_map f (before ++ line ∷ rest))) ≡ true
given {X} {A} same f before line rest x itself gives =
    let one : filter_map f (line ∷ rest) ≡ x ∷ filter_map f rest = rw gives refl in
    let all : filter_map f (before ++ line ∷ rest) ≡ filter_map f before ++ x ∷ filter_map f rest
    = filter_map-append f before (line ∷ rest) ∙ ap (λ (xs : List A). filter_map f before ++ xs) one in
    subst (λ (xs : List A). list_any (same x) (distinct_after same [] xs) ≡ true) (sym all) (present same x itself [] (filter_map f before) (filter_map f rest))

pub same_name : (name : List ℕ) → bytes_eq name name ≡ true
same_name name = (bytes_eq-Decides name name).1 refl
