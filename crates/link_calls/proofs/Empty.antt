-- Lists without elements.
use Rattle.std.proofs.Common.{◌≡◌, ◌≢◌, ◌==◌, Bool, true, false, List, [], ◌∷◌, length, refl, sym, ap, ◌∙◌, arith}
use Rattle.std.proofs.lemmas.Bool.{eqb-true, false≢true}

pub none_of : {X : Type 0} (xs : List X) (b : Bool) → b ≡ (length xs == 0) → b ≡ true → xs ≡ []
none_of [] b is none = refl
none_of (x ∷ rest) b is none = absurd (omega (arith, eqb-true (length (x ∷ rest)) 0 (sym is ∙ none)))

pub some_of : {X : Type 0} (xs : List X) (b : Bool) → b ≡ (length xs == 0) → b ≡ false → xs ≢ []
some_of {X} xs b is some none = false≢true (sym some ∙ is ∙ ap (λ (ys : List X). length ys == 0) none)
