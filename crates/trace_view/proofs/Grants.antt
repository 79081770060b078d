-- What a search among grants gives.
use Rattle.std.proofs.Common.{◌≡◌, ◌==◌, ℕ, Bool, true, false, cond, List, [], ◌∷◌, refl}
use Rattle.std.specs.Prelude.{◌≢◌, Option, Some, None}
use Rattle.std.specs.List.{find}
use Rattle.std.proofs.lemmas.Bool.{eqb-false, eqb-true}
use Rattle.std.proofs.lemmas.List.Elements.{All-cons, All-nil, Contains-append_left, Contains-append_right, Contains-push}
use Rattle.trace_view.specs.declared.journal.Made.{Made}
use Rattle.trace_view.specs.Journal.{IsGrantOf}

-- it may stand behind another
behind : (g : Made) (gs : List Made) (number : ℕ) → (g.grant == number) ≡ false → (o : Option Made) → IsGrantOf gs number o → IsGrantOf (g ∷ gs) number o
behind g gs number other None is = All-cons (λ m. m.grant ≢ number) g gs (λ same. eqb-false g.grant number other same) is
behind g gs number other (Some made) is = (Contains-append_right (g ∷ []) gs made is.0, is.1)

pub is_found : (grants : List Made) (number : ℕ) → IsGrantOf grants number (find (λ m. m.grant == number) grants)
is_found [] number = All-nil (λ m. m.grant ≢ number)
is_found (g ∷ gs) number = by (g.grant == number) refl (is_found gs number)
  where
    by : (b : Bool) → (g.grant == number) ≡ b → IsGrantOf gs number (find (λ m. m.grant == number) gs)
        → IsGrantOf (g ∷ gs) number (cond b (Some g) (find (λ m. m.grant == number) gs))
    by true same is = (Contains-append_left (g ∷ []) gs g (Contains-push [] g), eqb-true g.grant number same)
    by false other is = behind g gs number other (find (λ m. m.grant == number) gs) is
