-- Without new objects nothing is refused.
use Rattle.std.proofs.Common.{◌≡◌, ◌==◌, Bool, true, List, [], ◌∷◌, length, Option, None, refl, sym, ◌∙◌, arith}
use Rattle.std.proofs.lemmas.Bool.{false≢true, ne_eqb}
use Rattle.ld_base.specs.declared.fault.DlFault.{DlFault}
use Rattle.ld_base.specs.declared.linking.Loaded.{Loaded}
use Rattle.history_state.specs.Relocating.{first_fault}

pub none_of_none : (fault : Loaded → Option DlFault) (added : List Loaded) (empty : Bool) → empty ≡ (length added == 0) → empty ≡ true → first_fault fault added ≡ None
none_of_none fault [] empty is holds = refl
none_of_none fault (o ∷ rest) empty is holds =
    absurd (false≢true (sym (ne_eqb (length (o ∷ rest)) 0 (λ same. absurd (omega (arith, same)))) ∙ (sym is ∙ holds)))
