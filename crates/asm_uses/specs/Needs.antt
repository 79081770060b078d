-- What references need of versions, by the names that they are to.
use Rattle.std.specs.Prelude.{◌≡◌, ℕ, List, [], ◌∷◌, map, Option, Some, None}
use Rattle.std.specs.Global.{Vec}
use Rattle.asm_statement.specs.declared.directive.Need.{Need}
use Rattle.asm_layout.specs.Uses.{with_need}

abbrev pub values_of : List (Vec ℕ × Need) → List Need
values_of entries = map (λ entry. entry.1) entries

-- each need stands under its own name
abbrev pub AreByName : List (Vec ℕ × Need) → Type 0
AreByName [] = Unit {0}
AreByName (entry ∷ entries) = (entry.0.items ≡ entry.1.name) × AreByName entries

-- one need more, where there is one
abbrev pub with_found : List Need → Option Need → List Need
with_found needs None = needs
with_found needs (Some need) = with_need needs need
