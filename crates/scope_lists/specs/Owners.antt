-- The objects whose scopes are asked for: for the code of this crate alone.
use Rattle.std.specs.Prelude.{◌≡◌, ℕ, Bool, true, ◌||◌, not, List}
use Rattle.std.specs.List.{list_any}
use Rattle.ld_base.specs.declared.linking.Loaded.{Loaded}
use Rattle.scope_rule.specs.Breadth.{has}
use Rattle.scope_lists.specs.declared.owners.Owners.{Owners}

abbrev pub IsOwner : Owners → ℕ → Type 0
IsOwner owners serial = has owners.serials.keys serial ≡ true

-- those that were are
abbrev pub OwnsMore : Owners → Owners → Type 0
OwnsMore old new = (serial : ℕ) → IsOwner old serial → IsOwner new serial

-- an object is one of them, or found none of them
abbrev pub leads_elsewhere : List ℕ → Loaded → Bool
leads_elsewhere owners o = has owners o.serial || not (list_any (λ x. has owners x) o.found)
