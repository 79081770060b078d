-- The objects of a namespace, by their serials.
use Rattle.std.specs.Prelude.{ℕ, Bool, false, ◌==◌, if◌then◌else◌, List, [], Option, Some, None}
use Rattle.std.specs.List.{find}
use Rattle.ld_base.specs.declared.linking.Loaded.{Loaded}
use Rattle.ld_base.specs.declared.linking.State.TheVariants.{Dying}
use Rattle.scope_rule.specs.Seen.{Seen}

-- the first object with a serial
abbrev pub with_serial : List Loaded → ℕ → Option Loaded
with_serial objects serial = find (λ o. o.serial == serial) objects

-- the object of the namespace with a serial
abbrev pub object_of : Seen → ℕ → Option Loaded
object_of s serial = with_serial s.objects serial

-- the objects that an object's names found; the linker's own object, 0, has no names
abbrev pub found_of : Seen → ℕ → List ℕ
found_of s serial = if serial == 0 then [] else elim (object_of s serial) [ Some o ↦ o.found | None ↦ [] ]

-- its destructors run
abbrev pub is_dying : Loaded → Bool
is_dying o = elim o.state [ Dying hart ↦ Bool.true | _ ↦ false ]

-- there is such an object, and its destructors run
abbrev pub is_dying_at : Seen → ℕ → Bool
is_dying_at s serial = elim (object_of s serial) [ Some o ↦ is_dying o | None ↦ false ]
