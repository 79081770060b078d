-- What is searched for the references of an object.
use Rattle.std.specs.Prelude.{◌≡◌, ℕ, List, ◌++◌, Option, Some, None, map, slice_get}
use Rattle.ld_base.specs.declared.linking.Loaded.{Loaded}
use Rattle.scope_rule.specs.Choose.{first_with}
use Rattle.scope_rule.specs.Seen.{Seen}
use Rattle.scope_lists.specs.declared.searched.ScopeParts.{ScopeParts}
use Rattle.scope_lists.specs.declared.searched.Searched.{Searched}

-- the serials of objects that are searched
abbrev pub serials_in : List Searched → List ℕ
serials_in xs = map (λ x. x.serial) xs

-- the object at a place among these, if any; in load order
abbrev pub object_at : List Loaded → Option ℕ → Option Loaded
object_at objects (Some place) = slice_get objects place
object_at objects None = None

abbrev pub at_place : Seen → Option ℕ → Option Loaded
at_place s place = object_at s.objects place

-- the objects of parts, one after another
abbrev pub in_parts : ScopeParts → List Searched
in_parts parts = parts.before.now ++ parts.global.now ++ parts.after.now

-- a search of some objects finds what one of others does, whatever is sought
abbrev pub FindsAlike : List ℕ → List ℕ → Type 0
FindsAlike xs ys = (pick : ℕ → Option ℕ) → first_with pick xs ≡ first_with pick ys
