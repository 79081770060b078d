-- Search lists: where the references of objects are searched, and where the names of their versions stand.
use Rattle.std.specs.Prelude.{◌≡◌, ℕ, ◌≤◌, map, slice_get, IfSome, IsSome, Some}
use Rattle.std.specs.List.{AllByRecursion}
use Rattle.ld_base.specs.declared.linking.Loaded.{Loaded}
use Rattle.scope_rule.specs.Loading.{is_dying, object_of}
use Rattle.scope_rule.specs.Scope.{scope}
use Rattle.scope_rule.specs.Seen.{Seen}
use Rattle.scope_lists.specs.Definers.{AreDefiners}
use Rattle.scope_lists.specs.Kept.{AreScopes, kept_at}
use Rattle.scope_lists.specs.Links.{AreLinks}
use Rattle.scope_lists.specs.NameOrders.{AreNameOrders}
use Rattle.scope_rule.specs.Places.{place_in}
use Rattle.scope_lists.specs.Searched.{FindsAlike, at_place, in_parts, serials_in}
use Rattle.scope_lists.specs.declared.lists.SearchLists.{SearchLists}
use Rattle.scope_lists.specs.declared.searched.ScopeParts.{ScopeParts}
use Rattle.scope_lists.specs.declared.searched.Searched.{Searched}
use Rattle.scope_lists.specs.VersionPlaces.Places.{places_of}

-- the lists are of what is seen of a namespace: they know what its objects lead to, where the names of their versions stand, and of some the
-- definitions by name and the Scope
pub record AreListsOf (s : Seen) (lists : SearchLists) : Type 0 where
  pub links : AreLinks s lists.links
  pub names : lists.names.items ≡ map (λ o. places_of o.object) s.objects
  pub orders : AreNameOrders s lists.orders
  pub scopes : AreScopes s lists.scopes

-- they know the Scope of the object at a place in load order
abbrev pub IsListedAt : SearchLists → ℕ → Type 0
IsListedAt lists place = IsSome (kept_at lists.scopes place)

-- they know that of the object with a serial
abbrev pub IsListed : SearchLists → ℕ → Type 0
IsListed lists owner = (place : ℕ) → place_in lists.links.places owner ≡ Some place → IsListedAt lists place

-- they know those of the objects from a place on
abbrev pub AreListed : Seen → ℕ → SearchLists → Type 0
AreListed s first lists = (place : ℕ) (o : Loaded) → first ≤ place → slice_get s.objects place ≡ Some o → IsListedAt lists place

-- an object that is searched stands where the one of its serial does
abbrev pub IsSearched : Seen → Searched → Type 0
IsSearched s x = at_place s x.place ≡ object_of s x.serial

-- a search of these parts finds what one of an object's Scope does, their objects stand where those of their serials do, and what is known of
-- the definitions of their global list is so
pub record ArePartsOf (s : Seen) (o : Loaded) (parts : ScopeParts) : Type 0 where
  pub alike : FindsAlike (serials_in (in_parts parts)) (scope s o)
  pub places : AllByRecursion (IsSearched s) (in_parts parts)
  pub definers : IfSome parts.definers (λ d. AreDefiners s.objects parts.global.now d.now)

-- an object but for its state; it is closing exactly where it was
pub record ChangesStateAlone (before after : Loaded) : Type 0 where
  pub rest : after ≡ record before { state = after.state }
  pub closing : is_dying after ≡ is_dying before
