-- Where objects stand, by their paths and by the names that they give themselves.
use Rattle.std.specs.Prelude.{◌≡◌, ℕ, List, None, position}
use Rattle.std.specs.Str.{bytes_eq}
use Rattle.ld_base.specs.declared.linking.Loaded.{Loaded}
use Rattle.ld_base.specs.declared.object.Object.{Object}
use Rattle.scope_rule.specs.declared.arrival.Arrival.{Arrival}
use Rattle.scope_rule.specs.Finding.{is_named}
use Rattle.load_walk.specs.declared.places.ObjectPlaces.{ObjectPlaces}
use Rattle.load_walk.specs.Lookup.{TakePlace, place_of}

-- no name has a place
pub record HasNoPlaces (places : ObjectPlaces) : Type 0 where
  pub paths : (name : List ℕ) → place_of places.paths.firsts.entries name ≡ None
  pub sonames : (name : List ℕ) → place_of places.sonames.firsts.entries name ≡ None

-- the names of an object with a path take a place
pub record NotesObject (old new : ObjectPlaces) (path : List ℕ) (object : Object) (place : ℕ) : Type 0 where
  pub paths : TakePlace old.paths new.paths (λ name. bytes_eq path name) place
  pub sonames : TakePlace old.sonames new.sonames (λ name. is_named name object) place

-- each name has the place where it comes first in a list, whose elements have paths and objects
pub record AreObjectPlaces {X : Type 0} (path : X → List ℕ) (object : X → Object) (xs : List X) (places : ObjectPlaces) : Type 0 where
  pub paths : (name : List ℕ) → place_of places.paths.firsts.entries name ≡ position (λ x. bytes_eq (path x) name) xs
  pub sonames : (name : List ℕ) → place_of places.sonames.firsts.entries name ≡ position (λ x. is_named name (object x)) xs

-- the places of new objects, and of objects that are there
abbrev pub OfArrivals : List Arrival → ObjectPlaces → Type 0
OfArrivals = AreObjectPlaces (λ o. o.path) (λ o. o.object)

abbrev pub OfLoaded : List Loaded → ObjectPlaces → Type 0
OfLoaded = AreObjectPlaces (λ o. o.path) (λ o. o.object)
