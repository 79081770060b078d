-- Which objects of a list have definitions under a hash (the GNU hash table).
use Rattle.std.specs.Prelude.{◌≡◌, ◌↔◌, ◌⊎◌, ℕ, ◌+◌, ◌*◌, ◌^◌, ◌<◌, ◌≤◌, ◌==◌, true, false, List, length, slice_get, option_map, Option, Some, None}
use Rattle.std.specs.List.{All, Contains}
use Rattle.std.specs.List.Sorted.{IsNonDecreasingBy}
use Rattle.ld_base.specs.declared.linking.Loaded.{Loaded}
use Rattle.ld_base.specs.declared.object.Object.{Object}
use Rattle.sym_hash.specs.Hash.{gnu_hash}
use Rattle.scope_lists.specs.NameOrder.{exports, is_offered, name_at}
use Rattle.scope_lists.specs.Searched.{object_at}
use Rattle.scope_lists.specs.declared.definers.Definer.{Definer}
use Rattle.scope_lists.specs.declared.searched.Searched.{Searched}

-- the symbol at an index is a definition under a hash that others may ask for
pub record DefinesAs (o : Object) (hash index : ℕ) : Type 0 where
  pub exported : exports o (is_offered o) index ≡ true
  pub hashed : gnu_hash (name_at o index) ≡ hash

-- one symbol of an object is
abbrev pub Defines : Object → ℕ → Type 0
Defines o hash = (index : ℕ) × DefinesAs o hash index

-- the object of an entry among these, if it is there, and of the entry at a place of a list
abbrev pub object_of_entry : List Loaded → Option Searched → Option Object
object_of_entry objects (Some x) = option_map (λ o. o.object) (object_at objects x.place)
object_of_entry objects None = None

abbrev pub object_in : List Loaded → List Searched → ℕ → Option Object
object_in objects list place = object_of_entry objects (slice_get list place)

-- the object at a place of a list has a definition under a hash
pub record DefinesAt (objects : List Loaded) (list : List Searched) (hash place : ℕ) : Type 0 where
  pub object : Object
  pub stands : object_in objects list place ≡ Some object
  pub defines : Defines object hash

-- of those from a place on it is the first
pub record DefinesFirst (objects : List Loaded) (list : List Searched) (hash from next : ℕ) : Type 0 where
  pub behind : from ≤ next
  pub within : next < length list
  pub defines : DefinesAt objects list hash next
  pub first : (place : ℕ) → from ≤ place → DefinesAt objects list hash place → next ≤ place

-- no object of a list from a place on has one; or the first that has one stands at this place
abbrev pub IsNextDefiner : List Loaded → List Searched → ℕ → ℕ → Option ℕ → Type 0
IsNextDefiner objects list hash from None = (place : ℕ) → from ≤ place → DefinesAt objects list hash place → ⊥
IsNextDefiner objects list hash from (Some next) = DefinesFirst objects list hash from next

-- by their hashes, and those of one hash by their places
abbrev pub rank : Definer → ℕ
rank d = d.hash * 2 ^ 32 + d.place

-- they are of all objects of a list in which the linker isn't, in their order
pub record AreDefiners (objects : List Loaded) (list : List Searched) (definers : List Definer) : Type 0 where
  pub few : length list < 2 ^ 32
  pub others : All (λ x. (x.serial == 0) ≡ false) list
  pub each : (d : Definer) → Contains definers d ↔ DefinesAt objects list d.hash d.place
  pub sorted : IsNonDecreasingBy rank definers

-- ---- for the code of this crate alone

-- none of them ranks from there on; or this is the first that does
abbrev pub IsFirstFrom : ℕ → List Definer → Option Definer → Type 0
IsFirstFrom low definers None = (d : Definer) → Contains definers d → rank d < low
IsFirstFrom low definers (Some first) = Contains definers first × (low ≤ rank first) × ((d : Definer) → Contains definers d → low ≤ rank d → rank first ≤ rank d)

-- they are of the first so many objects of a list
abbrev pub AreDefinersBelow : ℕ → List Loaded → List Searched → List Definer → Type 0
AreDefinersBelow count objects list definers = (d : Definer) → Contains definers d ↔ ((d.place < count) × DefinesAt objects list d.hash d.place)

-- an object more, at a place of the list, which has definitions under these hashes
abbrev pub DefinesMore : (ℕ → Type 0) → ℕ → List Definer → List Definer → Type 0
DefinesMore under place old new = (d : Definer) → Contains new d ↔ (Contains old d ⊎ ((d.place ≡ place) × under d.hash))
