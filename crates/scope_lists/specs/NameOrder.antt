-- Where the definitions of a name stand in an object (gABI, "Symbol Table"; Drepper, "ELF Symbol Versioning").
use Rattle.std.specs.Prelude.{◌≡◌, ℕ, ◌&&◌, ◌||◌, ◌==◌, not, nat_le, Bool, true, false, List, [], ◌∷◌, filter, length, slice_get, Option, None, IfSome}
use Rattle.std.specs.Cmp.Lexicographic.{slice_cmp}
use Rattle.std.specs.List.{range_with_len}
use Rattle.std.specs.List.Sorted.{IsSortedByKey}
use Rattle.std.specs.Option.{option_map_or, option_to_list}
use Rattle.std.specs.Ordering.{is_eq, nat_cmp}
use Rattle.ld_base.specs.declared.object.Object.{Object}
use Rattle.ld_base.specs.declared.object.Symbol.{Symbol}
use Rattle.ld_base.specs.Pick.{has_version, is_offer}
use Rattle.ld_base.specs.Symbol.{is_visible_definition, version_index}
use Rattle.ld_base.specs.Version.{version_name}
use Rattle.scope_lists.specs.VersionPlaces.Places.{places_of}
use Rattle.scope_lists.specs.declared.name_order.keys.Keys.{Keys}
use Rattle.scope_lists.specs.declared.name_order.keys.Keys.TheVariants as keys

-- the symbol at an index may be exported, and passes
abbrev pub exports : Object → (Symbol → Bool) → ℕ → Bool
exports o test k = nat_le o.first_exported k && option_map_or test (slice_get o.symbols k) false

-- the indexes of those symbols, ascending
abbrev pub exported : Object → (Symbol → Bool) → List ℕ
exported o test = filter (exports o test) (range_with_len 0 (length o.symbols))

-- those of the definitions of a name
abbrev pub offers_of : Object → List ℕ → List ℕ
offers_of o name = exported o (is_offer o name)

-- those of them whose version has a name
abbrev pub versions_of : Object → List ℕ → List ℕ → List ℕ
versions_of o name version = exported o (λ s. is_offer o name s && has_version o version s)

-- those of them without a version, whose version word is 1: every reference with a version takes them
abbrev pub unversioned_of : Object → List ℕ → List ℕ
unversioned_of o name = exported o (λ s. is_offer o name s && s.version == 1)

-- ---- their order

-- a definition of some name
abbrev pub is_offered : Object → Symbol → Bool
is_offered o s = is_visible_definition s && (not o.has_versym || not (version_index s == 0))

-- the version word of the symbol at an index is 1: it has no version
abbrev pub is_unversioned_at : Object → ℕ → Bool
is_unversioned_at o k = option_map_or (λ s. s.version == 1) (slice_get o.symbols k) false

-- the name of the symbol at an index, and that of its version
abbrev pub name_at : Object → ℕ → List ℕ
name_at o k = option_map_or (λ s. s.name) (slice_get o.symbols k) []

abbrev pub version_at : Object → ℕ → Option (List ℕ)
version_at o k = option_map_or (λ s. version_name o (version_index s)) (slice_get o.symbols k) None

-- what a symbol is put in the order of: its name, or its name and then that of its version if it has one
abbrev pub by_name : Object → ℕ → List (List ℕ)
by_name o k = name_at o k ∷ []

abbrev pub by_version : Object → ℕ → List (List ℕ)
by_version o k = name_at o k ∷ option_to_list (version_at o k)

abbrev pub has_key : (ℕ → List (List ℕ)) → List (List ℕ) → ℕ → Bool
has_key key sought k = is_eq (slice_cmp (slice_cmp nat_cmp) (key k) sought)

-- some indexes in the order of their keys, those of one key as they stood
pub record IsOrder (key : ℕ → List (List ℕ)) (indexes order : List ℕ) : Type 0 where
  pub sorted : IsSortedByKey key (slice_cmp (slice_cmp nat_cmp)) order
  pub runs : (sought : List (List ℕ)) → filter (has_key key sought) order ≡ filter (has_key key sought) indexes

-- the definitions of an object in the order of their names, where it has versions in that of their names and versions, and those without a version
-- in that of their names
pub record Orders : Type 0 where
  pub names : List ℕ
  pub versions : List ℕ
  pub unversioned : List ℕ

-- these are the orders of an object
pub record IsNameOrder (o : Object) (orders : Orders) : Type 0 where
  pub names : IsOrder (by_name o) (exported o (is_offered o)) orders.names
  pub versions : o.has_versym ≡ true → IsOrder (by_version o) (exported o (is_offered o)) orders.versions
  pub unversioned : o.has_versym ≡ true → IsOrder (by_name o) (filter (is_unversioned_at o) (exported o (is_offered o))) orders.unversioned

-- ---- for the code of this crate alone

-- what the symbol at an index is put in the order of
abbrev pub key_of : Keys → ℕ → List (List ℕ)
key_of (keys.Names o) k = by_name o.now k
key_of (keys.Versions o names) k = by_version o.now k

-- the names of versions that are known are those of the object
abbrev pub KnowsVersions : Keys → Type 0
KnowsVersions (keys.Names o) = Unit
KnowsVersions (keys.Versions o names) = IfSome names (λ n. n.now ≡ places_of o.now)
