-- What it is for a reference to take a definition, by relations (gABI, "Symbol Table"; Drepper, "ELF Symbol Versioning"; dlsym(3)).
use Rattle.std.specs.Prelude.{◌≡◌, ◌≤◌, ◌⊎◌, ℕ, Bool, not, ◌&&◌, ◌||◌, List, Some, IsTrue}
use Rattle.std.specs.List.{slice_get}
use Rattle.ld_base.specs.declared.object.Object.{Object}
use Rattle.ld_base.specs.declared.object.Symbol.{Symbol}
use Rattle.ld_base.specs.declared.linking.Want.{Want}
use Rattle.ld_base.specs.Symbol.{is_hidden_version}
use Rattle.ld_base.specs.Pick.{is_offer, is_wanted, names_no_version}

-- the symbol with the index k may be exported, and passes
abbrev pub Exports : Object → (Symbol → Bool) → ℕ → Type 0
Exports o test k = (o.first_exported ≤ k) × (s : Symbol) × (slice_get o.symbols k ≡ Some s) × IsTrue (test s)

-- no symbol that may be exported passes
abbrev pub ExportsNone : Object → (Symbol → Bool) → Type 0
ExportsNone o test = (k : ℕ) → Exports o test k → ⊥

-- k is the least index of those that pass
abbrev pub IsLeast : Object → (Symbol → Bool) → ℕ → Type 0
IsLeast o test k = Exports o test k × ((j : ℕ) → Exports o test j → k ≤ j)

-- k is the only index of those that pass
abbrev pub IsOnly : Object → (Symbol → Bool) → ℕ → Type 0
IsOnly o test k = Exports o test k × ((j : ℕ) → Exports o test j → j ≡ k)

-- a definition of the name, of a version that is wanted; an object without versions has none to ask for
abbrev pub fits : Object → List ℕ → Want → Symbol → Bool
fits o name want s = is_offer o name s && (not o.has_versym || is_wanted o want s)

-- a definition of the name that isn't hidden
abbrev pub in_sight : Object → List ℕ → Symbol → Bool
in_sight o name s = is_offer o name s && not (is_hidden_version s)

-- a reference to the name takes the definition k of an object: the first that fits; or, where none fits and the
-- reference names no version, the only one in sight
abbrev pub Takes : Object → List ℕ → Want → ℕ → Type 0
Takes o name want k =
    IsLeast o (fits o name want) k
    ⊎ (IsTrue (o.has_versym && names_no_version want) × ExportsNone o (fits o name want) × IsOnly o (in_sight o name) k)
