-- Which definition a search by an object's hash table finds (gABI, "Hash Table" and "Symbol Table"; Drepper, "ELF Symbol Versioning").
use Rattle.std.specs.Prelude.{◌≡◌, ◌≤◌, ◌⊎◌, ℕ, Bool, ◌&&◌, List, IsTrue}
use Rattle.ld_base.specs.declared.linking.Want.{Want}
use Rattle.ld_base.specs.declared.object.Object.{Object}
use Rattle.ld_base.specs.declared.object.Symbol.{Symbol}
use Rattle.ld_base.specs.declared.parts.HashTable.{HashTable}
use Rattle.ld_base.specs.Pick.{names_no_version}
use Rattle.ld_base.specs.Taken.{Exports, fits, in_sight}
use Rattle.sym_hash.specs.Reached.{Reached}

-- the symbol k may be exported, it passes, and the table leads to it under the name
abbrev pub Offers : HashTable → Object → List ℕ → (Symbol → Bool) → ℕ → Type 0
Offers t o name test k = Exports o test k × Reached t name k

-- no number is one of those
abbrev pub Nowhere : (ℕ → Type 0) → Type 0
Nowhere P = (k : ℕ) → P k → ⊥

-- k is the least of those numbers
abbrev pub Least : (ℕ → Type 0) → ℕ → Type 0
Least P k = P k × ((j : ℕ) → P j → k ≤ j)

-- k is the only one of those numbers
abbrev pub Only : (ℕ → Type 0) → ℕ → Type 0
Only P k = P k × ((j : ℕ) → P j → j ≡ k)

-- Finds: what a reference takes in an object, of the symbols that the table leads to: the first that fits; or, where none of
-- them fits and the reference names no version, the only one of them in sight
abbrev pub Finds : HashTable → Object → List ℕ → Want → ℕ → Type 0
Finds t o name want k =
    Least (Offers t o name (fits o name want)) k
    ⊎ (IsTrue (o.has_versym && names_no_version want) × Nowhere (Offers t o name (fits o name want)) × Only (Offers t o name (in_sight o name)) k)
