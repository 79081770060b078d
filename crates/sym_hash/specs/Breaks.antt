-- What it is for hash tables to be those of an object, and to break rule 19.
use Rattle.std.specs.Prelude.{◌≡◌, ℕ, ◌≤◌, IsTrue, List, length, Some}
use Rattle.std.specs.List.{slice_get}
use Rattle.ld_base.specs.Symbol.{is_visible_definition}
use Rattle.ld_base.specs.declared.fault.NotAccepted.{NotAccepted}
use Rattle.ld_base.specs.declared.object.Symbol.{Symbol}
use Rattle.ld_base.specs.declared.parts.DynParts.{DynParts}
use Rattle.ld_base.specs.declared.parts.HashTable.{HashTable}
use Rattle.ld_base.specs.declared.parts.Head.{Head}
use Rattle.elf_head.specs.AcceptancePart.First.{IsFirst, IsFirstBroken}
use Rattle.elf_head.specs.DynTable.HashWords.{hash_words}
use Rattle.sym_hash.specs.Reached.{IsTableFor, Reached, WalksEnd}

-- the symbol of this index is an exported definition that isn't reached under its name
pub record IsMissedAt (t : HashTable) (symbols : List Symbol) (first i : ℕ) : Type 0 where
  pub symbol : Symbol
  pub exported : first ≤ i
  pub stands : slice_get symbols i ≡ Some symbol
  pub visible : IsTrue (is_visible_definition symbol)
  pub missed : Reached t symbol.name i → ⊥

-- the rule is broken with this number: a walk doesn't end; or all do, and this is the first exported definition that isn't reached
pub data Breaks (t : HashTable) (symbols : List Symbol) (first : ℕ) : ℕ → ℕ → Type 0 where
  no_end : (WalksEnd t (length symbols) → ⊥) → Breaks t symbols first 19 0
  not_reached : WalksEnd t (length symbols) → (i : ℕ) → IsFirst (IsMissedAt t symbols first) i → Breaks t symbols first 19 i

-- the tables of an object with these parts break it
abbrev pub BreaksHash : List ℕ → Head → DynParts → NotAccepted → Type 0
BreaksHash bytes head parts fault = IsFirstBroken (Breaks (hash_words bytes head.headers parts.tags) parts.symbols parts.first_exported) fault

-- these are the words of the tables of an object with these parts, and by them each walk ends and each exported definition is reached
abbrev pub IsHashTable : List ℕ → Head → DynParts → HashTable → Type 0
IsHashTable bytes head parts t = (t ≡ hash_words bytes head.headers parts.tags) × IsTableFor t parts.symbols parts.first_exported
