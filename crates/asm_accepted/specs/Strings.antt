-- The names of an object, each a string of its table.
use Rattle.std.specs.Prelude.{ℕ, ⊤, List, ◌∷◌, Option, Some, None}
use Rattle.ld_base.specs.declared.object.Symbol.{Symbol}
use Rattle.ld_base.specs.declared.parts.DynParts.{DynParts}
use Rattle.elf_head.specs.DynTable.Name.{IsStringAt}
use Rattle.asm_write.specs.declared.contents.Contents.{Contents}
use Rattle.asm_write.specs.declared.contents.SymbolEntry.{SymbolEntry}
use Rattle.asm_laws.specs.ElfSpelled.Said.{AreSaidBy}
use Rattle.asm_accepted.specs.ElfTabled.Tables.{null_entry}

-- the string at an offset, where there is an offset
abbrev pub IsStringOf : List ℕ → Option ℕ → Option (List ℕ) → Type 0
IsStringOf strings None None = ⊤
IsStringOf strings (Some offset) (Some name) = IsStringAt strings offset name
IsStringOf strings None (Some name) = ⊥
IsStringOf strings (Some offset) None = ⊥

-- the name of a symbol is the string at its offset
abbrev pub IsNamed : List ℕ → SymbolEntry → Symbol → Type 0
IsNamed strings entry said = IsStringAt strings entry.name said.name

-- the object's own name, those of the libraries that it needs, and those of its symbols, the null symbol first
pub record NamesAreStrings (contents : Contents) (said : DynParts) : Type 0 where
  pub soname : IsStringOf contents.strings contents.soname said.soname
  pub needed : AreSaidBy (IsStringAt contents.strings) contents.needed said.needed
  pub symbols : AreSaidBy (IsNamed contents.strings) (null_entry ∷ contents.symbols) said.symbols
