-- What an object says of its symbols and hash tables.
use Rattle.std.specs.Prelude.{◌≡◌, ◌∷◌}
use Rattle.std.specs.Option.{option_map_or}
use Rattle.ld_base.specs.declared.parts.DynParts.{DynParts}
use Rattle.ld_base.specs.declared.parts.HashTable.{HashTable}
use Rattle.asm_write.specs.declared.contents.Contents.{Contents}
use Rattle.asm_write.specs.Starts.{starts_of}
use Rattle.asm_laws.specs.ElfSpelled.Said.{AreSaidBy}
use Rattle.asm_accepted.specs.ElfTabled.Tables.{SaysSymbol, null_entry}

abbrev pub said_tables : Contents → HashTable
said_tables contents = record { gnu = contents.gnu; sysv = contents.sysv }

-- the symbols behind the null symbol, and the first that a hash table may lead to
pub record SaysSymbols (contents : Contents) (said : DynParts) : Type 0 where
  pub symbols : AreSaidBy (SaysSymbol (starts_of contents) contents.strings) (null_entry ∷ contents.symbols) said.symbols
  pub first_exported : said.first_exported ≡ option_map_or (λ g. g.symoffset) contents.gnu 1
