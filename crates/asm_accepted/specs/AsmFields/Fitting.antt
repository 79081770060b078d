-- Numbers of an object that the fields of its tables hold.
use Rattle.asm_write.specs.declared.contents.Contents.{Contents}
use Rattle.asm_write.specs.Starts.{starts_of}
use Rattle.asm_laws.specs.ElfSpelled.Said.{TellsNumbers}
use Rattle.asm_accepted.specs.ElfTabled.Tables.{AreSymbolNumbers, ListedFit, SymbolsFit}

-- those of the dynamic table, of relocations, slots and symbols
pub record NumbersFit (contents : Contents) : Type 0 where
  pub tells : TellsNumbers contents
  pub listed : ListedFit (starts_of contents) contents.fixes
  pub slots : AreSymbolNumbers contents.slots
  pub symbols : SymbolsFit (starts_of contents) contents.symbols
