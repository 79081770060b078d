-- What it is for the dynamic table and the tables that it names to say something, and to break a rule.
use Rattle.std.specs.Prelude.{ℕ, Bool, List, ◌++◌, length}
use Rattle.ld_base.specs.declared.fault.NotAccepted.{NotAccepted}
use Rattle.ld_base.specs.declared.parts.DynParts.{DynParts}
use Rattle.ld_base.specs.declared.parts.Head.{Head}
use Rattle.ld_base.specs.declared.parts.Tag.{Tag}
use Rattle.elf_head.specs.AcceptancePart.First.{IsFirst, IsFirstBroken, NoneBroken}
use Rattle.elf_head.specs.DynTable.HashWords.{hash_words}
use Rattle.elf_head.specs.DynTable.TagNumbers.{dt_symtab}
use Rattle.elf_dynamic.specs.Breaks.{named, HasFeature, IsBadRelocAt, IsBadSlotAt, IsBadSymbolAt, IsBadTable, Lacks, LacksName, LacksSymbolName, LacksSymbols}
use Rattle.elf_dynamic.specs.Parts.{AreParts, AreTags}

-- tables that say these parts break the rule with this number
pub data TablesBreak (bytes : List ℕ) (head : Head) (program : Bool) (parts : DynParts) (say : AreParts bytes head.headers parts) : ℕ → ℕ → Type 0 where
  bad_table : (tag : ℕ) → IsFirst (IsBadTable head.headers parts.tags (hash_words bytes head.headers parts.tags)) tag
      → TablesBreak bytes head program parts say 11 tag
  lacks_symbols : ((tag : ℕ) → IsBadTable head.headers parts.tags (hash_words bytes head.headers parts.tags) tag → ⊥)
      → LacksSymbols head.headers parts.tags (length parts.symbols) → TablesBreak bytes head program parts say 11 dt_symtab
  bad_name : (k offset : ℕ) → IsFirst (Lacks (LacksName say.strings parts.tags)) k → LacksName say.strings parts.tags k offset
      → TablesBreak bytes head program parts say 12 offset
  bad_symbol_name : ((k : ℕ) → Lacks (LacksName say.strings parts.tags) k → ⊥) → (symbol offset : ℕ)
      → IsFirst (Lacks (LacksSymbolName say.strings say.table (length parts.symbols))) symbol
      → LacksSymbolName say.strings say.table (length parts.symbols) symbol offset
      → TablesBreak bytes head program parts say 12 offset
  bad_symbol : (symbol : ℕ) → IsFirst (IsBadSymbolAt head.headers parts.symbols) symbol → TablesBreak bytes head program parts say 13 symbol
  bad_reloc : (index : ℕ) → IsFirst (IsBadRelocAt head.headers parts.symbols parts.relocs say.words parts.relr) index
      → TablesBreak bytes head program parts say 14 index
  has_feature : (feature : ℕ) → IsFirst (HasFeature head program parts.tags parts.symbols (parts.relocs ++ parts.plt_relocs)) feature
      → TablesBreak bytes head program parts say 15 feature
  bad_slot : (index : ℕ)
      → IsFirst (IsBadSlotAt bytes head.headers parts.symbols (named parts.symbols parts.relocs parts.relr) parts.plt_relocs parts.pltgot) index
      → TablesBreak bytes head program parts say 16 index

-- the file breaks the rule with this number: it has no dynamic table that ends, or its tables break it
pub data Breaks (bytes : List ℕ) (head : Head) (program : Bool) : ℕ → ℕ → Type 0 where
  no_table : ((tags : List Tag) → AreTags bytes head.headers tags → ⊥) → Breaks bytes head program 10 0
  by_tables : (parts : DynParts) (say : AreParts bytes head.headers parts) (rule number : ℕ) → TablesBreak bytes head program parts say rule number
      → Breaks bytes head program rule number

-- no rule is broken, and the tables say each field
pub record SpellsDynamic (bytes : List ℕ) (head : Head) (program : Bool) (parts : DynParts) : Type 0 where
  pub kept : NoneBroken (Breaks bytes head program)
  pub say : AreParts bytes head.headers parts

-- the rule is broken with this number, and no rule before it is broken
abbrev pub BreaksFirst : List ℕ → Head → Bool → NotAccepted → Type 0
BreaksFirst bytes head program fault = IsFirstBroken (Breaks bytes head program) fault

-- the parts of a file with this head, as the program's or as another object's
abbrev pub ArePartsOf : List ℕ → Head → DynParts → Type 0
ArePartsOf bytes head parts = (program : Bool) × SpellsDynamic bytes head program parts
