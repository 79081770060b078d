-- What the tables of an object say of what it holds.
use Rattle.std.specs.Prelude.{◌≡◌, ℕ, ◌+◌, ◌^◌, ◌<◌, ⊤, true, pos, List, [], ◌∷◌, map, filter, None}
use Rattle.std.specs.Int.{w64, cast_signed}
use Rattle.ld_base.specs.declared.object.Reloc.{Reloc}
use Rattle.ld_base.specs.declared.object.Symbol.{Symbol}
use Rattle.ld_base.specs.declared.parts.DynParts.{DynParts}
use Rattle.elf_dynamic.specs.Parts.{AreNamesAt, IsNameAt, IsNameOf}
use Rattle.asm_write.specs.declared.contents.Contents.{Contents}
use Rattle.asm_write.specs.declared.contents.Fix.{Fix}
use Rattle.asm_write.specs.declared.contents.SymbolEntry.{SymbolEntry}
use Rattle.asm_write.specs.declared.part.Part.TheVariants as parts
use Rattle.asm_write.specs.declared.starts.Starts.{Starts}
use Rattle.asm_write.specs.Records.{fix_addend, rela_fields, reloc_type, section_index, symbol_fields, symbol_value, target_symbol}
use Rattle.asm_write.specs.Sizes.{has_listed}
use Rattle.asm_write.specs.Starts.{address_in, start_in, starts_of, wrapped}
use Rattle.asm_laws.specs.ElfRecords.Numbers.{AllFit}

-- a relocation for each place that the linker is told of by one
abbrev pub said_reloc : Starts → Fix → Reloc
said_reloc starts fix = record {
  place = address_in starts fix.spot;
  kind = reloc_type fix.kind fix.target;
  symbol = target_symbol fix.target;
  addend = cast_signed w64 (fix_addend starts fix.kind fix.target fix.addend);
}

abbrev pub said_relocs : Contents → List Reloc
said_relocs contents = map (said_reloc (starts_of contents)) (filter has_listed contents.fixes)

-- a slot for each symbol that has one, a doubleword behind the other; R_RISCV_JUMP_SLOT is 5
abbrev pub slots_at : ℕ → List ℕ → List Reloc
slots_at place [] = []
slots_at place (symbol ∷ symbols) = record { place = place; kind = 5; symbol = symbol; addend = pos 0 } ∷ slots_at (wrapped (place + 8)) symbols

abbrev pub said_slots : Contents → List Reloc
said_slots contents = slots_at (wrapped (start_in (starts_of contents) parts.GotPlt + 16)) contents.slots

-- the numbers of these relocations are ones that their fields hold
abbrev pub ListedFit : Starts → List Fix → Type 0
ListedFit starts [] = ⊤
ListedFit starts (fix ∷ fixes) = (has_listed fix ≡ true → AllFit (rela_fields starts fix)) × ListedFit starts fixes

abbrev pub AreSymbolNumbers : List ℕ → Type 0
AreSymbolNumbers [] = ⊤
AreSymbolNumbers (symbol ∷ symbols) = (symbol < 2 ^ 32) × AreSymbolNumbers symbols

-- a symbol of this name; its version isn't of this table
abbrev pub said_symbol : Starts → SymbolEntry → List ℕ → Symbol
said_symbol starts entry name = record {
  name = name;
  info = entry.info;
  other = entry.other;
  shndx = section_index entry.spot;
  value = symbol_value starts entry.spot;
  size = entry.size;
  version = 0;
}

-- the null symbol
abbrev pub null_entry : SymbolEntry
null_entry = record { name = 0; info = 0; other = 0; spot = None; size = 0; version = 0 }

-- a symbol whose name is the string at its offset
pub record SaysSymbol (starts : Starts) (strings : List ℕ) (entry : SymbolEntry) (said : Symbol) : Type 0 where
  pub name : IsNameAt strings entry.name said.name
  pub fields : said ≡ said_symbol starts entry said.name

abbrev pub SymbolsFit : Starts → List SymbolEntry → Type 0
SymbolsFit starts [] = ⊤
SymbolsFit starts (entry ∷ entries) = AllFit (symbol_fields starts entry) × SymbolsFit starts entries

-- the object's own name and those of the libraries that it needs, by the strings that it has
pub record SaysNames (contents : Contents) (said : DynParts) : Type 0 where
  pub soname : IsNameOf contents.strings contents.soname said.soname
  pub needed : AreNamesAt contents.strings contents.needed said.needed
