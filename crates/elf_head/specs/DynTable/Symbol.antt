-- The symbol table (gABI, "Symbol Table").
use Rattle.std.specs.Prelude.{ℕ, ◌+◌, List, slice_index}
use Rattle.ld_base.specs.Field.{field}
use Rattle.ld_base.specs.declared.object.Symbol.{Symbol}
use Rattle.elf_head.specs.AcceptancePart.Table.{table}
use Rattle.elf_head.specs.DynTable.Name.{string_in}

-- the offset of its name in the string table (st_name)
abbrev pub symbol_name : List ℕ → ℕ → ℕ
symbol_name bytes at = field 4 bytes at

-- a symbol of this name, its other fields at their places; its version isn't here
abbrev pub symbol_named : List ℕ → ℕ → List ℕ → Symbol
symbol_named bytes at name = record {
  name = name;
  info = slice_index bytes (at + 4);
  other = slice_index bytes (at + 5);
  shndx = field 2 bytes (at + 6);
  value = field 8 bytes (at + 8);
  size = field 8 bytes (at + 16);
  version = 0;
}

-- the first n symbols, each 24 bytes after the one before, with their names, an empty one where there is no string
unfoldable pub symbols_in : List ℕ → List ℕ → ℕ → List Symbol
symbols_in bytes strings n = table (λ at. symbol_named bytes at (string_in strings (symbol_name bytes at))) 0 24 n
