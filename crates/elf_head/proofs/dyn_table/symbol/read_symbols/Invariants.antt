use Rattle.std.proofs.Common.{◌≡◌, length}
use Rattle.elf_head.specs.AcceptancePart.Table.{table}
use Rattle.elf_head.specs.DynTable.Name.{string_in}
use Rattle.elf_head.specs.DynTable.Symbol.{symbol_name, symbol_named}
use Rattle.elf_head.proofs.dyn_table.symbol.read_symbols.Given as goal

-- the symbols so far are the first of the table
abbrev pub invariant-loop-index : goal.invariant-loop-index
invariant-loop-index l = record {
  read : l.symbols ≡ table (λ at. symbol_named l.bytes at (string_in l.strings (symbol_name l.bytes at))) 0 24 l.index;
  len : length l.symbols ≡ l.index;
}
