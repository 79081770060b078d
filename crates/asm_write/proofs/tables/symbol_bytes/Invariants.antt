use Rattle.std.proofs.Common.{◌≡◌, ◌++◌, take, flat_map}
use Rattle.asm_write.specs.Fields.{record_bytes}
use Rattle.asm_write.specs.Records.{symbol_fields}
use Rattle.asm_write.specs.Values.{null_symbol}
use Rattle.asm_write.proofs.tables.symbol_bytes.Given as goal

abbrev pub invariant-loop-symbol : goal.invariant-loop-symbol
invariant-loop-symbol l = l.out.items ≡ null_symbol ++ flat_map (λ symbol. record_bytes (symbol_fields l.starts symbol)) (take l.symbol-index l.symbols)
