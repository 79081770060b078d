use Rattle.std.proofs.Common.{◌≡◌, ◌∷◌, take, flat_map}
use Rattle.std.specs.Int.{w16, to_le_bytes}
use Rattle.asm_write.proofs.tables.versym_bytes.Given as goal

abbrev pub invariant-loop-symbol : goal.invariant-loop-symbol
invariant-loop-symbol l = l.out.items ≡ 0 ∷ 0 ∷ flat_map (λ symbol. to_le_bytes w16 symbol.version) (take l.symbol-index l.symbols)
