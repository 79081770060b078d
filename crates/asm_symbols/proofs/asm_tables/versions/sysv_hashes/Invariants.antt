use Rattle.std.proofs.Common.{◌≡◌, map, take}
use Rattle.asm_layout.specs.declared.uses.Exported.{Exported}
use Rattle.sym_hash.specs.Hash.{sysv_hash}
use Rattle.asm_symbols.proofs.asm_tables.versions.sysv_hashes.Given as goal

-- the hashes so far are those of the symbols so far
abbrev pub invariant-loop-exported : goal.invariant-loop-exported
invariant-loop-exported l = l.hashes.items ≡ map (λ (exported : Exported). sysv_hash exported.name) (take l.exported-index l.exports)
