use Rattle.std.proofs.Common.{◌≡◌, ◌++◌, take, flat_map, map}
use Rattle.asm_layout.specs.Contents.{string_bytes}
use Rattle.asm_symbols.proofs.asm_tables.strings.append_exports.Given as goal

abbrev pub invariant-loop-exported : goal.invariant-loop-exported
invariant-loop-exported l = l.out ≡ l.initial.out ++ flat_map string_bytes (map (λ exported. exported.name) (take l.exported-index l.exports))
