use Rattle.std.proofs.Common.{◌≡◌, ◌++◌, take, flat_map}
use Rattle.asm_layout.specs.Contents.{string_bytes}
use Rattle.asm_symbols.proofs.asm_tables.strings.append_names.Given as goal

abbrev pub invariant-loop-name : goal.invariant-loop-name
invariant-loop-name l = l.out ≡ l.initial.out ++ flat_map string_bytes (take l.name-index l.names)
