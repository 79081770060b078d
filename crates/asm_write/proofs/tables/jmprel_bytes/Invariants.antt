-- What is still to come stands behind what is there.
use Rattle.std.proofs.Common.{◌≡◌, ◌++◌, drop}
use Rattle.asm_write.specs.Values.{slots_from}
use Rattle.asm_write.proofs.tables.jmprel_bytes.Given as goal

abbrev pub invariant-loop-symbol : goal.invariant-loop-symbol
invariant-loop-symbol l = l.out.items ++ slots_from l.place (drop l.symbol-index l.slots) ≡ slots_from l.initial.place l.slots
