use Rattle.asm_places.specs.AsmNeeds.Filled.{AreEmpty}
use Rattle.asm_places.proofs.asm_needs.filling.empty_files.Given as goal

abbrev pub invariant-loop-file : goal.invariant-loop-file
invariant-loop-file l = AreEmpty l._file l.files.items
