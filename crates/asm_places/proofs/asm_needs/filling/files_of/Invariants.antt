use Rattle.std.proofs.Common.{take}
use Rattle.asm_places.specs.AsmNeeds.Filled.{ArePartOf}
use Rattle.asm_places.proofs.asm_needs.filling.files_of.Given as goal

-- what the needs so far ask of the files
abbrev pub invariant-loop-need : goal.invariant-loop-need
invariant-loop-need l = ArePartOf l.names (take l.need-index l.needs) l.files.items
