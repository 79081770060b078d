use Rattle.asm_places.proofs.AsmNeeds.Parts.{empty_more}
use Rattle.asm_places.proofs.asm_needs.filling.empty_files.Goals as goal

pub loop-file-preserved : goal.loop-file-preserved
loop-file-preserved c =
    rw c.in_ok-push.ensures.items (empty_more c.loop-file._file c.loop-file.files.items c.new.result c.loop-file.invariant c.new.ensures)
