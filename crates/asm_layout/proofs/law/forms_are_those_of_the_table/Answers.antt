use Rattle.asm_layout.proofs.Forms.{decides}
use Rattle.asm_layout.proofs.law.forms_are_those_of_the_table.Goals as goal

pub returns : goal.returns
returns c = decides
