use Rattle.std.proofs.lemmas.Int.{to_z-of_z}
use Rattle.asm_code.proofs.Wide.{wide_jalr}
use Rattle.asm_code.proofs.instructions.jalr.Goals as goal

pub returns-in-None : goal.returns-in-None
returns-in-None c =
    let range = c.ranges.value in
    wide_jalr c.args.rd c.args.rs1 c.args.value (simp to_z-of_z at c.in-None.ensures)
