use Rattle.std.proofs.lemmas.Int.{to_z-of_z}
use Rattle.asm_code.proofs.Wide.{wide_imm}
use Rattle.asm_code.proofs.instructions.imm.Goals as goal

pub returns-in-None : goal.returns-in-None
returns-in-None c =
    let range = c.ranges.value in
    wide_imm c.args.op c.args.rd c.args.rs1 c.args.value (simp to_z-of_z at c.in-None.ensures)
