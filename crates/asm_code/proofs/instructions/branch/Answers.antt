use Rattle.std.proofs.lemmas.Int.{to_z-of_z}
use Rattle.asm_code.proofs.Wide.{wide_branch}
use Rattle.asm_code.proofs.instructions.branch.Goals as goal

pub returns-in-None : goal.returns-in-None
returns-in-None c =
    let range = c.ranges.value in
    wide_branch c.args.op c.args.rs1 c.args.rs2 c.args.value (simp to_z-of_z at c.in-None.ensures)
