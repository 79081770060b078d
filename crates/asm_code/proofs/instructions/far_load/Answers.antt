use Rattle.std.proofs.lemmas.Int.{to_z-of_z}
use Rattle.asm_layout.specs.Expansions.{upper}
use Rattle.asm_code.proofs.Wide.{wide_upper}
use Rattle.asm_code.proofs.instructions.far_load.Goals as goal

pub returns-in-None : goal.returns-in-None
returns-in-None c =
    let range = c.ranges.distance in
    wide_upper c.args.rd (upper c.args.distance) _ (simp to_z-of_z at c.in-None.ensures)
