use Rattle.std.proofs.Common.{rules, SFits, w64, arith}
use Rattle.std.proofs.lemmas.Int.{to_z-of_z}
use Rattle.std.proofs.lemmas.Grind.{common_steps}
use Rattle.cli_text.specs.DumpLines.{reloc_line}
use Rattle.cli_text.proofs.dump_lines.write_reloc.Goals as goal

pub returns : goal.returns
unfolding reloc_line
returns c =
    let fits : SFits w64 c.args.reloc.now.addend = search rules in
    let h = rw to_z-of_z at c.writeln.ensures.bytes in
    grind (arith, common_steps)
