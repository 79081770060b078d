use Rattle.std.proofs.Common.{◌∙◌}
use Rattle.asm_layout.specs.Labels.{defines}
use Rattle.asm_layout.proofs.Firsts.{position_below}
use Rattle.asm_symbols.proofs.AsmTables.Placed.{label_there, label_missing}
use Rattle.asm_symbols.proofs.asm_tables.spots.Spots.place.Goals as goal

pub returns-in-Some : goal.returns-in-Some
returns-in-Some c = λ lines are.
    let name = c.args.name.now in
    let e = c.in-Some.ensures ∙ are.uses.labels name in
    c.line_place.ensures lines are (position_below (defines name) lines c.in-Some.line e) ∙ label_there lines name c.in-Some.line e

pub returns-in-None : goal.returns-in-None
returns-in-None c = λ lines are.
    let name = c.args.name.now in
    label_missing lines name (c.in-None.ensures ∙ are.uses.labels name)
