use Rattle.std.proofs.Common.{◌∙◌}
use Rattle.asm_symbols.proofs.Entered.{size_nowhere}
use Rattle.asm_symbols.proofs.entries.SymbolTable.size.Goals as goal

pub returns-in-Some : goal.returns-in-Some
returns-in-Some c = λ lines is. c.size_at.ensures lines is (c.in-Some.ensures ∙ is.spots.uses.labels c.args.name.now)

pub returns-in-None : goal.returns-in-None
returns-in-None c = λ lines is. size_nowhere lines c.args.name.now (c.in-None.ensures ∙ is.spots.uses.labels c.args.name.now)
