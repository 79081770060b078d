use Rattle.std.proofs.Common.{List, ◌∙◌, ap}
use Rattle.std.specs.Prelude.{slice_get}
use Rattle.asm_statement.specs.declared.line.Line.{Line}
use Rattle.asm_layout.specs.Labels.{defines}
use Rattle.asm_layout.specs.Symbols.{size_of_line}
use Rattle.asm_layout.proofs.Firsts.{position_below}
use Rattle.asm_symbols.proofs.Entered.{size_there}
use Rattle.asm_symbols.proofs.entries.SymbolTable.size_at.Goals as goal

pub returns-in-Some : goal.returns-in-Some
returns-in-Some c = λ lines is there.
    let name = c.args.name.now in
    let k = c.args.number in
    let found = c.in-Some.ensures ∙ ap (λ (all : List Line). slice_get all k) (c.as_slice.ensures ∙ is.statements) in
    c.size_of_line.ensures lines is (position_below (defines name) lines k there)
    ∙ ap (size_of_line lines name k) found ∙ size_there lines name k there

pub returns-in-None : goal.returns-in-None
returns-in-None c = λ lines is there.
    let name = c.args.name.now in
    let k = c.args.number in
    let found = c.in-None.ensures ∙ ap (λ (all : List Line). slice_get all k) (c.as_slice.ensures ∙ is.statements) in
    ap (size_of_line lines name k) found ∙ size_there lines name k there
