use Rattle.std.proofs.Common.{List, ◌∙◌, ap, sym}
use Rattle.std.specs.Prelude.{slice_get}
use Rattle.std.specs.Str.{bytes_eq}
use Rattle.asm_statement.specs.declared.directive.Need.{Need}
use Rattle.asm_layout.specs.Uses.{needs}
use Rattle.asm_symbols.proofs.Entered.{found_first, found_nowhere}
use Rattle.asm_symbols.proofs.entries.SymbolTable.need_of.Goals as goal

pub returns-in-Some : goal.returns-in-Some
returns-in-Some c = λ lines is.
    let name = c.args.name.now in
    c.need_at.ensures ∙ ap (λ (all : List Need). slice_get all c.in-Some.at) (c.as_slice.ensures ∙ is.spots.uses.needs)
    ∙ sym (found_first (λ need. bytes_eq name need.name) (needs lines) c.in-Some.at (c.in-Some.ensures ∙ is.facts.needs name))

pub returns-in-None : goal.returns-in-None
returns-in-None c = λ lines is.
    let name = c.args.name.now in
    sym (found_nowhere (λ need. bytes_eq name need.name) (needs lines) (c.in-None.ensures ∙ is.facts.needs name))
