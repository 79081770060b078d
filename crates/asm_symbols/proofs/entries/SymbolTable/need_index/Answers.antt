use Rattle.std.proofs.Common.{◌∙◌, ap}
use Rattle.std.specs.Prelude.{Option}
use Rattle.std.specs.Option.{option_map_or}
use Rattle.asm_statement.specs.declared.directive.Need.{Need}
use Rattle.asm_layout.specs.Versions.{needed_index}
use Rattle.asm_symbols.proofs.entries.SymbolTable.need_index.Goals as goal

pub returns-in-Some : goal.returns-in-Some
returns-in-Some c = λ lines is.
    c.needed_index.ensures lines is ∙ ap (λ (found : Option Need). option_map_or (λ need. needed_index lines need.file need.version) found 1) (c.in-Some.ensures lines is)

pub returns-in-None : goal.returns-in-None
returns-in-None c = λ lines is.
    ap (λ (found : Option Need). option_map_or (λ need. needed_index lines need.file need.version) found 1) (c.in-None.ensures lines is)
