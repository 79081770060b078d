use Rattle.std.proofs.Common.{◌∙◌, ap}
use Rattle.std.specs.Option.{is_some}
use Rattle.asm_layout.specs.Uses.{copies}
use Rattle.asm_layout.proofs.Firsts.{any_found}
use Rattle.asm_uses.proofs.export_set.Source.is_copy.Goals as goal

pub returns : goal.returns
returns c = λ lines is.
    let name = c.args.name.now in
    c.contains.ensures ∙ ap is_some (is.copies name) ∙ any_found (λ line. copies name line.statement) lines
