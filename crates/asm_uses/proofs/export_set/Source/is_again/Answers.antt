use Rattle.std.proofs.Common.{◌∙◌, take, ap}
use Rattle.asm_layout.specs.Uses.{copies}
use Rattle.asm_uses.specs.Exports.{is_copied}
use Rattle.asm_uses.proofs.Noted.{found_before}
use Rattle.asm_uses.proofs.export_set.Source.is_again.Goals as goal

pub returns-in-Some : goal.returns-in-Some
returns-in-Some c = λ lines is within.
    let name = c.in-Some.name.now in
    c.is_below.ensures ∙ found_before (λ line. copies name line.statement) lines c.args.number _ within (is.copies name)
    ∙ ap (is_copied (take c.args.number lines)) c.in-Some.ensures

pub returns-in-None : goal.returns-in-None
returns-in-None c = λ lines is within. ap (is_copied (take c.args.number lines)) c.in-None.ensures
