use Rattle.std.proofs.Common.{ℕ, List, ◌∙◌, ap}
use Rattle.asm_layout.specs.Labels.{defines}
use Rattle.asm_uses.specs.Numbers.{is_below, number_of}
use Rattle.asm_uses.proofs.Noted.{found_before}
use Rattle.asm_uses.proofs.labels.Labels.is_before.Goals as goal

pub returns : goal.returns
returns c = λ lines are within.
    let name = c.args.name.now in
    c.is_below.ensures
    ∙ ap (λ (numbers : List (List ℕ × ℕ)). is_below (number_of numbers name) c.args.number) c.self.view_is
    ∙ found_before (defines name) lines c.args.number _ within (are name)
