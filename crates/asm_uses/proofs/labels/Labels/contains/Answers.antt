use Rattle.std.proofs.Common.{ℕ, List, ◌∙◌, ap}
use Rattle.std.specs.Option.{is_some}
use Rattle.asm_layout.specs.Labels.{defines}
use Rattle.asm_layout.proofs.Firsts.{any_found}
use Rattle.asm_uses.specs.Numbers.{number_of}
use Rattle.asm_uses.proofs.labels.Labels.contains.Goals as goal

pub returns : goal.returns
returns c = λ lines are.
    let name = c.args.name.now in
    c.contains.ensures
    ∙ ap (λ (numbers : List (List ℕ × ℕ)). is_some (number_of numbers name)) c.self.view_is
    ∙ ap is_some (are name)
    ∙ any_found (defines name) lines
