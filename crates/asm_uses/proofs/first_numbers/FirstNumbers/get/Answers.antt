use Rattle.std.proofs.Common.{◌∙◌}
use Rattle.asm_uses.proofs.Noted.{looked_up}
use Rattle.asm_uses.proofs.first_numbers.FirstNumbers.get.Goals as goal

pub returns : goal.returns
returns c =
    rw (← c.self.view_is) (c.copied.ensures ∙ c.get.ensures.value ∙ looked_up c.self.inside.numbers.entries c.args.name.now)
