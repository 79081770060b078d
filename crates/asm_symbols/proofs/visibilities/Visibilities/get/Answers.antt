use Rattle.std.proofs.Common.{◌∙◌, ap}
use Rattle.std.specs.Prelude.{Option, unwrap_or}
use Rattle.asm_symbols.specs.declared.visibilities.Visibility.{Visibility}
use Rattle.asm_symbols.specs.declared.visibilities.Visibility.TheVariants as kinds
use Rattle.asm_symbols.proofs.Given.{looked_up}
use Rattle.asm_symbols.proofs.visibilities.Visibilities.get.Goals as goal

pub returns : goal.returns
returns c =
    rw (← c.self.view_is)
    (c.unwrap_or.ensures ∙ ap (λ (found : Option Visibility). unwrap_or found kinds.Default) (c.copied.ensures ∙ c.get.ensures.value ∙ looked_up c.self.inside.given.entries c.args.name.now))
