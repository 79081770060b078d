-- Line by line.
use Rattle.asm_laws.proofs.AsmWhole.Said.{of_source}
use Rattle.asm_laws.proofs.asm_whole.law.sources_are_short.Goals as goal

pub returns : goal.returns
returns c = of_source
