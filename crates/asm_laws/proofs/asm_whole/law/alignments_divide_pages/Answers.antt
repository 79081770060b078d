-- Each is a power of two, or the greater of two.
use Rattle.asm_laws.proofs.AsmWhole.Aligned.{in_pages}
use Rattle.asm_laws.proofs.asm_whole.law.alignments_divide_pages.Goals as goal

pub returns : goal.returns
returns c = in_pages
