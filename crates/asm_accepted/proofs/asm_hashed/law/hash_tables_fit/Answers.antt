-- A source has few lines.
use Rattle.asm_accepted.proofs.AsmHashed.Lines.{hashes_fit}
use Rattle.asm_accepted.proofs.asm_hashed.law.hash_tables_fit.Goals as goal

pub returns : goal.returns
returns c = λ source lines says. hashes_fit lines (c.sources_are_short.ensures source lines says).0.count
