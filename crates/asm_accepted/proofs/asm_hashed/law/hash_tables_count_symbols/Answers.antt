-- A source has few lines.
use Rattle.asm_accepted.proofs.AsmHashed.Counted.{counts_symbols}
use Rattle.asm_accepted.proofs.asm_hashed.law.hash_tables_count_symbols.Goals as goal

pub returns : goal.returns
returns c = λ source lines says. counts_symbols lines (c.sources_are_short.ensures source lines says).0.count
