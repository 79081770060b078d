-- Line by line they are those of the libraries that are needed.
use Rattle.asm_layout.specs.Tables.{needed}
use Rattle.asm_symbols.proofs.AsmTables.Libraries.{all}
use Rattle.asm_symbols.proofs.asm_tables.strings.append_needed.Goals as goal

pub returns : goal.returns
unfolding needed
returns c = rw (← all c.args.statements.now) (rw c.as_slice.ensures at c.append_lines.ensures)
