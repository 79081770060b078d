use Rattle.std.proofs.Common.{◌≡◌, length, map}
use Rattle.asm_statement.specs.AsmWords.Table.{named}
use Rattle.asm_statement.proofs.asm_words.table.named.Given as goal

-- the rows that are left have the same under the word
abbrev pub invariant-loop-table : goal.invariant-loop-table
invariant-loop-table g l = named l.word (map (λ row. (row.0.now, row.1)) l.table) ≡ named l.word (map (λ row. (row.0.now, row.1)) l.initial.table)

abbrev pub decreases-loop-table : goal.decreases-loop-table
decreases-loop-table g l = length l.table
