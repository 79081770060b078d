use Rattle.std.proofs.Common.{◌≡◌}
use Rattle.elf_head.specs.Header.{header_at, table_start}
use Rattle.elf_head.specs.AcceptancePart.Table.{table}
use Rattle.elf_head.proofs.program_headers.read_headers.Given as goal

-- the entries so far
abbrev pub invariant-loop-index : goal.invariant-loop-index
invariant-loop-index l = l.headers.items ≡ table (header_at l.bytes) (table_start l.bytes) 56 l.index
