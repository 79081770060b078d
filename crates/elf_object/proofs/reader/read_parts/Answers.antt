use Rattle.std.proofs.Common.{◌∙◌, sym, ap}
use Rattle.elf_head.specs.Rules.{head_verdict}
use Rattle.elf_object.proofs.Laws.{faulty_table, handed_on}
use Rattle.elf_object.proofs.reader.read_parts.Goals as goal

pub table_of-requires-clause-parts : goal.table_of-requires-clause-parts
table_of-requires-clause-parts c =
    (c.args.program, (c.one_verdict.ensures.accepted c.args.file.now c.in_ok-head.head c.args.program c.in_ok-parts.parts).0 c.in_ok-parts.ensures)

pub returns-in_err-table : goal.returns-in_err-table
returns-in_err-table c =
    handed_on _ c.in_err-table.field-0.0 _ c.from_residual-in_err-table.ensures.1
    (faulty_table c.args.file.now c.args.program c.in_ok-head.head c.in_ok-parts.parts c.in_ok-versions.versions c.in_err-table.field-0.0 (sym (ap head_verdict c.as_slice.ensures) ∙ c.in_ok-head.ensures.verdict) c.in_ok-parts.ensures c.in_ok-versions.ensures c.in_err-table.ensures)
