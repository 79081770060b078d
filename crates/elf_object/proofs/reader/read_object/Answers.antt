use Rattle.elf_head.specs.AcceptancePart.Lemmas.Answers.{answers}
use Rattle.elf_object.proofs.Laws.{given_table}
use Rattle.elf_object.proofs.reader.read_object.Goals as goal

pub returns-clause-answers : goal.returns-clause-answers
returns-clause-answers c =
    let law = c.one_object.ensures in
    let program = c.args.program in
    answers _ _ _ (λ read is. (law.verdict _ program read.0).0 (read.1, is)) (λ fault. (law.refused _ program fault).0) _ c.read_parts.ensures

pub returns-clause-table : goal.returns-clause-table
returns-clause-table c = given_table _ _ (c.one_object.ensures.table c.args.file.now c.args.program) c.read_parts.ensures
