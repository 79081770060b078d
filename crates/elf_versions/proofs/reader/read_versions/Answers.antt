use Rattle.elf_head.specs.AcceptancePart.Lemmas.Answers.{answers}
use Rattle.elf_versions.proofs.reader.read_versions.Goals as goal

pub returns-clause-answers : goal.returns-clause-answers
returns-clause-answers c =
    let law = c.one_verdict.ensures in
    answers _ _ _ (λ versions. (law.accepted _ _ _ versions).0) (λ fault. (law.refused _ _ _ fault).0) _ c.read_judged.ensures
