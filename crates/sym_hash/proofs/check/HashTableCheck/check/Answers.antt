use Rattle.elf_head.specs.AcceptancePart.Lemmas.Answers.{answers}
use Rattle.sym_hash.proofs.check.HashTableCheck.check.Goals as goal

pub returns-clause-answers : goal.returns-clause-answers
returns-clause-answers c =
    let law = c.one_verdict.ensures in
    let head = c.args.head.now in
    let parts = c.args.parts.now in
    answers _ _ _ (λ table. (law.accepted _ head parts table).0) (λ fault. (law.refused _ head parts fault).0) _ c.checked.ensures
