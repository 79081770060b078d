use Rattle.elf_head.specs.AcceptancePart.Lemmas.Answers.{answers}
use Rattle.elf_dynamic.specs.Rules.{dynamic_verdict}
use Rattle.elf_dynamic.specs.Verdict.{BreaksFirst, SpellsDynamic}
use Rattle.elf_dynamic.proofs.reader.read_dynamic.Goals as goal

pub returns-clause-answers : goal.returns-clause-answers
returns-clause-answers c =
    let bytes = c.args.file.now in
    let head = c.args.head.now in
    let program = c.args.program in
    answers (SpellsDynamic bytes head program) (BreaksFirst bytes head program) (dynamic_verdict bytes head program)
    (λ parts. (c.one_verdict.ensures.accepted bytes head program parts).0)
    (λ fault. (c.one_verdict.ensures.refused bytes head program fault).0) c.read_judged.result c.read_judged.ensures
