use Rattle.std.proofs.Common.{refl, length, map}
use Rattle.std.proofs.lemmas.Result.{MatchResult-weaker}
use Rattle.elf_dynamic.specs.Named.{named_by}
use Rattle.elf_dynamic.specs.Rules.{bad_packed, bad_reloc}
use Rattle.elf_dynamic.proofs.Reading.{later_fault}
use Rattle.elf_dynamic.proofs.reloc_rules.judge_relocs.Goals as goal

pub returns : goal.returns
unfolding bad_reloc bad_packed
returns c =
    MatchResult-weaker c.judge_packed.result (c.judge_packed.ensures (map (named_by c.args.symbols.now) c.args.relocs.now) c.in_ok-judged.ensures.1)
    (λ judged kept. (rw (c.in_ok-judged.ensures.0, kept.0, kept.1.none) refl, kept.1))
    (λ fault broken. later_fault _ _ (length c.args.relocs.now) fault c.in_ok-judged.ensures.0 broken)
