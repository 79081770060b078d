use Rattle.std.proofs.Common.{ℕ, ◌<◌, map, take, []}
use Rattle.elf_dynamic.specs.Judged.{AreApart}
use Rattle.elf_dynamic.specs.Named.{named_by}
use Rattle.elf_dynamic.specs.Rules.{is_bad_reloc}
use Rattle.elf_dynamic.proofs.Again.{Again}
use Rattle.elf_dynamic.proofs.reloc_rules.judge_rela.Given as goal

-- none of those so far is bad, and their ranges lie apart
abbrev pub invariant-loop-index : goal.invariant-loop-index
invariant-loop-index l = record {
  none : (k : ℕ) → k < l.index → Again (is_bad_reloc l.headers l.symbols) (named_by l.symbols) [] l.relocs k → ⊥;
  apart : AreApart (map (named_by l.symbols) (take l.index l.relocs)) l.apart;
}
