use Rattle.elf_head.specs.DynTable.HashWords.{hash_words}
use Rattle.sym_hash.specs.Verdict.{table_verdict}
use Rattle.sym_hash.proofs.Judging.{accepts, refuses, says}
use Rattle.sym_hash.proofs.law.one_verdict.Goals as goal

pub returns : goal.returns
unfolding table_verdict
returns c = record {
  accepted = λ bytes head parts. accepts (hash_words bytes head.headers parts.tags) parts.symbols parts.first_exported _ (says _ _ _);
  refused = λ bytes head parts. refuses (hash_words bytes head.headers parts.tags) parts.symbols parts.first_exported _ (says _ _ _);
  versions = λ t symbols others first len same is. record {
    ends = rw len is.ends;
    reached = λ i s from at visible. is.reached i (record s { version = 0 }) from (same i s at) visible;
  };
}
