use Rattle.sym_hash.specs.Verdict.{table_verdict}
use Rattle.sym_hash.proofs.judge.judge_table.Goals as goal

pub returns : goal.returns
unfolding table_verdict
returns c =
    rw (← c.tags.ensures, ← c.in_ok-table.ensures.words, ← c.symbols.ensures, ← c.as_slice-symbols.ensures.value, ← c.in_ok-hashes.ensures, ← c.deref.ensures.value, ← c.first_exported.ensures)
    c.judge.ensures
