use Rattle.sym_hash.specs.Verdict.{table_verdict}
use Rattle.sym_hash.proofs.check.checked.Goals as goal

pub returns : goal.returns
unfolding table_verdict
returns c =
    rw (← c.as_slice.ensures, ← c.in_ok-table.ensures.words, ← c.as_slice-symbols.ensures.value, ← c.in_ok-hashes.ensures, ← c.deref.ensures.value)
    c.judge.ensures
