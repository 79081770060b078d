use Rattle.std.proofs.lemmas.Nat.{and_mask}
use Rattle.rv_hart.proofs.arithmetic.low_bytes.Goals as goal

pub returns-in-1-clause-value : goal.returns-in-1-clause-value
returns-in-1-clause-value c = rw c.in-1.is (and_mask c.args.value 8)

pub returns-in-2-clause-value : goal.returns-in-2-clause-value
returns-in-2-clause-value c = rw c.in-2.is (and_mask c.args.value 16)

pub returns-in-4-clause-value : goal.returns-in-4-clause-value
returns-in-4-clause-value c = rw c.in-4.is (and_mask c.args.value 32)
