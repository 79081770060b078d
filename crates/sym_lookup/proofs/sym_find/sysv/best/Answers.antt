use Rattle.std.proofs.Common.{sym}
use Rattle.sym_lookup.proofs.SymFind.SysvWalks.{reached}
use Rattle.sym_lookup.proofs.sym_find.sysv.best.Goals as goal

pub returns-in-Some : goal.returns-in-Some
returns-in-Some c =
    reached c.args.sysv.now c.args.hash c.in-Some.bucket c.args.search.now c.walk.result (rw c.as_slice-buckets.ensures at (sym c.in-Some.ensures)) (rw c.as_slice-chain.ensures at c.walk.ensures)
