use Rattle.address_space.proofs.Scan.{Scanned}
use Rattle.address_space.proofs.regions.first_fit.Given as goal

abbrev pub invariant-loop-place : goal.invariant-loop-place
invariant-loop-place l = Scanned l.marks l.pages l.align l.place l.run
