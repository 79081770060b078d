use Rattle.load_walk.proofs.Planning.{IsSoFar}
use Rattle.load_walk.proofs.records.records.Given as goal

-- the records so far
abbrev pub invariant-loop-arrival : goal.invariant-loop-arrival
invariant-loop-arrival l = IsSoFar l.ask l.found l.yielded l.added l.start l.more
