use Rattle.std.proofs.Common.{◌≤◌, length, Result}
use Rattle.library_source.specs.declared.sink.WriteError.{WriteError}
use Rattle.library_source.specs.Writing.{Puts, TakesBefore}
use Rattle.library_source.proofs.sink.put_all.Given as goal

abbrev pub invariant-loop-rest : goal.invariant-loop-rest
invariant-loop-rest g l = record {
  writes : (answer : Result (Unit {0}) WriteError) (after : _) → Puts g.K.Sink.writes l.rest l.out answer after → Puts g.K.Sink.writes l.bytes l.fn.out answer after;
  front : TakesBefore l.rest (g.K.Sink.taken l.fn.out) l.bytes (g.K.Sink.taken l.out);
  faults : g.K.Sink.faults l.fn.out ≤ g.K.Sink.faults l.out;
}

abbrev pub decreases-loop-rest : goal.decreases-loop-rest
decreases-loop-rest g l = length l.rest
