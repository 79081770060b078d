use Rattle.std.proofs.Common.{◌≡◌, ◌+◌, length}
use Rattle.trace_opens.proofs.opening_rows.starting.setup_of.Given as goal

-- a name for each hart so far but the first
abbrev pub invariant-loop : goal.invariant-loop
invariant-loop l = length l.names + 1 ≡ l.counter
