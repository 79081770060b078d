use Rattle.std.proofs.Common.{◌≡◌, map}
use Rattle.cli_read.proofs.values.parts_of.Given as goal

-- the names so far are the parts so far
abbrev pub invariant-loop-part : goal.invariant-loop-part
invariant-loop-part l = l.names ≡ map (λ part. part.now) l.yielded
