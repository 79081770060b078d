use Rattle.std.proofs.Common.{◌≡◌, ◌++◌, take}
use Rattle.hart_seat.proofs.hart_parts.passed.PassedBytes.grow.Given as goal

abbrev pub invariant-loop-byte : goal.invariant-loop-byte
invariant-loop-byte l = l.self ≡ take l.most (l.fn.self ++ take l.byte-index l.byte-items)
