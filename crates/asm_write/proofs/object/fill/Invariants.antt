-- The zeros that are left stand behind what is there.
use Rattle.std.proofs.Common.{◌≡◌, ◌-◌, ◌++◌, length, replicate}
use Rattle.asm_write.proofs.object.fill.Given as goal

abbrev pub invariant-loop-zero : goal.invariant-loop-zero
invariant-loop-zero l = l.out.items ++ replicate (l.offset - l._zero) 0 ≡ l.initial.out.items ++ replicate (l.offset - length l.initial.out.items) 0
