use Rattle.std.proofs.Common.{◌≡◌, ◌++◌, replicate}
use Rattle.asm_object.proofs.asm_bytes.sections.push_zeros.Given as goal

-- so many zeros are appended
abbrev pub invariant-loop-zero : goal.invariant-loop-zero
invariant-loop-zero l = l.out.items ≡ l.initial.out.items ++ replicate l._zero 0
