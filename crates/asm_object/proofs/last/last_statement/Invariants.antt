use Rattle.std.proofs.Common.{◌≡◌, ◌+◌, drop}
use Rattle.asm_layout.specs.Object.{last_from}
use Rattle.asm_object.proofs.last.last_statement.Given as goal

-- the last of the lines that are left, behind those so far, is the last of all
abbrev pub invariant-loop-number : goal.invariant-loop-number
invariant-loop-number l = last_from (l.number + 1) l.last (drop l.number l.line-items) ≡ last_from 1 0 l.line-items
