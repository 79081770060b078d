use Rattle.std.proofs.Common.{◌≡◌, ℕ, List, take}
use Rattle.std.specs.Prelude.{position}
use Rattle.asm_layout.specs.Labels.{defines}
use Rattle.asm_uses.specs.Numbers.{number_of}
use Rattle.asm_uses.proofs.labels.fill_lines.Given as goal

-- the names are those of the lines so far
abbrev pub invariant-loop-number : goal.invariant-loop-number
invariant-loop-number l = (bytes : List ℕ) → number_of l.lines bytes ≡ position (defines bytes) (take l.number l.line-items)
