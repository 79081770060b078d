use Rattle.std.proofs.Common.{take}
use Rattle.std.specs.Prelude.{filter_map}
use Rattle.asm_layout.specs.Uses.{distinct, same_use, got_use}
use Rattle.asm_uses.specs.Got.{IsGotOf}
use Rattle.asm_uses.proofs.got.Got.fill.Given as goal

-- the uses of the lines so far
abbrev pub invariant-loop-line : goal.invariant-loop-line
invariant-loop-line l = IsGotOf (distinct same_use (filter_map (λ line. got_use line.statement) (take l.line-index l.line-items))) l.self
