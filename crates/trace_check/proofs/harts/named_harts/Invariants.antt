use Rattle.std.proofs.Common.{ℕ, ◌+◌, drop, map}
use Rattle.trace_check.specs.Harts.{NameHarts}
use Rattle.trace_check.proofs.harts.named_harts.Given as goal

-- what the lines that are left name is more than those so far name
abbrev pub invariant-loop-line : goal.invariant-loop-line
invariant-loop-line l = (more : ℕ) → NameHarts (map (λ line. line.now) (drop l.line-index l.lines)) more → NameHarts (map (λ line. line.now) l.lines) (more + l.named)
