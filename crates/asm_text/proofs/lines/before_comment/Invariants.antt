use Rattle.std.proofs.Common.{◌≡◌, ◌+◌, false, length}
use Rattle.asm_grammar.specs.Reading.{before_comment}
use Rattle.asm_text.proofs.lines.before_comment.Given as goal

-- the comment begins where that of what is left does
abbrev pub invariant-loop-rest : goal.invariant-loop-rest
invariant-loop-rest l = record {
  start : before_comment l.is_quoted l.rest + l.count ≡ before_comment false l.line;
  read : length l.rest + l.count ≡ length l.line;
}

abbrev pub decreases-loop-rest : goal.decreases-loop-rest
decreases-loop-rest l = length l.rest
