use Rattle.std.proofs.Common.{◌≡◌, ◌+◌, map, length}
use Rattle.asm_grammar.specs.Reading.{read_lines, behind}
use Rattle.asm_text.proofs.lines.read_lines.Given as goal

-- the statements so far stand before those of the lines that are left
abbrev pub invariant-loop-rest : goal.invariant-loop-rest
invariant-loop-rest l = record {
  whole : behind l.statements (read_lines l.number (map (λ line. line.now) l.rest)) ≡ read_lines 1 (map (λ line. line.now) l.lines);
  count : l.number + length l.rest ≡ 1 + length l.lines;
}

abbrev pub decreases-loop-rest : goal.decreases-loop-rest
decreases-loop-rest l = length l.rest
