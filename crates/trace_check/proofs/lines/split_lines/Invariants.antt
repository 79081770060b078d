use Rattle.std.proofs.Common.{◌≡◌, ◌++◌, length, map}
use Rattle.std.specs.List.{All, flat_map}
use Rattle.trace_check.specs.Lines.{IsBefore}
use Rattle.trace_check.proofs.lines.split_lines.Given as goal

-- the text is the lines so far, which are lines before a last one, and what is left
abbrev pub invariant-loop-line : goal.invariant-loop-line
invariant-loop-line l = record {
  whole : l.text ≡ flat_map (λ line. line) (map (λ line. line.now) l.events.items) ++ l.rest;
  before : All IsBefore (map (λ line. line.now) l.events.items);
}

abbrev pub decreases-loop-line : goal.decreases-loop-line
decreases-loop-line l = length l.rest
