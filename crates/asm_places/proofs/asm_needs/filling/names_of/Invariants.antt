use Rattle.std.proofs.Common.{◌≡◌, take, map}
use Rattle.asm_layout.specs.Uses.{distinct_names}
use Rattle.asm_places.proofs.asm_needs.filling.names_of.Given as goal

-- the files of the needs so far
abbrev pub invariant-loop-need : goal.invariant-loop-need
invariant-loop-need l = l.names ≡ distinct_names (map (λ need. need.file) (take l.need-index l.needs))
