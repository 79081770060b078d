use Rattle.std.proofs.Common.{◌≡◌, take}
use Rattle.std.specs.Prelude.{filter_map}
use Rattle.asm_layout.specs.Uses.{mention, if_foreign}
use Rattle.asm_layout.specs.Uses.{distinct_names}
use Rattle.asm_uses.proofs.names.fill_imports.Given as goal

-- the names of the lines so far
abbrev pub invariant-loop-line : goal.invariant-loop-line
invariant-loop-line l = l.names ≡ distinct_names (filter_map (λ line. if_foreign l.line-items (mention line.statement)) (take l.line-index l.line-items))
