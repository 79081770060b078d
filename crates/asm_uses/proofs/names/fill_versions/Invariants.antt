use Rattle.std.proofs.Common.{◌≡◌, take}
use Rattle.std.specs.Prelude.{filter_map}
use Rattle.asm_layout.specs.Tables.{version_defined}
use Rattle.asm_layout.specs.Uses.{distinct_names}
use Rattle.asm_uses.proofs.names.fill_versions.Given as goal

-- the names of the lines so far
abbrev pub invariant-loop-line : goal.invariant-loop-line
invariant-loop-line l = l.names ≡ distinct_names (filter_map (λ line. version_defined line.statement) (take l.line-index l.line-items))
