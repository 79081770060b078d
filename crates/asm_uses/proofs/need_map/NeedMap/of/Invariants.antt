use Rattle.std.proofs.Common.{◌≡◌, take, []}
use Rattle.std.specs.Prelude.{filter_map, fold}
use Rattle.asm_layout.specs.Uses.{with_need, need_of}
use Rattle.asm_uses.proofs.need_map.NeedMap.of.Given as goal

-- the needs of the lines so far
abbrev pub invariant-loop-line : goal.invariant-loop-line
invariant-loop-line l = l.map ≡ fold with_need [] (filter_map (λ line. need_of line.statement) (take l.line-index l.line-items))
