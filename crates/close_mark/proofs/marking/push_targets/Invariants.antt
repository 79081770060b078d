use Rattle.std.proofs.Common.{◌≡◌, ◌++◌, map, take}
use Rattle.close_mark.specs.Marks.{target_of}
use Rattle.close_mark.proofs.marking.push_targets.Given as goal

-- the targets so far stand at the end
abbrev pub invariant-loop-edge : goal.invariant-loop-edge
invariant-loop-edge l = l.pending.items ≡ l.fn.pending.items ++ map target_of (take l.edge-index l.edges)
