-- What is still to come stands behind what is there.
use Rattle.std.proofs.Common.{◌≡◌, ◌++◌, drop}
use Rattle.asm_write.specs.Starts.{starts_from}
use Rattle.asm_write.proofs.starts.starts_from.Given as goal

abbrev pub invariant-loop-extent : goal.invariant-loop-extent
invariant-loop-extent l = l.starts.items ++ starts_from l.end (drop l.extent-index l.extents) ≡ starts_from l.behind l.extents
