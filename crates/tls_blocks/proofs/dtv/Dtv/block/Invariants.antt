use Rattle.std.proofs.Common.{◌≡◌, drop}
use Rattle.tls_blocks.specs.Blocks.{block_at}
use Rattle.tls_blocks.proofs.dtv.Dtv.block.Given as goal

-- the search of the rest is the search of the whole
abbrev pub invariant-loop-entry : goal.invariant-loop-entry
invariant-loop-entry l = block_at (drop l.entry-index l.entry-items) l.«module» ≡ block_at l.entry-items l.«module»
