-- What is still to come stands behind what is there.
use Rattle.std.proofs.Common.{◌≡◌, ◌++◌, drop}
use Rattle.asm_write.specs.HashBuild.Hashed.{chain_of}
use Rattle.asm_write.proofs.hash_build.tables.chain_of.Given as goal

abbrev pub invariant-loop-at : goal.invariant-loop-at
invariant-loop-at l = l.chain.items ++ chain_of l.buckets (drop l.at l.hashes) ≡ chain_of l.buckets l.hashes
