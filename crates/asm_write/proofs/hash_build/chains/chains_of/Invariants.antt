-- What is there are the buckets and links of the symbols from one on.
use Rattle.std.proofs.Common.{◌≡◌, ◌+◌, drop, length}
use Rattle.asm_write.specs.HashBuild.Hashed.{buckets_of, links_of}
use Rattle.asm_write.proofs.hash_build.chains.chains_of.Given as goal

abbrev pub invariant-loop-at : goal.invariant-loop-at
invariant-loop-at l = record {
  buckets : l.chains.buckets.items ≡ buckets_of (l.first + l.at) l.count (drop l.at l.hashes);
  links : drop l.at l.chains.links.items ≡ links_of (l.first + l.at) l.count (drop l.at l.hashes);
  count : length l.chains.buckets.items ≡ l.count;
  room : length l.chains.links.items ≡ length l.hashes;
}
