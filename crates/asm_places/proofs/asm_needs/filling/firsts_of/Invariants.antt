use Rattle.std.proofs.Common.{◌≡◌, ◌++◌, ◌≤◌, ◌*◌, ◌^◌, drop, length, map}
use Rattle.asm_places.specs.AsmNeeds.Filled.{running_counts}
use Rattle.asm_places.proofs.asm_needs.filling.firsts_of.Given as goal

-- the numbers that are still to come stand behind those that are there
abbrev pub invariant-loop-file : goal.invariant-loop-file
invariant-loop-file l = record {
  counts : l.firsts.items ++ running_counts l.first (map (λ file. length file.versions) (drop l.file-index l.files))
      ≡ running_counts 0 (map (λ file. length file.versions) l.files);
  modest : l.first ≤ l.file-index * 2 ^ 64;
}
