use Rattle.std.proofs.Common.{◌≡◌, ◌==◌, ℕ, ◌<◌, length, take, false, get_or}
use Rattle.std.specs.List.{list_any}
use Rattle.elf_versions.proofs.index.marks_of.Given as goal

abbrev pub invariant-loop-index : goal.invariant-loop-index
invariant-loop-index l = record {
  len : length l.marks.items ≡ l.limit;
  marks : (k : ℕ) → k < l.limit → get_or l.marks.items k false ≡ list_any (λ i. i == k) (take l.index-index l.indexes);
}
