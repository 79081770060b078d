-- What the names of records don't change.
use Rattle.std.proofs.Common.{◌≡◌, ◌∙◌, ap, sym, ℕ, List, ◌++◌, map, refl}
use Rattle.std.specs.Prelude.{sum, sum_by}
use Rattle.std.proofs.lemmas.List.Sums.{sum-map}
use Rattle.std.proofs.lemmas.Simd.{map-map}
use Rattle.elf_versions.specs.declared.verdef.VerdefRecord.{VerdefRecord}
use Rattle.elf_versions.specs.declared.verneed.NeedRecord.{NeedRecord}
use Rattle.elf_versions.specs.declared.verneed.VerneedRecord.{VerneedRecord}
use Rattle.elf_versions.specs.Index.{indexes_of}
use Rattle.elf_versions.specs.Names.{defined, need_of, needed}

-- the indexes
pub indexes_same : (strings : List ℕ) (verdefs : List VerdefRecord) (verneeds : List VerneedRecord)
    → (map (λ d. d.index) verdefs ++ map (λ n. n.index) verneeds) ≡ indexes_of (map (defined strings) verdefs) (map (needed strings) verneeds)
indexes_same strings verdefs verneeds = simp map-map refl

-- the counts
pub counts_same : (strings : List ℕ) (needs : List NeedRecord) → sum_by (λ n. n.count) (map (need_of strings) needs) ≡ sum_by (λ n. n.count) needs
counts_same strings needs =
    sym (sum-map (λ n. n.count) (map (need_of strings) needs)) ∙ ap sum (map-map _ (need_of strings) needs) ∙ sum-map (λ n. n.count) needs
