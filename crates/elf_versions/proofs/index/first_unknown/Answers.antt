use Rattle.std.proofs.Common.{◌≡◌, ◌∙◌, ap, ℕ, ◌<◌, ◌%◌, ◌==◌, false, arith}
use Rattle.std.proofs.Math.Path.{fun_ext}
use Rattle.std.specs.Prelude.{◌&&◌, not, nat_le, position, slice_index_or}
use Rattle.std.specs.List.{list_any}
use Rattle.ld_base.specs.declared.parts.Versions.{Versions}
use Rattle.elf_versions.specs.Index.{indexes_of, unknown_index}
use Rattle.elf_versions.proofs.Named.{indexes_same}
use Rattle.elf_versions.proofs.index.first_unknown.Goals as goal

pub returns : goal.returns
unfolding unknown_index
returns c =
    let v = c.versions.inside in
    let versions = c.args.versions.now in
    let list : c.deref-3.result.now ≡ indexes_of versions.verdefs versions.verneeds =
    c.deref-3.ensures.value ∙ c.in_ok-indexes.ensures
    ∙ rw (c.deref.ensures.value, c.deref-2.ensures.value) (indexes_same v.strings v.verdefs.items v.verneeds.items)
    ∙ ap (λ (x : Versions). indexes_of x.verdefs x.verneeds) c.versions.view_is in
    let known : (k : ℕ) → k < 65536 → slice_index_or c.deref-4.result.now k false ≡ list_any (λ i. i == k) (indexes_of versions.verdefs versions.verneeds) =
    λ k below. rw (c.deref-4.ensures.value, ← list) (c.in_ok-marks.ensures.marks k below) in
    c.first_unmarked.ensures
    ∙ rw (c.as_slice.ensures ∙ ap (λ (x : Versions). x.versym) c.versions.view_is)
    (ap (λ p. position p versions.versym) (fun_ext (λ entry. ap (λ found. nat_le 2 (entry % 0x8000) && not found) (known (entry % 0x8000) (omega arith)))))
