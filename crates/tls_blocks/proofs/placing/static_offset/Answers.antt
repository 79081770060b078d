use Rattle.std.proofs.Common.{◌≡◌, ℕ, ◌+◌, ◌%◌, ◌≤◌, subst}
use Rattle.tls_blocks.specs.Places.{alignment_of}
use Rattle.tls_blocks.proofs.Residues.{offset_is}
use Rattle.tls_blocks.proofs.placing.static_offset.Goals as goal

pub returns-clause-offset : goal.returns-clause-offset
returns-clause-offset c =
    let tp : ℕ = c.args.tp in
    let size : ℕ = c.args.size in
    let gap : ℕ = c.gap.result in
    let Gaps : ℕ → Type 0 = λ align. (((tp + size) + gap) % align ≡ c.args.seg.vaddr % align) × ((more : ℕ) → ((tp + size) + more) % align ≡ c.args.seg.vaddr % align → gap ≤ more) in
    let gaps : Gaps (alignment_of c.args.seg) = subst Gaps c.alignment-align.ensures (c.gap.ensures.fits, c.gap.ensures.least) in
    offset_is tp size gap c.args.seg gaps.0 gaps.1
