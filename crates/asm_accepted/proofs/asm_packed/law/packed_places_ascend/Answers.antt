-- Place by place.
use Rattle.std.proofs.Common.{arith}
use Rattle.asm_layout.specs.Contents.{contents_of}
use Rattle.asm_layout.specs.Fixes.{fixes_of}
use Rattle.asm_accepted.proofs.AsmPacked.Ascend.{all_ascend}
use Rattle.asm_accepted.proofs.AsmPacked.Places.{all_packed}
use Rattle.asm_accepted.proofs.asm_packed.law.packed_places_ascend.Goals as goal

pub returns : goal.returns
returns c source lines says faultless =
    let (short, aligned, named) = c.sources_are_short.ensures source lines says in
    let few = short.count in
    let low = c.parts_end_low.ensures source lines says in
    all_ascend lines low (c.parts_stand_apart.ensures (contents_of lines)) (fixes_of lines) (c.fixes_ascend.ensures lines (omega (arith, few)))
    (all_packed lines aligned (λ part. let end = low part in omega (arith, end)) faultless)
