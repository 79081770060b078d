-- Kind by kind of places.
use Rattle.std.proofs.Common.{arith}
use Rattle.asm_write.specs.Starts.{starts_of}
use Rattle.asm_layout.specs.Contents.{contents_of}
use Rattle.asm_laws.proofs.AsmBounds.Packs.{pack_behind}
use Rattle.asm_laws.proofs.asm_bounds.law.packed_places_stand_behind.Goals as goal

pub returns : goal.returns
returns c source lines says =
    let (short, aligned, named) = c.sources_are_short.ensures source lines says in
    pack_behind lines (c.sections_are_small.ensures lines short) short.count (starts_of (contents_of lines))
    (λ part. let low = c.parts_end_low.ensures source lines says part in omega (arith, low))
