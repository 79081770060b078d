-- Condition by condition.
use Rattle.std.proofs.Common.{arith}
use Rattle.asm_write.specs.Starts.{starts_of}
use Rattle.asm_layout.specs.Contents.{contents_of}
use Rattle.asm_laws.proofs.asm_bounds.law.objects_are_whole.Goals as goal

pub returns : goal.returns
unfolding contents_of
returns c source lines says faultless =
    let (short, aligned, named) = c.sources_are_short.ensures source lines says in
    record {
      fits = c.sections_have_their_sizes.ensures lines faultless (starts_of (contents_of lines));
      aligns = c.alignments_divide_pages.ensures lines aligned;
      packs = c.packed_places_stand_behind.ensures source lines says;
      ends = λ part. let low = c.parts_end_low.ensures source lines says part in omega (arith, low);
    }
