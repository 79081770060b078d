-- The sizes of all parts, and a page for each.
use Rattle.asm_laws.proofs.AsmBounds.Sizes.{low_end, part_small}
use Rattle.asm_layout.specs.Contents.{contents_of}
use Rattle.asm_laws.proofs.asm_bounds.law.parts_end_low.Goals as goal

pub returns : goal.returns
returns c source lines says =
    let (short, aligned, named) = c.sources_are_short.ensures source lines says in
    low_end (contents_of lines) (c.alignments_divide_pages.ensures lines aligned) (part_small lines short (c.strings_are_said.ensures lines) (c.sections_are_small.ensures lines short))
