-- An object whose parts have the bytes and the places that they are to have.
use Rattle.asm_write.specs.declared.contents.Contents.{Contents}
use Rattle.asm_write.specs.declared.contents.SectionBytes.{SectionBytes}
use Rattle.asm_write.specs.Starts.{starts_of}
use Rattle.asm_laws.specs.ElfWritten.Fitting.{FitsSections}
use Rattle.asm_laws.specs.ElfWritten.Standing.{AlignsInPages, EndsInside, PacksBehind}

-- the bytes of sections are as many as their sizes, alignments divide a page, packed places stand in the third segment or behind it, and no
-- part passes 2^64
pub record IsWhole (contents : Contents) (code : SectionBytes) : Type 0 where
  pub fits : FitsSections contents code
  pub aligns : AlignsInPages contents
  pub packs : PacksBehind (starts_of contents) contents.fixes
  pub ends : EndsInside (starts_of contents)
