-- By the law of the file.
use Rattle.asm_write.specs.Starts.{starts_of}
use Rattle.asm_layout.specs.Contents.{contents_of}
use Rattle.asm_layout.specs.Object.{code_of, object_of}
use Rattle.asm_laws.proofs.asm_bounds.law.object_has_its_size.Goals as goal

pub returns : goal.returns
unfolding object_of
returns c source lines says faultless =
    let whole = c.objects_are_whole.ensures source lines says faultless in
    c.file_has_its_size.ensures (contents_of lines) (code_of lines (starts_of (contents_of lines))) whole.fits whole.aligns whole.packs whole.ends
