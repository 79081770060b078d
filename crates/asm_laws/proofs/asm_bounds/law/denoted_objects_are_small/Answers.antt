-- By the size of the file, which isn't too big.
use Rattle.std.proofs.Common.{◌≡◌, ◌∙◌, ap, ℕ, ◌≤◌, false, nat_lt, length, arith}
use Rattle.std.proofs.lemmas.Bool.Decides.{nat_tests}
use Rattle.asm_write.specs.Records.{file_size}
use Rattle.asm_write.specs.Starts.{starts_of}
use Rattle.asm_layout.specs.Contents.{contents_of}
use Rattle.asm_layout.specs.Object.{is_too_big}
use Rattle.asm_laws.proofs.asm_bounds.law.denoted_objects_are_small.Goals as goal

within : (size : ℕ) → nat_lt 8_388_608 size ≡ false → size ≤ 8_388_608
within size is = grind (arith, nat_tests)

pub returns : goal.returns
unfolding is_too_big
returns c source bytes denotes =
    let object = denotes.object in
    let size = c.object_has_its_size.ensures source denotes.lines denotes.says object.faultless in
    let less = within (file_size (starts_of (contents_of denotes.lines))) object.fits in
    let long = ap length object.are ∙ size in
    omega (arith, less, long)
