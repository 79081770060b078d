-- By the contents of the source.
use Rattle.std.proofs.Common.{◌∙◌, subst, ℕ, List, arith}
use Rattle.elf_head.specs.Verdict.{SpellsHead}
use Rattle.asm_write.specs.Starts.{starts_of}
use Rattle.asm_layout.specs.Contents.{contents_of}
use Rattle.asm_layout.specs.Object.{code_of, object_of}
use Rattle.asm_accepted.proofs.AsmRecord.Heads.{same_head}
use Rattle.asm_accepted.proofs.asm_record.law.the_head_is_said.Goals as goal

pub returns : goal.returns
unfolding object_of
returns c source bytes denotes head spells =
    let lines = denotes.lines in
    let contents = contents_of lines in
    let (short, aligned, named) = c.sources_are_short.ensures source lines denotes.says in
    let whole = c.objects_are_whole.ensures source lines denotes.says denotes.object.faultless in
    let same = c.the_head_is_spelled.ensures contents (code_of lines (starts_of contents)) whole head (subst (λ (b : List ℕ). SpellsHead b head) denotes.object.are spells) in
    same ∙ same_head lines (c.sections_are_small.ensures lines short) (λ part. let low = c.parts_end_low.ensures source lines denotes.says part in omega (arith, low))
