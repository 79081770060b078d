-- What the contents of lines hold.
use Rattle.std.proofs.Common.{◌≡◌, List, ap, ◌∙◌, refl}
use Rattle.asm_write.specs.declared.contents.Contents.{Contents}
use Rattle.asm_statement.specs.declared.line.Line.{Line}
use Rattle.asm_layout.specs.Contents.{contents_of}
use Rattle.asm_layout.specs.Spots.{sections_of}

of_lines : (lines : List Line) → (contents_of lines).sections ≡ sections_of lines
unfolding contents_of
of_lines lines = refl

pub sections_held : (lines : List Line) (contents : Contents) → contents ≡ contents_of lines → contents.sections ≡ sections_of lines
sections_held lines contents are = ap (λ (it : Contents). it.sections) are ∙ of_lines lines
