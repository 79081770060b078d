use Rattle.std.proofs.Common.{◌∙◌, sym}
use Rattle.asm_text.proofs.AsmParts.Trimmed.{of_parts}
use Rattle.asm_text.proofs.asm_parts.parts.operands_of.Goals as goal

pub returns-else-is_empty : goal.returns-else-is_empty
returns-else-is_empty c =
    of_parts c.parts_of.result (λ parts. parts.items) (λ part. part.now) c.args.text.now (sym c.is_empty.ensures ∙ c.if-is_empty.false) c.parts_of.ensures
