use Rattle.std.proofs.Common.{◌≡◌, ◌++◌, drop}
use Rattle.asm_write.specs.declared.starts.Starts.{Starts}
use Rattle.asm_layout.specs.Object.{lines_bytes, section_bytes}
use Rattle.asm_object.specs.AsmBytes.Source.{IsSourceOf}
use Rattle.asm_object.proofs.asm_bytes.sections.Source.section.Given as goal

-- the bytes of the lines that are left, behind those that are there, are all of them
abbrev pub invariant-loop-number : goal.invariant-loop-number
invariant-loop-number l = (starts : Starts) → IsSourceOf l.line-items starts l.self
    → l.out.items ++ lines_bytes l.line-items starts l.section l.number (drop l.number l.line-items) ≡ section_bytes l.line-items starts l.section
