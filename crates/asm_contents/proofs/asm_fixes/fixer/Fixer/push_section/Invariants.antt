-- The places that are still to come stand behind those that are there.
use Rattle.std.proofs.Common.{◌≡◌, ◌++◌, drop}
use Rattle.asm_layout.specs.Fixes.{section_fixes}
use Rattle.asm_contents.specs.AsmFixes.Fixer.{IsFixerOf}
use Rattle.asm_contents.proofs.asm_fixes.fixer.Fixer.push_section.Given as goal

abbrev pub invariant-loop-number : goal.invariant-loop-number
invariant-loop-number l = IsFixerOf l.line-items l.self
    → l.fixes ++ section_fixes l.line-items l.target l.number (drop l.number l.line-items) ≡ l.initial.fixes ++ section_fixes l.line-items l.target 0 l.line-items
