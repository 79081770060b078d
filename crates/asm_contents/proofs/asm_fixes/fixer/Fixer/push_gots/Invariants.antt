-- The words that are still to come stand behind those that are there.
use Rattle.std.proofs.Common.{◌≡◌, ◌++◌, ◌≤◌, ◌*◌, List, drop}
use Rattle.asm_statement.specs.declared.line.Line.{Line}
use Rattle.asm_layout.specs.Fixes.{got_fixes}
use Rattle.asm_contents.specs.AsmFixes.Fixer.{IsFixerOf}
use Rattle.asm_contents.proofs.asm_fixes.fixer.Fixer.push_gots.Given as goal

abbrev pub invariant-loop-got : goal.invariant-loop-got
invariant-loop-got l = record {
  fixes : (lines : List Line) → IsFixerOf lines l.self
      → l.fixes ++ got_fixes lines l.offset (drop l.got-index l.uses) ≡ l.initial.fixes ++ got_fixes lines 0 l.uses;
  modest : l.offset ≤ 16 * l.got-index;
}
