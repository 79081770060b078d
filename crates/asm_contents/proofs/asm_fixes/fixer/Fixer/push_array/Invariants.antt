-- The entries that are still to come stand behind those that are there.
use Rattle.std.proofs.Common.{◌≡◌, ◌++◌, ◌≤◌, ◌*◌, drop}
use Rattle.std.specs.Prelude.{filter_map}
use Rattle.asm_layout.specs.Fixes.{array_fixes}
use Rattle.asm_layout.specs.Tables.{entry_in}
use Rattle.asm_contents.specs.AsmFixes.Arrays.{array_part}
use Rattle.asm_contents.specs.AsmFixes.Fixer.{IsFixerOf}
use Rattle.asm_contents.proofs.asm_fixes.fixer.Fixer.push_array.Given as goal

abbrev pub invariant-loop-line : goal.invariant-loop-line
invariant-loop-line l = record {
  fixes : IsFixerOf l.line-items l.self
      → l.fixes ++ array_fixes l.line-items (array_part l.array) l.offset (filter_map (λ line. entry_in l.array line.statement) (drop l.line-index l.line-items))
      ≡ l.initial.fixes ++ array_fixes l.line-items (array_part l.array) 0 (filter_map (λ line. entry_in l.array line.statement) l.line-items);
  modest : l.offset ≤ 8 * l.line-index;
}
