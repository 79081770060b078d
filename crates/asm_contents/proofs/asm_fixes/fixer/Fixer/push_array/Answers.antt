use Rattle.std.proofs.Common.{◌≡◌, ◌∙◌, ◌++◌, [], List, ap, sym, drop, append-nil}
use Rattle.std.specs.Prelude.{filter_map}
use Rattle.std.proofs.Math.ListN.{drop_of_length-le}
use Rattle.asm_statement.specs.declared.line.Line.{Line}
use Rattle.asm_layout.specs.Fixes.{array_fixes}
use Rattle.asm_layout.specs.Tables.{entries, entry_in}
use Rattle.asm_contents.specs.AsmFixes.Arrays.{array_part}
use Rattle.asm_contents.specs.AsmFixes.Fixer.{IsFixerOf}
use Rattle.asm_contents.proofs.asm_fixes.fixer.Fixer.push_array.Goals as goal

pub returns : goal.returns
unfolding entries
returns c = λ is.
    let lines = c.as_slice-line-items.result.now in
    let same = c.as_slice-line-items.ensures in
    let part = array_part c.args.array in
    let it : IsFixerOf lines c.args.self = rw same is in
    let none : drop c.loop-line.line-index lines ≡ [] = drop_of_length-le lines c.loop-line-test.false in
    sym (append-nil c.loop-line.fixes)
    ∙ ap (λ (rest : List Line). c.loop-line.fixes ++ array_fixes lines part c.loop-line.offset (filter_map (λ line. entry_in c.args.array line.statement) rest)) (sym none)
    ∙ c.loop-line.invariant.fixes it
    ∙ ap (λ (lines : List Line). c.args.fixes.now ++ array_fixes lines part 0 (filter_map (λ line. entry_in c.args.array line.statement) lines)) same
