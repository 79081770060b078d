use Rattle.std.proofs.Common.{◌≡◌, length, Some, arith}
use Rattle.std.specs.Prelude.{slice_get}
use Rattle.std.proofs.lemmas.Option.{slice_get_read}
use Rattle.asm_places.specs.Counts.{ArePlacesTo}
use Rattle.asm_contents.specs.AsmFixes.Fixer.{IsFixerOf}
use Rattle.asm_object.proofs.AsmData.Numbered.{numbered, numbers_more}
use Rattle.asm_object.proofs.asm_data.numbers.each_number.Goals as goal

pub loop-number-preserved : goal.loop-number-preserved
loop-number-preserved c =
    let lines = c.as_slice-line-items.result.now in
    let n = c.loop-number.number in
    let same = c.as_slice-line-items.ensures in
    let line = c.line-item.result in
    let there : slice_get lines n ≡ Some line =
    slice_get_read lines (length lines) n line (omega arith) c.loop-number-test.true c.line-item.is in
    let fixer : IsFixerOf lines c.args.fixer = rw same c.requires.fixer in
    let places : ArePlacesTo lines (length lines) c.args.places.now = rw same c.requires.places in
    rw c.in_ok-push.ensures.ok
    (numbers_more lines c.args.starts.now n c.loop-number.numbers c.line_number.result c.loop-number.invariant
    (numbered lines c.args.starts.now n line _ c.line_number.result there (places.each n _ c.loop-number-test.true) (c.line_number.ensures lines fixer)))
