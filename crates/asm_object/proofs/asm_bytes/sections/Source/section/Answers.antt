use Rattle.std.proofs.Common.{◌≡◌, length, Some, arith}
use Rattle.std.specs.Prelude.{slice_get}
use Rattle.std.proofs.lemmas.Option.{slice_get_read}
use Rattle.asm_object.proofs.AsmBytes.Lines.{one_more}
use Rattle.asm_object.proofs.asm_bytes.sections.Source.section.Goals as goal

pub loop-number-preserved : goal.loop-number-preserved
loop-number-preserved c = λ starts source.
    let lines = c.as_slice-line-items.result.now in
    let n = c.loop-number.number in
    let line = c.line-item.result in
    let there : slice_get lines n ≡ Some line =
    slice_get_read lines (length lines) n line (omega arith) c.loop-number-test.true c.line-item.is in
    one_more lines starts c.args.section n line c.loop-number.out.items c.push_line.new.out.items _ c.loop-number-test.true c.line-item.is
    (c.in_ok-push_line.ensures lines starts source there) (c.loop-number.invariant starts source)
