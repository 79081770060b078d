use Rattle.std.proofs.Common.{◌<◌, length, ◌∙◌, arith}
use Rattle.trace_rows.proofs.Found.{long_with}
use Rattle.trace_rows.proofs.rows.looking.length_with.Goals as goal

pub returns-then-version-eq-LONG_NAME : goal.returns-then-version-eq-LONG_NAME
returns-then-version-eq-LONG_NAME c = λ ask text n v le.
    let less : length ask.name < 256 = omega (arith, n, c.if-name-ge-LONG_NAME.false) in
    long_with ask text less v (le ∙ c.if-version-eq-LONG_NAME.true)
