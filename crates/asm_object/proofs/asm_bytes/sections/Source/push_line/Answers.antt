use Rattle.std.proofs.Common.{◌<◌, length, arith}
use Rattle.asm_object.proofs.asm_bytes.sections.Source.push_line.Goals as goal

pub returns : goal.returns
returns c = λ lines starts source there.
    let n = c.args.number in
    let below : n < length lines = omega (arith, source.places.all, c.requires.places) in
    c.push_placed.ensures lines starts source there (source.places.each n _ below)
