use Rattle.std.proofs.Common.{ap, ◌∙◌, arith}
use Rattle.std.proofs.lemmas.Int.{ints}
use Rattle.asm_object.specs.AsmBytes.Words.{begin_words}
use Rattle.asm_object.proofs.AsmBytes.Linkage.{begin_bytes}
use Rattle.asm_object.proofs.asm_bytes.plt.push_begin.Goals as goal

pub returns-in-Some : goal.returns-in-Some
returns-in-Some c =
    let value = c.table_distance.ensures.value in
    let low = c.table_distance.ensures.low in
    let high = c.table_distance.ensures.high in
    rw (← begin_bytes c.args.plt c.args.got_plt c.in-Some.words (c.in-Some.ensures ∙ ap begin_words (omega (arith, ints, value, low, high)))) c.push_words.ensures
