use Rattle.std.proofs.Common.{ap, ◌∙◌, arith}
use Rattle.std.proofs.lemmas.Int.{ints}
use Rattle.asm_object.specs.AsmBytes.Words.{slot_words}
use Rattle.asm_object.proofs.AsmBytes.Linkage.{slot_bytes}
use Rattle.asm_object.proofs.asm_bytes.plt.push_numbered.Goals as goal

pub returns-in-Some : goal.returns-in-Some
returns-in-Some c =
    let value = c.slot_distance.ensures.value in
    let low = c.slot_distance.ensures.low in
    let high = c.slot_distance.ensures.high in
    rw (← slot_bytes c.args.plt c.args.got_plt c.args.slot c.in-Some.words (c.in-Some.ensures ∙ ap slot_words (omega (arith, ints, value, low, high)))) c.push_words.ensures
