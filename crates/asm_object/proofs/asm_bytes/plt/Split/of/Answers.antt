use Rattle.std.proofs.Common.{◌≡◌, ◌∙◌, ap, ℤ, pos, ◌+ℤ◌, arith}
use Rattle.std.specs.Int.{int_rem_euclid}
use Rattle.std.proofs.lemmas.Int.{ints}
use Rattle.asm_object.proofs.AsmBytes.Aligned.{upper_is_aligned}
use Rattle.asm_object.proofs.asm_bytes.plt.Split.of.Goals as goal

pub returns-in-Ok-clause-parts : goal.returns-in-Ok-clause-parts
returns-in-Ok-clause-parts c =
    let number = c.args.distance in
    let e : c.rem_euclid-rest.result ≡ int_rem_euclid (number +ℤ pos 2048) (pos 4096) =
    c.rem_euclid-rest.ensures.value ∙ ap (λ (z : ℤ). int_rem_euclid z (pos 4096)) (omega (arith, ints)) in
    let g = c.in-Ok.ensures in
    let low = c.rem_euclid-rest.ensures.lower_bound in
    let high = c.rem_euclid-rest.ensures.upper_bound in
    (omega (arith, ints, e, g, low, high), omega (arith, ints, e, g, low, high))

pub returns-in-Ok-clause-forms : goal.returns-in-Ok-clause-forms
returns-in-Ok-clause-forms c =
    let number = c.args.distance in
    let parts = returns-in-Ok-clause-parts c in
    let low = c.rem_euclid-rest.ensures.lower_bound in
    let high = c.rem_euclid-rest.ensures.upper_bound in
    (((omega (arith, ints, c.in-Ok.ensures), omega (arith, ints, c.in-Ok.ensures)), upper_is_aligned number _ parts.0), (omega (arith, ints, low, high), omega (arith, ints, low, high)))
