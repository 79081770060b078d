use Rattle.std.proofs.Common.{◌≡◌, ◌∙◌, ap, ℤ, pos, ◌+ℤ◌, arith}
use Rattle.std.specs.Int.{int_rem_euclid}
use Rattle.std.proofs.lemmas.Int.{ints}
use Rattle.asm_code.proofs.instructions.split.Goals as goal

pub returns-in-Some : goal.returns-in-Some
returns-in-Some c =
    let number = c.args.number in
    let e : c.rem_euclid-rest.result ≡ int_rem_euclid (number +ℤ pos 2048) (pos 4096) =
    c.rem_euclid-rest.ensures.value ∙ ap (λ (z : ℤ). int_rem_euclid z (pos 4096)) (omega (arith, ints)) in
    let g = c.in-Some.ensures in
    let low = c.rem_euclid-rest.ensures.lower_bound in
    let high = c.rem_euclid-rest.ensures.upper_bound in
    (omega (arith, ints, e, g, low, high), omega (arith, ints, e, g, low, high))
