use Rattle.std.proofs.Common.{◌≡◌, ◌∙◌, ap, ℤ, pos, ◌+ℤ◌, ◌-ℤ◌, arith}
use Rattle.std.specs.Int.{int_rem_euclid}
use Rattle.std.proofs.lemmas.Int.{ints}
use mir.Syntax.{w32, w128}
use mir.Val.{to_z, of_z}
use Rattle.asm_layout.specs.Expansions.{upper, wrapped}
use Rattle.asm_code.proofs.instructions.wrapped_split.Goals as goal

pub returns : goal.returns
returns c =
    let number = c.args.number in
    let e : c.rem_euclid-rest.result ≡ int_rem_euclid (number +ℤ pos 2048) (pos 4096) =
    c.rem_euclid-rest.ensures.value ∙ ap (λ (z : ℤ). int_rem_euclid z (pos 4096)) (omega (arith, ints)) in
    let low = c.rem_euclid-rest.ensures.lower_bound in
    let high = c.rem_euclid-rest.ensures.upper_bound in
    let g = c.wrapped.ensures in
    let held : to_z w32 (of_z w32 c.wrapped.result) ≡ c.wrapped.result = omega (arith, ints, c.wrapped.type_inv) in
    let rest = c.rem_euclid-rest.result in
    let there : to_z w128 (of_z w128 (to_z w128 (of_z w128 (to_z w128 (of_z w128 number) +ℤ pos 2048)) -ℤ to_z w128 (of_z w128 rest))) ≡ upper number =
    omega (arith, ints, e, low, high) in
    (held ∙ g ∙ ap wrapped there, omega (arith, ints, e, low, high))
