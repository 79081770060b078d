use Rattle.std.proofs.Common.{◌≡◌, ℕ, ◌<◌, get_or, length, ap, sym, ◌∙◌, arith}
use Rattle.std.proofs.lemmas.List.{get_or_default}
use Rattle.tls_blocks.specs.Numbers.{number_of}
use Rattle.tls_blocks.proofs.Gaps.{gap_here}
use Rattle.tls_blocks.proofs.modules.first_gap.Goals as goal

pub returns-then-module-place : goal.returns-then-module-place
returns-then-module-place c =
    let modules = c.args.modules.now in
    let place : ℕ = c.loop-place.place in
    let m = c.index-modules-place.result in
    let within : place < length modules = omega arith in
    gap_here modules place c.requires c.loop-place.invariant within (λ d same.
    let is : number_of (get_or modules place d) ≡ m.number = ap number_of (get_or_default modules place d m within ∙ sym c.index-modules-place.is) in
    absurd (omega arith))
