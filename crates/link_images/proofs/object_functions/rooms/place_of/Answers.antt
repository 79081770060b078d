use Rattle.std.proofs.Common.{◌≡◌, ℕ, ◌-◌, ◌<◌, ◌≤◌, length, sym, ap, subst, ◌∙◌, arith}
use Rattle.ld_base.specs.declared.linking.Loaded.{Loaded}
use Rattle.link_images.specs.ObjectFunctions.Rooms.{IsPlace}
use Rattle.link_images.proofs.ObjectFunctions.Places.{placed}
use Rattle.link_images.proofs.object_functions.rooms.place_of.Goals as goal

pub overflow_sub-result : goal.overflow_sub-result
overflow_sub-result c =
    let first = c.index-added-0.result in
    let at = placed c.args.added.now c.args.serial first c.requires.row c.requires.member c.index-added-0.is in
    let from : c.number-2.result ≡ first.serial = c.number-2.ensures ∙ ap (λ (o : Loaded). o.serial) (sym c.index-added-0.is) in
    let own : c.number.result ≡ c.args.serial = c.number.ensures in
    let low : first.serial ≤ c.args.serial = at.low in
    omega (arith, from, own, low)

pub returns-clause-inside : goal.returns-clause-inside
returns-clause-inside c =
    let first = c.index-added-0.result in
    let at = placed c.args.added.now c.args.serial first c.requires.row c.requires.member c.index-added-0.is in
    let from : c.number-2.result ≡ first.serial = c.number-2.ensures ∙ ap (λ (o : Loaded). o.serial) (sym c.index-added-0.is) in
    let own : c.number.result ≡ c.args.serial = c.number.ensures in
    let inside : c.args.serial - first.serial < length c.args.added.now = at.inside in
    omega (arith, from, own, inside)

pub returns-clause-is : goal.returns-clause-is
returns-clause-is c =
    let first = c.index-added-0.result in
    let at = placed c.args.added.now c.args.serial first c.requires.row c.requires.member c.index-added-0.is in
    let from : c.number-2.result ≡ first.serial = c.number-2.ensures ∙ ap (λ (o : Loaded). o.serial) (sym c.index-added-0.is) in
    let own : c.number.result ≡ c.args.serial = c.number.ensures in
    subst (IsPlace c.args.added.now c.args.serial) (ap (λ (n : ℕ). n - first.serial) (sym own) ∙ ap (λ (n : ℕ). c.number.result - n) (sym from)) at.place
