use Rattle.std.proofs.Common.{◌≡◌, ◌++◌, ◌+◌, [], ◌∷◌, take, map, ap, sym, ◌∙◌}
use Rattle.std.proofs.lemmas.List.{take_more}
use Rattle.asm_statement.specs.declared.directive.Need.{Need}
use Rattle.asm_layout.specs.Uses.{distinct}
use Rattle.asm_layout.proofs.Distinct.{AreFirsts, distinct_firsts}
use Rattle.asm_places.proofs.AsmNeeds.Parts.{spread}
use Rattle.asm_places.proofs.asm_needs.filling.files_of.Goals as goal

pub loop-need-init : goal.loop-need-init
unfolding distinct
loop-need-init c = record {
  all = c.in_ok-files.ensures.all ∙ c.len.ensures;
  each = λ k d below. c.in_ok-files.ensures.each k d (rw c.len.ensures below);
}

pub loop-need-preserved : goal.loop-need-preserved
loop-need-preserved c =
    let needs = c.args.needs.now in
    let n = c.loop-need.need-index in
    let need = c.need-item.result in
    let firsts : AreFirsts c.args.names.now = rw c.requires (distinct_firsts (map (λ (need : Need). need.file) needs)) in
    let further : take (n + 1) needs ≡ take n needs ++ need ∷ [] =
    take_more needs n need c.loop-need-test.true ∙ ap (λ (y : Need). take n needs ++ y ∷ []) (sym c.need-item.is) in
    rw (further, c.in_ok-add_need.ensures) (spread c.args.names.now (take n needs) need c.loop-need.files.items firsts c.loop-need.invariant)
