use Rattle.std.proofs.Common.{List, ℕ, ◌∙◌, ap, sym, map}
use Rattle.std.specs.Str.{bytes_eq}
use Rattle.std.proofs.lemmas.List.{take_all}
use Rattle.asm_statement.specs.declared.directive.Need.{Need}
use Rattle.asm_layout.specs.Once.{added}
use Rattle.asm_layout.specs.Uses.{distinct, distinct_names}
use Rattle.asm_layout.proofs.Distinct.{distinct_mapped}
use Rattle.asm_places.proofs.asm_needs.filling.names_of.Goals as goal

pub loop-need-init : goal.loop-need-init
unfolding distinct
loop-need-init c = c.new-names.ensures

pub loop-need-preserved : goal.loop-need-preserved
loop-need-preserved c =
    let needs = c.args.needs.now in
    c.in_ok-add.ensures
    ∙ ap (added bytes_eq c.loop-need.names) c.as_bytes.ensures
    ∙ ap (λ (names : List (List ℕ)). added bytes_eq names c.need-item.result.file) c.loop-need.invariant
    ∙ sym (distinct_mapped bytes_eq (λ (need : Need). need.file) needs c.loop-need.need-index c.need-item.result c.loop-need-test.true c.need-item.is)

pub returns : goal.returns
returns c =
    let all = take_all c.loop-need.need-index c.args.needs.now c.loop-need-test.false in
    c.loop-need.invariant ∙ ap (λ (front : List Need). distinct_names (map (λ need. need.file) front)) all
