use Rattle.std.proofs.Common.{List, [], ◌∙◌, ap, sym}
use Rattle.std.specs.Prelude.{filter_map, fold}
use Rattle.std.proofs.lemmas.List.{take_all}
use Rattle.asm_statement.specs.declared.directive.Need.{Need}
use Rattle.asm_statement.specs.declared.line.Line.{Line}
use Rattle.asm_layout.specs.Uses.{with_need, need_of, needs}
use Rattle.asm_uses.specs.Needs.{with_found}
use Rattle.asm_uses.proofs.Needed.{needs_further}
use Rattle.asm_uses.proofs.need_map.NeedMap.of.Goals as goal

pub loop-line-preserved : goal.loop-line-preserved
loop-line-preserved c =
    let lines = c.as_slice-line-items.result.now in
    c.in_ok-put_found.ensures
    ∙ ap (with_found c.loop-line.map) c.need_of.ensures
    ∙ ap (λ (list : List Need). with_found list (need_of c.line-item.result.statement)) c.loop-line.invariant
    ∙ sym (needs_further (λ line. need_of line.statement) lines c.loop-line.line-index c.line-item.result c.loop-line-test.true c.line-item.is)

pub returns : goal.returns
unfolding needs
returns c =
    let lines = c.as_slice-line-items.result.now in
    let all = take_all c.loop-line.line-index lines c.loop-line-test.false in
    c.loop-line.invariant
    ∙ ap (λ (front : List Line). fold with_need [] (filter_map (λ line. need_of line.statement) front)) all
    ∙ ap needs c.as_slice-line-items.ensures
