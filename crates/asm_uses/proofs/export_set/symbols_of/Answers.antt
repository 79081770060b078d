use Rattle.std.proofs.Common.{◌≤◌, List, length, take, None, ◌∙◌, ap, sym, arith}
use Rattle.std.specs.Prelude.{filter_map, if◌then◌else◌}
use Rattle.std.proofs.lemmas.List.{take_all}
use Rattle.asm_statement.specs.declared.line.Line.{Line}
use Rattle.asm_layout.specs.declared.uses.Exported.{Exported}
use Rattle.asm_layout.specs.Labels.{copy_name}
use Rattle.asm_layout.specs.Uses.{distinct, same_export, if_labelled, exported_by, exports}
use Rattle.asm_layout.specs.Once.{added_if}
use Rattle.asm_layout.proofs.Distinct.{distinct_further}
use Rattle.asm_uses.specs.Exports.{is_copied, IsSourceOf}
use Rattle.asm_uses.proofs.Again.{leaves_out}
use Rattle.asm_uses.proofs.export_set.symbols_of.Goals as goal

pub loop-number-init : goal.loop-number-init
unfolding distinct
loop-number-init c = c.new-set.ensures

pub loop-number-preserved : goal.loop-number-preserved
loop-number-preserved c =
    let lines = c.as_slice-line-items.result.now in
    let k = c.loop-number.number in
    let line = c.line-item.result in
    let source : IsSourceOf lines c.args.source = rw c.as_slice-line-items.ensures c.requires in
    let within : k ≤ length lines = omega arith in
    c.in_ok-add_found.ensures
    ∙ ap (added_if same_export c.loop-number.set) (c.new_symbol.ensures lines source within)
    ∙ ap
    (λ (list : List Exported).
    added_if same_export list
    (if is_copied (take k lines) (copy_name line.statement) then None else if_labelled lines (exported_by lines line.statement)))
    c.loop-number.invariant
    ∙ leaves_out lines k line.statement
    ∙ sym (distinct_further same_export (λ line. if_labelled lines (exported_by lines line.statement)) lines k line c.loop-number-test.true c.line-item.is)

pub returns : goal.returns
unfolding exports
returns c =
    let lines = c.as_slice-line-items.result.now in
    let all = take_all c.loop-number.number lines c.loop-number-test.false in
    c.loop-number.invariant
    ∙ ap (λ (front : List Line). distinct same_export (filter_map (λ line. if_labelled lines (exported_by lines line.statement)) front)) all
    ∙ ap exports c.as_slice-line-items.ensures
