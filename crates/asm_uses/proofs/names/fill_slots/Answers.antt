use Rattle.std.proofs.Common.{List, ℕ, ◌∙◌, ap, sym}
use Rattle.std.specs.Prelude.{filter_map}
use Rattle.std.specs.Str.{bytes_eq}
use Rattle.std.proofs.lemmas.List.{take_all}
use Rattle.asm_statement.specs.declared.line.Line.{Line}
use Rattle.asm_layout.specs.Uses.{callee, if_preemptible, slots}
use Rattle.asm_layout.specs.Uses.{distinct, distinct_names}
use Rattle.asm_uses.specs.Lines.{AreLabelsOf}
use Rattle.asm_uses.specs.Preemption.{IsPreemptionOf}
use Rattle.asm_layout.specs.Once.{added_if}
use Rattle.asm_layout.proofs.Distinct.{distinct_further}
use Rattle.asm_uses.proofs.names.fill_slots.Goals as goal

pub loop-line-init : goal.loop-line-init
unfolding distinct
loop-line-init c = c.requires.empty

pub loop-line-preserved : goal.loop-line-preserved
loop-line-preserved c =
    let lines = c.as_slice-line-items.result.now in
    let same = c.as_slice-line-items.ensures in
    let labels : AreLabelsOf lines c.args.labels.now = rw same c.requires.labels in
    let preemption : IsPreemptionOf lines c.args.preemption.now = rw same c.requires.preemption in
    c.in_ok-add_found.ensures
    ∙ ap (added_if bytes_eq c.loop-line.names) (c.slot_name.ensures lines labels preemption)
    ∙ ap (λ (names : List (List ℕ)). added_if bytes_eq names (if_preemptible lines (callee c.line-item.result.statement))) c.loop-line.invariant
    ∙ sym (distinct_further bytes_eq (λ line. if_preemptible lines (callee line.statement)) lines c.loop-line.line-index c.line-item.result
    c.loop-line-test.true c.line-item.is)

pub returns : goal.returns
unfolding slots
returns c =
    let lines = c.as_slice-line-items.result.now in
    let all = take_all c.loop-line.line-index lines c.loop-line-test.false in
    c.loop-line.invariant
    ∙ ap (λ (front : List Line). distinct_names (filter_map (λ line. if_preemptible lines (callee line.statement)) front)) all
    ∙ ap slots c.as_slice-line-items.ensures
