use Rattle.std.proofs.Common.{◌∙◌, ap, sym, ℕ}
use Rattle.std.specs.Prelude.{fold, option_map}
use Rattle.std.proofs.lemmas.List.{take_all}
use Rattle.asm_layout.specs.Symbols.{visibility_given}
use Rattle.asm_symbols.specs.Visibilities.{given_or}
use Rattle.asm_symbols.proofs.Given.{fold_further}
use Rattle.asm_symbols.proofs.visibilities.Visibilities.of.Goals as goal

pub loop-line-preserved : goal.loop-line-preserved
loop-line-preserved c = λ name.
    let lines = c.as_slice-line-items.result.now in
    let line = c.line-item.result in
    c.in_ok-give_found.ensures name
    ∙ ap (λ (before : ℕ). given_or name before (option_map (λ it. (it.0.now, it.1)) c.given.result)) (c.loop-line.invariant name)
    ∙ sym (c.given.ensures name _)
    ∙ sym (fold_further (λ given line. visibility_given name given line.statement) 0 lines c.loop-line.line-index line c.loop-line-test.true c.line-item.is)

pub returns : goal.returns
returns c = λ name.
    let all = take_all c.loop-line.line-index c.as_slice-line-items.result.now c.loop-line-test.false ∙ c.as_slice-line-items.ensures in
    c.loop-line.invariant name ∙ ap (fold (λ given line. visibility_given name given line.statement) 0) all
