use Rattle.std.proofs.Common.{List, ℕ, ◌∙◌, ap, sym}
use Rattle.std.specs.Prelude.{option_map}
use Rattle.std.specs.List.{list_any}
use Rattle.std.proofs.lemmas.List.{take_all}
use Rattle.asm_statement.specs.declared.line.Line.{Line}
use Rattle.asm_layout.specs.Once.{is_among}
use Rattle.asm_layout.specs.Symbols.{weakens}
use Rattle.asm_layout.proofs.Among.{among_added_if}
use Rattle.asm_layout.proofs.Firsts.{any_further}
use Rattle.asm_symbols.proofs.facts.weak_names.Goals as goal

pub loop-line-preserved : goal.loop-line-preserved
loop-line-preserved c = λ name.
    let lines = c.as_slice-line-items.result.now in
    let line = c.line-item.result in
    ap (λ (names : List (List ℕ)). is_among names name) c.in_ok-add_found.ensures
    ∙ among_added_if c.loop-line.names (option_map (λ n. n.now) c.weak_name.result) name
    ∙ rw (c.loop-line.invariant name, ← c.weak_name.ensures name)
    (sym (any_further (λ line. weakens name line.statement) lines c.loop-line.line-index line c.loop-line-test.true c.line-item.is))

pub returns : goal.returns
returns c = λ name.
    let all = take_all c.loop-line.line-index c.as_slice-line-items.result.now c.loop-line-test.false ∙ c.as_slice-line-items.ensures in
    c.loop-line.invariant name ∙ ap (list_any (λ (line : Line). weakens name line.statement)) all
