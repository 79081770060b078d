use Rattle.std.proofs.Common.{List, ◌∙◌, ap, sym}
use Rattle.std.specs.Prelude.{position}
use Rattle.std.proofs.lemmas.List.{take_all}
use Rattle.asm_layout.specs.declared.uses.Exported.{Exported}
use Rattle.asm_layout.proofs.Firsts.{one_further}
use Rattle.asm_symbols.proofs.Owns.{named, own_first}
use Rattle.asm_symbols.proofs.indexes.own_numbers.Goals as goal

pub loop-at-preserved : goal.loop-at-preserved
loop-at-preserved c = λ name.
    c.in_ok-note.ensures name
    ∙ rw (c.loop-at.invariant name)
    (sym (one_further (named name) c.args.sorted.now c.loop-at.at c.index-sorted-at.result c.loop-at-test.true c.index-sorted-at.is))

pub returns : goal.returns
returns c = λ lines same name.
    let all = take_all c.loop-at.at c.args.sorted.now c.loop-at-test.false ∙ same in
    c.loop-at.invariant name ∙ ap (λ (sorted : List Exported). position (named name) sorted) all ∙ own_first lines name
