use Rattle.std.proofs.Common.{◌≡◌, ◌∙◌, ◌++◌, [], List, ap, sym, drop, append-nil}
use Rattle.std.specs.Prelude.{filter_map}
use Rattle.std.proofs.Math.ListN.{drop_of_length-le}
use Rattle.asm_statement.specs.declared.line.Line.{Line}
use Rattle.asm_layout.specs.Contents.{offsets_from}
use Rattle.asm_layout.specs.Tables.{library_needed, needed}
use Rattle.asm_contents.proofs.strings.push_offsets.Goals as goal

pub returns : goal.returns
unfolding needed
returns c =
    let lines = c.as_slice-line-items.result.now in
    let none : drop c.loop-line.line-index lines ≡ [] = drop_of_length-le lines c.loop-line-test.false in
    sym (append-nil c.loop-line.offsets)
    ∙ ap (λ (rest : List Line). c.loop-line.offsets ++ offsets_from c.loop-line.at (filter_map (λ line. library_needed line.statement) rest)) (sym none)
    ∙ c.loop-line.invariant
    ∙ ap (λ (lines : List Line). c.args.offsets.now ++ offsets_from c.args.first (filter_map (λ line. library_needed line.statement) lines)) c.as_slice-line-items.ensures
