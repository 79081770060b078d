use Rattle.std.proofs.Common.{◌≡◌, ◌++◌, ◌∙◌}
use Rattle.trace_text.specs.RunTexts.Printed.{journal_lines}
use Rattle.ldso_cli.specs.Played.{last_line}
use Rattle.ldso_cli.proofs.turns.told.Goals as goal

pub returns-clause-text : goal.returns-clause-text
returns-clause-text c =
    let line : c.as_str.result.now ≡ last_line c.args.played.ended = c.as_str.ensures.value ∙ c.in_ok-line.ensures in
    c.in_ok-text.ensures ∙ (λ i. journal_lines (c.as_slice.ensures i) ++ line i)
