use Rattle.std.proofs.Common.{◌≡◌, ◌++◌, ◌∙◌}
use Rattle.ldso_cli.specs.Played.{last_line}
use Rattle.ldso_cli.specs.Threads.{printed_of}
use Rattle.ldso_cli.proofs.threads.told.Goals as goal

pub returns-clause-text : goal.returns-clause-text
returns-clause-text c =
    let line : c.as_str.result.now ≡ last_line c.args.threaded.played.ended = c.as_str.ensures.value ∙ c.in_ok-line.ensures in
    c.in_ok-text.ensures ∙ (λ i. printed_of c.args.trace (c.as_slice.ensures i) ++ line i)
