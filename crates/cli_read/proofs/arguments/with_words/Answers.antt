use Rattle.std.proofs.Common.{ap, ◌∙◌}
use Rattle.clap.specs.Simple.{app_of, new_rule, with_rule}
use Rattle.cli_read.proofs.Folding.{grown}
use Rattle.cli_read.proofs.arguments.with_words.Goals as goal

pub loop-name-preserved : goal.loop-name-preserved
loop-name-preserved c =
    grown (λ name. new_rule name.now) (app_of c.args.command) c.args.names.now c.loop-name.name-index _ (app_of c.loop-name.command) (app_of c.in_ok-command.command) c.loop-name-test.true c.loop-name.invariant
    (c.in_ok-command.ensures.shape c.word_argument.ensures.own ∙ ap (with_rule (app_of c.loop-name.command)) c.word_argument.ensures.rule)
