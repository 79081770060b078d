use Rattle.std.proofs.Common.{ap, ◌∙◌}
use Rattle.clap.specs.Simple.{app_of, with_rule}
use Rattle.cli_read.specs.ClapWords.Forms.{option_rule}
use Rattle.cli_read.proofs.Folding.{grown}
use Rattle.cli_read.proofs.arguments.with_options.Goals as goal

pub loop-switch-preserved : goal.loop-switch-preserved
loop-switch-preserved c =
    grown option_rule (app_of c.args.command) c.args.options.now c.loop-switch.switch-index _ (app_of c.loop-switch.command) (app_of c.in_ok-command.command) c.loop-switch-test.true c.loop-switch.invariant
    (c.in_ok-command.ensures.shape c.option_argument.ensures.own ∙ ap (with_rule (app_of c.loop-switch.command)) c.option_argument.ensures.rule)
