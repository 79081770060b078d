use Rattle.std.proofs.Common.{◌≡◌, fold, map, take}
use Rattle.clap.specs.Simple.{app_of, with_rule}
use Rattle.cli_read.specs.ClapWords.Forms.{option_rule}
use Rattle.cli_read.proofs.arguments.with_options.Given as goal

-- the options so far
abbrev pub invariant-loop-switch : goal.invariant-loop-switch
invariant-loop-switch l = app_of l.command ≡ fold with_rule (app_of l.fn.command) (map option_rule (take l.switch-index l.options))
