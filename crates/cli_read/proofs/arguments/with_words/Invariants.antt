use Rattle.std.proofs.Common.{◌≡◌, fold, map, take}
use Rattle.clap.specs.Simple.{app_of, new_rule, with_rule}
use Rattle.cli_read.proofs.arguments.with_words.Given as goal

-- the words so far
abbrev pub invariant-loop-name : goal.invariant-loop-name
invariant-loop-name l = app_of l.command ≡ fold with_rule (app_of l.fn.command) (map (λ name. new_rule name.now) (take l.name-index l.names))
