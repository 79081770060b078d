-- What the words of the command line ask for.
use Rattle.std.specs.Prelude.{ℕ, List, Option, Some, None}
use Rattle.cli_words.specs.Reads.{Reads}
use Rattle.cli_words.specs.declared.command.Command.{Command}
use Rattle.cli_words.specs.declared.command.Command.TheVariants as commands
use Rattle.ldso_cli.specs.Turns.{IsScheduled}

-- a command that can be carried out: words with a schedule that is none are a usage
abbrev pub CanBeDone : Command → Type 0
CanBeDone (commands.Bind bind) = Unit {0}
CanBeDone (commands.Assemble path) = Unit {0}
CanBeDone (commands.Dump path) = Unit {0}
CanBeDone (commands.Turns turns) = IsScheduled turns
CanBeDone (commands.Run run) = Unit {0}
CanBeDone (commands.Check check) = Unit {0}
CanBeDone (commands.Generate number) = Unit {0}

-- words ask for the command that they are, if it can be done, and else for nothing
abbrev pub Asks : List (List ℕ) → Option Command → Type 0
Asks words (Some command) = Reads words command × CanBeDone command
Asks words None = (command : Command) → Reads words command → CanBeDone command → ⊥

-- this holds of what words ask for
pub record OfAsked (words : List (List ℕ)) (P : Option Command → Type 0) : Type 0 where
  pub asked : Option Command
  pub asks : Asks words asked
  pub holds : P asked

-- this holds of each thing that words ask for: they ask for one
abbrev pub OfEachAsked : List (List ℕ) → (Option Command → Type 0) → Type 0
OfEachAsked words P = (command : Option Command) → Asks words command → P command
