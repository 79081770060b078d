-- What turns answers before its schedule is known to be one.
use Rattle.std.specs.Prelude.{◌⊎◌, ℕ, List}
use Rattle.cli_words.specs.declared.command.Turns.{Turns}
use Rattle.ldso_cli.specs.Command.{IsUsage}
use Rattle.ldso_cli.specs.Outside.{LibraryAt}
use Rattle.ldso_cli.specs.Turns.{IsScheduled, TurnsComes}
use Rattle.ldso_cli.specs.declared.outcome.End.{End}

-- it is done where its schedule is one, and is a usage where it isn't
abbrev pub AsScheduled : Turns → LibraryAt → LibraryAt → End → List ℕ → Type 0
AsScheduled turns before after end text = (IsScheduled turns × TurnsComes turns before after end text) ⊎ ((IsScheduled turns → ⊥) × IsUsage end text)
