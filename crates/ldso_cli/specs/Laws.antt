-- What holds of every answer of a command, before it is written.
use Rattle.std.specs.Prelude.{ℕ, List, Option}
use Rattle.cli_words.specs.declared.command.Command.{Command}
use Rattle.ld_base.specs.declared.linking.File.{File}
use Rattle.ldso_cli.specs.Command.{CommandAnswers, ReadsWell, WordsAnswer}
use Rattle.ldso_cli.specs.Complete.{AreFilesOf, FilesSuffice, IsDone}
use Rattle.ldso_cli.specs.Headline.{Headline}
use Rattle.ldso_cli.specs.Outside.{LibraryAt}
use Rattle.ldso_cli.specs.declared.outcome.End.{End}

-- what it keeps is a history
abbrev pub AnswersAreHistories : Type 0
AnswersAreHistories = (command : Option Command) (before after : LibraryAt) (own : End) (text : List ℕ)
    → WordsAnswer command before after own text → Headline command before after own

-- where the files have all that it asks for, and no read fails, it does what it was asked
abbrev pub AnswersComplete : Type 0
AnswersComplete = (command : Command) (before after : LibraryAt) (own : End) (text : List ℕ) (files : List File)
    → CommandAnswers command before after own text → AreFilesOf command before files → ReadsWell command before after → FilesSuffice command files
    → IsDone command own
