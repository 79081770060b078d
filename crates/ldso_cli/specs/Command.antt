-- What the words of the command line come to: a row for each command.
use Rattle.std.specs.Prelude.{◌≡◌, ◌≢◌, ℕ, Bool, true, false, List, Option, Some, None, IsFalse, IsTrue}
use Rattle.ld_base.specs.declared.fault.DlFault.TheVariants as dl
use Rattle.ld_base.specs.declared.linking.File.{File}
use Rattle.library_source.specs.Count.{Rises}
use Rattle.library_source.specs.Files.{Over}
use Rattle.cli_words.specs.declared.command.Command.{Command}
use Rattle.cli_words.specs.declared.command.Command.TheVariants as commands
use Rattle.ldso_cli.specs.Asm.{AsmComes, AsmPrints}
use Rattle.ldso_cli.specs.Bind.{BindComes, BindMisses, BindPrints}
use Rattle.ldso_cli.specs.Check.{CheckComes}
use Rattle.ldso_cli.specs.Dump.{DumpComes, DumpPrints}
use Rattle.ldso_cli.specs.End.{bare}
use Rattle.ldso_cli.specs.Generate.{GenComes}
use Rattle.ldso_cli.specs.Outside.{LibraryAt}
use Rattle.ldso_cli.specs.Played.{StartMisses}
use Rattle.ldso_cli.specs.Status.{usage_text}
use Rattle.ldso_cli.specs.Threads.{RunComes}
use Rattle.ldso_cli.specs.Turns.{TurnsComes}
use Rattle.ldso_cli.specs.declared.outcome.Cause.{Cause}
use Rattle.ldso_cli.specs.declared.outcome.Cause.TheVariants as causes
use Rattle.ldso_cli.specs.declared.outcome.End.{End}

-- a command that runs no program ends for this cause, and keeps nothing
pub record EndsBare (comes : Cause → Type 0) (end : End) : Type 0 where
  pub cause : Cause
  pub end_is : end ≡ bare cause
  pub by : comes cause

-- how bind, dump and asm come to an end over files, while their library goes on from one state to another
abbrev pub Comes : Command → LibraryAt → LibraryAt → List File → End → Type 0
Comes (commands.Bind bind) before after files end = EndsBare (BindComes bind before after files) end
Comes (commands.Dump path) before after files end = EndsBare (DumpComes path before after files) end
Comes (commands.Assemble path) before after files end = EndsBare (AsmComes path before after files) end
Comes (commands.Turns turns) before after files end = ⊥
Comes (commands.Run run) before after files end = ⊥
Comes (commands.Check check) before after files end = ⊥
Comes (commands.Generate number) before after files end = ⊥

-- the text that bind, dump and asm print at an end, over files
abbrev pub Prints : Command → List File → End → List ℕ → Type 0
Prints (commands.Bind bind) files end text = BindPrints bind files end.cause text
Prints (commands.Dump path) files end text = DumpPrints path files end.cause text
Prints (commands.Assemble path) files end text = AsmPrints path files end.cause text
Prints (commands.Turns turns) files end text = ⊥
Prints (commands.Run run) files end text = ⊥
Prints (commands.Check check) files end text = ⊥
Prints (commands.Generate number) files end text = ⊥

-- the library missed each file that a command's name could be. gen looks for its libraries in a library of its own, of which its row below tells
abbrev pub Misses : Command → LibraryAt → LibraryAt → List ℕ → Type 0
Misses (commands.Bind bind) before after name = Over before.files (BindMisses bind before after name)
Misses (commands.Dump path) before after name = (name ≡ path) × Rises before.misses after.misses
Misses (commands.Assemble path) before after name = (name ≡ path) × Rises before.misses after.misses
Misses (commands.Turns turns) before after name = StartMisses turns.setup before after name
Misses (commands.Run run) before after name = StartMisses run.setup before after name
Misses (commands.Check check) before after name = (name ≡ check.trace) × Rises before.misses after.misses
Misses (commands.Generate number) before after name = Unit {0}

-- the end isn't that of a failed read
abbrev pub NoReadFails : End → Type 0
NoReadFails end = (path : List ℕ) → end.cause ≢ causes.Refused (dl.ReadFault path)

-- whether a command reads files of its library: gen makes those that it reads
abbrev pub reads_library : Command → Bool
reads_library (commands.Bind bind) = true
reads_library (commands.Dump path) = true
reads_library (commands.Assemble path) = true
reads_library (commands.Turns turns) = true
reads_library (commands.Run run) = true
reads_library (commands.Check check) = true
reads_library (commands.Generate number) = false

-- the library of a command that reads some tells these files
abbrev pub AreTold : Command → LibraryAt → List File → Type 0
AreTold command library files = IsTrue (reads_library command) → library.files ≡ Some files

-- no read of it failed
abbrev pub ReadsWell : Command → LibraryAt → LibraryAt → Type 0
ReadsWell command before after = IsTrue (reads_library command) → ¬ (Rises before.faults after.faults)

-- over these files a command comes to this end, and prints this text at it
pub record IsAnswer (command : Command) (before after : LibraryAt) (end : End) (text : List ℕ) (files : List File) : Type 0 where
  pub comes : Comes command before after files end
  pub prints : Prints command files end text

abbrev pub OverFiles : Command → LibraryAt → LibraryAt → End → List ℕ → Type 0
OverFiles command before after end text = Over before.files (IsAnswer command before after end text)

-- words that are no command end as a usage
pub record IsUsage (end : End) (text : List ℕ) : Type 0 where
  pub end_is : end ≡ bare causes.Usage
  pub text_is : text ≡ usage_text

-- what a command comes to, before anything is written: an end, and a text. bind, dump and asm come to them over the files that they
-- read, where these are told, and over some files where they aren't; a run and a trace are judged by the files as the library tells them
abbrev pub CommandAnswers : Command → LibraryAt → LibraryAt → End → List ℕ → Type 0
CommandAnswers (commands.Bind bind) before after end text = OverFiles (commands.Bind bind) before after end text
CommandAnswers (commands.Dump path) before after end text = OverFiles (commands.Dump path) before after end text
CommandAnswers (commands.Assemble path) before after end text = OverFiles (commands.Assemble path) before after end text
CommandAnswers (commands.Turns turns) before after end text = TurnsComes turns before after end text
CommandAnswers (commands.Run run) before after end text = RunComes run before after end text
CommandAnswers (commands.Check check) before after end text = CheckComes check before after end text
CommandAnswers (commands.Generate number) before after end text = GenComes number end text

-- what the words come to
abbrev pub WordsAnswer : Option Command → LibraryAt → LibraryAt → End → List ℕ → Type 0
WordsAnswer None before after end text = IsUsage end text
WordsAnswer (Some command) before after end text = CommandAnswers command before after end text

-- where the words ask for no command, and by one that doesn't read it, the library isn't touched, whether an answer comes of it or not
abbrev pub LeavesLibrary : {L : Type 0} → Option Command → L → L → Type 0
LeavesLibrary None before after = after ≡ before
LeavesLibrary (Some command) before after = IsFalse (reads_library command) → after ≡ before
