-- Completeness: where all that a command asks for is there and nothing fails, it does what it was asked, or memory was wanted.
use Rattle.std.specs.Prelude.{◌≡◌, ◌⊎◌, ℕ, List, [], Option, Some, None, Ok}
use Rattle.asm_layout.specs.AsmDenotes.Denotes.{Denotes}
use Rattle.cli_text.specs.Refusal.{first_refusal}
use Rattle.cli_words.specs.declared.command.Bind.{Bind}
use Rattle.cli_words.specs.declared.command.Command.{Command}
use Rattle.cli_words.specs.declared.command.Command.TheVariants as commands
use Rattle.ld_base.specs.declared.linking.File.{File}
use Rattle.ld_base.specs.declared.linking.Loaded.{Loaded}
use Rattle.ld_base.specs.declared.object.Object.{Object}
use Rattle.ld_base.specs.declared.parts.HashTable.{HashTable}
use Rattle.lib_gen.specs.Set.{AreSetOf}
use Rattle.library_source.specs.Count.{Rises}
use Rattle.library_source.specs.Files.{file_at}
use Rattle.link_open_plan.specs.Startup.{run_of}
use Rattle.link_startup.specs.Startup.{CanStart}
use Rattle.scope_rule.specs.Finding.{here}
use Rattle.scope_rule.specs.Needed.{version_fault}
use Rattle.trace_text.specs.RunTexts.Ends.{IsRunEnd}
use Rattle.trace_text.specs.declared.run_texts.record.RunRecord.{RunRecord}
use Rattle.trace_text.specs.declared.run_texts.run_end.RunEnd.{RunEnd}
use Rattle.ldso_cli.specs.Bind.{BindLoads, namespace_of}
use Rattle.ldso_cli.specs.Check.{IsLegalTrace}
use Rattle.ldso_cli.specs.Command.{ReadsWell}
use Rattle.ldso_cli.specs.Dump.{program_read}
use Rattle.ldso_cli.specs.Generate.{set_cause, set_setup}
use Rattle.ldso_cli.specs.Outside.{LibraryAt, SinkAt}
use Rattle.ldso_cli.specs.declared.outcome.Cause.{Cause}
use Rattle.ldso_cli.specs.declared.outcome.Cause.TheVariants as causes
use Rattle.ldso_cli.specs.declared.outcome.End.{End}

-- the program and all that it needs are there and accepted, with the versions that they need, and each reference that bind looks up is defined
pub record CanBeBound (bind : Bind) (files : List File) : Type 0 where
  pub objects : List Loaded
  pub loads : BindLoads bind files objects
  pub versions : version_fault [] objects ≡ None
  pub references : first_refusal (namespace_of objects) bind.now objects ≡ None

-- the file at the path is accepted as a program
pub record CanBeDumped (path : List ℕ) (files : List File) : Type 0 where
  pub object : Object
  pub table : HashTable
  pub is : program_read (file_at files path) ≡ here object table

-- the source at the path denotes an object
pub record CanBeAssembled (path : List ℕ) (files : List File) : Type 0 where
  pub source : List ℕ
  pub is : file_at files path ≡ Some source
  pub bytes : List ℕ
  pub denotes : Denotes source bytes

-- the files have all that a command asks for
abbrev pub FilesSuffice : Command → List File → Type 0
FilesSuffice (commands.Bind bind) files = CanBeBound bind files
FilesSuffice (commands.Dump path) files = CanBeDumped path files
FilesSuffice (commands.Assemble path) files = CanBeAssembled path files
FilesSuffice (commands.Turns turns) files = CanStart (run_of turns.setup (Some files)) turns.setup
FilesSuffice (commands.Run run) files = CanStart (run_of run.setup (Some files)) run.setup
FilesSuffice (commands.Check check) files = IsLegalTrace check files
FilesSuffice (commands.Generate number) files = CanStart (run_of set_setup (Some files)) set_setup

-- the files that a command reads: those that its library tells, and of gen those that it makes
abbrev pub AreFilesOf : Command → LibraryAt → List File → Type 0
AreFilesOf (commands.Generate number) before files = AreSetOf number files
AreFilesOf other before files = before.files ≡ Some files

-- the run came to its end, which is that of its harts' ends, and the cause follows from it
pub record RanToItsEnd (cause_of : RunEnd → Cause) (end : End) : Type 0 where
  pub run_end : RunEnd
  pub left : RunRecord
  pub kept : end.kept ≡ Some left
  pub decides : IsRunEnd left.ends run_end
  pub cause : end.cause ≡ cause_of run_end

-- the command did what it was asked
abbrev pub IsDone : Command → End → Type 0
IsDone (commands.Bind bind) end = end.cause ≡ causes.Done
IsDone (commands.Dump path) end = end.cause ≡ causes.Done
IsDone (commands.Assemble path) end = end.cause ≡ causes.Done
IsDone (commands.Turns turns) end = RanToItsEnd causes.Ran end
IsDone (commands.Run run) end = RanToItsEnd causes.Ran end
IsDone (commands.Check check) end = end.cause ≡ causes.Done
IsDone (commands.Generate number) end = RanToItsEnd (λ run_end. set_cause (Ok run_end)) end

-- over files that have it all, where neither the library nor the sink fails
abbrev pub Completes : Option Command → LibraryAt → LibraryAt → SinkAt → SinkAt → End → Type 0
Completes None before after old new end = Unit {0}
Completes (Some command) before after old new end = (files : List File) → AreFilesOf command before files → ReadsWell command before after
    → ¬ (Rises old.faults new.faults) → FilesSuffice command files → IsDone command end ⊎ (end.cause ≡ causes.Memory)
