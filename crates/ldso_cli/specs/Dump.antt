-- What dump comes to.
use Rattle.std.specs.Prelude.{◌≡◌, ℕ, true, List, Option, Some, None}
use Rattle.ld_base.specs.declared.fault.DlFault.TheVariants as dl
use Rattle.ld_base.specs.declared.linking.File.{File}
use Rattle.ld_base.specs.declared.object.Object.{Object}
use Rattle.ld_base.specs.declared.parts.HashTable.{HashTable}
use Rattle.library_source.specs.Count.{Rises}
use Rattle.library_source.specs.Files.{file_at}
use Rattle.elf_object.specs.Verdict.{object_verdict}
use Rattle.load_walk.specs.Files.{as_read}
use Rattle.scope_rule.specs.Finding.{Reading, here, unaccepted, absent, failed}
use Rattle.cli_text.specs.DumpLines.{dump_text}
use Rattle.ldso_cli.specs.Outside.{LibraryAt}
use Rattle.ldso_cli.specs.Status.{refused_text}
use Rattle.ldso_cli.specs.declared.outcome.Cause.{Cause}
use Rattle.ldso_cli.specs.declared.outcome.Cause.TheVariants as causes

-- what a file is, read as a program
abbrev pub program_read : Option (List ℕ) → Reading
program_read None = absent
program_read (Some bytes) = as_read (object_verdict bytes true)

-- the cause and the text that follow from what reading a path gave
abbrev pub dump_cause : List ℕ → Reading → Cause
dump_cause path (here o table) = causes.Done
dump_cause path (unaccepted broken) = causes.Refused (dl.NotAccepted path broken)
dump_cause path absent = causes.Refused (dl.MissingLibrary path)
dump_cause path failed = causes.Refused (dl.ReadFault path)

abbrev pub reading_text : List ℕ → Reading → List ℕ
reading_text path (here o table) = dump_text o
reading_text path (unaccepted broken) = refused_text (dl.NotAccepted path broken)
reading_text path absent = refused_text (dl.MissingLibrary path)
reading_text path failed = refused_text (dl.ReadFault path)

-- what is read of a path at which this file is: what the file is. No failure is invented: a failed read is one that the library
-- counts, and so is a missing file
abbrev pub ReadsAs : LibraryAt → LibraryAt → Option (List ℕ) → Reading → Type 0
ReadsAs before after file failed = Rises before.faults after.faults
ReadsAs before after file absent = (program_read file ≡ absent) × Rises before.misses after.misses
ReadsAs before after file reading = program_read file ≡ reading

-- how dump comes to its end over files, while its library goes on from one state to another: by what reading its path gave
pub record DumpComes (path : List ℕ) (before after : LibraryAt) (files : List File) (cause : Cause) : Type 0 where
  pub reading : Reading
  pub gives : ReadsAs before after (file_at files path) reading
  pub cause_is : cause ≡ dump_cause path reading

-- the text of the object that the file at a path is
pub record IsDumped (path : List ℕ) (files : List File) (text : List ℕ) : Type 0 where
  pub object : Object
  pub table : HashTable
  pub is : program_read (file_at files path) ≡ here object table
  pub text_is : text ≡ dump_text object

-- what dump prints at an end: the object, or its refusal alone
abbrev pub DumpPrints : List ℕ → List File → Cause → List ℕ → Type 0
DumpPrints path files causes.Done text = IsDumped path files text
DumpPrints path files (causes.Refused fault) text = text ≡ refused_text fault
DumpPrints path files _ text = ⊥
