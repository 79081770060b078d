-- What asm comes to.
use Rattle.std.specs.Prelude.{◌≡◌, ℕ, List, Option, Some, None}
use Rattle.ld_base.specs.declared.fault.DlFault.TheVariants as dl
use Rattle.ld_base.specs.declared.linking.File.{File}
use Rattle.library_source.specs.Count.{Rises}
use Rattle.library_source.specs.Files.{file_at}
use Rattle.asm_layout.specs.AsmDenotes.Denotes.{Denotes, AsmBroken}
use Rattle.ldso_cli.specs.Outside.{LibraryAt}
use Rattle.ldso_cli.specs.Status.{refused_text, asm_refused_text}
use Rattle.ldso_cli.specs.declared.outcome.Cause.{Cause}
use Rattle.ldso_cli.specs.declared.outcome.Cause.TheVariants as causes

-- what a source comes to: the bytes of the object that it denotes, alone; or its refusal
abbrev pub SourceComes : List ℕ → Cause → List ℕ → Type 0
SourceComes source causes.Done text = Denotes source text
SourceComes source (causes.AsmRefused line cause) text = AsmBroken source line cause × (text ≡ asm_refused_text line cause)
SourceComes source (causes.Refused fault) text = ⊥
SourceComes source (causes.Ran run_end) text = ⊥
SourceComes source (causes.TraceRefused line cause) text = ⊥
SourceComes source causes.Usage text = ⊥
SourceComes source causes.WriteFault text = ⊥
SourceComes source causes.Memory text = ⊥

-- what reading a path gave: a source, or nothing
pub data SourceRead : Type 0 where
  source : List ℕ → SourceRead
  missing : SourceRead
  failed : SourceRead

-- what is read of a path at which this file is. No failure is invented: a failed read is one that the library counts, and so is a
-- missing file
abbrev pub ReadsSource : LibraryAt → LibraryAt → Option (List ℕ) → SourceRead → Type 0
ReadsSource before after file (source bytes) = file ≡ Some bytes
ReadsSource before after file missing = (file ≡ None) × Rises before.misses after.misses
ReadsSource before after file failed = Rises before.faults after.faults

-- the causes that follow from it
abbrev pub GivesCause : List ℕ → SourceRead → Cause → Type 0
GivesCause path (source bytes) cause = (text : List ℕ) × SourceComes bytes cause text
GivesCause path missing cause = cause ≡ causes.Refused (dl.MissingLibrary path)
GivesCause path failed cause = cause ≡ causes.Refused (dl.ReadFault path)

-- how asm comes to its end over files, while its library goes on from one state to another: by what reading its path gave
pub record AsmComes (path : List ℕ) (before after : LibraryAt) (files : List File) (cause : Cause) : Type 0 where
  pub read : SourceRead
  pub reads : ReadsSource before after (file_at files path) read
  pub gives : GivesCause path read cause

-- the text that the source in the file at a path comes to
pub record IsOfFile (path : List ℕ) (files : List File) (cause : Cause) (text : List ℕ) : Type 0 where
  pub source : List ℕ
  pub is : file_at files path ≡ Some source
  pub comes : SourceComes source cause text

-- what asm prints at an end: what the source comes to, or that there is none
abbrev pub AsmPrints : List ℕ → List File → Cause → List ℕ → Type 0
AsmPrints path files causes.Done text = IsOfFile path files causes.Done text
AsmPrints path files (causes.AsmRefused line cause) text = IsOfFile path files (causes.AsmRefused line cause) text
AsmPrints path files (causes.Refused fault) text = text ≡ refused_text fault
AsmPrints path files (causes.Ran run_end) text = ⊥
AsmPrints path files (causes.TraceRefused line cause) text = ⊥
AsmPrints path files causes.Usage text = ⊥
AsmPrints path files causes.WriteFault text = ⊥
AsmPrints path files causes.Memory text = ⊥
