-- What reading a path gives, where the files are known.
use Rattle.std.specs.Prelude.{◌≡◌, ℕ, Bool, ◌&&◌, if◌then◌else◌, List, Option, Some, None, Result, Ok, Err}
use Rattle.std.specs.Str.{bytes_eq}
use Rattle.ld_base.specs.declared.fault.DlFault.{DlFault}
use Rattle.ld_base.specs.declared.fault.DlFault.TheVariants as dl
use Rattle.ld_base.specs.declared.fault.NotAccepted.{NotAccepted}
use Rattle.ld_base.specs.declared.fault.ReadFault.{ReadFault}
use Rattle.ld_base.specs.declared.fault.ReadFault.TheVariants as readers
use Rattle.ld_base.specs.declared.linking.File.{File}
use Rattle.ld_base.specs.declared.linking.Loaded.{Loaded}
use Rattle.ld_base.specs.declared.object.Object.{Object}
use Rattle.ld_base.specs.declared.parts.HashTable.{HashTable}
use Rattle.library_source.specs.Files.{file_at}
use Rattle.scope_rule.specs.Finding.{Reading, here, unaccepted, absent, failed}
use Rattle.scope_rule.specs.Load.{Load}
use Rattle.load_walk.specs.declared.ask.LoadAsk.{LoadAsk}

-- what bytes are, as the program's or as another object's: an object with its hash tables, or why they aren't one
abbrev pub Verdict : Type 0
Verdict = List ℕ → Bool → Result (Object × HashTable) NotAccepted

-- what a reader answers, beside the verdict; want of memory says nothing of it
abbrev pub Gives : Result (Object × HashTable) ReadFault → Result (Object × HashTable) NotAccepted → Type 0
Gives (Ok read) verdict = verdict ≡ Ok read
Gives (Err (readers.NotAccepted broken)) verdict = verdict ≡ Err broken
Gives (Err readers.Memory) verdict = Unit {0}

-- whether a path is read as the program
abbrev pub is_program : LoadAsk → List ℕ → Bool
is_program ask path = ask.program && bytes_eq ask.name path

abbrev pub as_read : Result (Object × HashTable) NotAccepted → Reading
as_read (Ok read) = here read.0 read.1
as_read (Err broken) = unaccepted broken

-- what the file at a path is
abbrev pub file_as_read : Verdict → LoadAsk → List ℕ → Option (List ℕ) → Reading
file_as_read verdict ask path None = absent
file_as_read verdict ask path (Some bytes) = as_read (verdict bytes (is_program ask path))

-- what reading each path gives, over these files
unfoldable pub reading_of : Verdict → List File → LoadAsk → List ℕ → Reading
reading_of verdict files ask path = file_as_read verdict ask path (file_at files path)

-- the same reading, but for a path whose read fails
abbrev pub failing : List ℕ → (List ℕ → Reading) → List ℕ → Reading
failing path reading other = if bytes_eq other path then failed else reading other

-- what a load over these files reads, up to the read that fails, if the fault speaks of one
abbrev pub reading_until : Verdict → List File → LoadAsk → DlFault → List ℕ → Reading
reading_until verdict files ask (dl.ReadFault path) = failing path (reading_of verdict files ask)
reading_until verdict files ask _ = reading_of verdict files ask

-- the load that is asked for among objects, where reading paths gives this
abbrev pub load_of : LoadAsk → List Loaded → (List ℕ → Reading) → Load
load_of ask there reading = record {
  name = ask.name;
  folders = ask.folders;
  preload = ask.preload;
  program = ask.program;
  hart = ask.hart;
  next = ask.next;
  there = there;
  reading = reading;
}

-- over these files
abbrev pub load_over : Verdict → LoadAsk → List Loaded → List File → Load
load_over verdict ask there files = load_of ask there (reading_of verdict files ask)

-- over these files, up to the read that failed, where the fault speaks of one
abbrev pub load_until : Verdict → DlFault → LoadAsk → List Loaded → List File → Load
load_until verdict fault ask there files = load_of ask there (reading_until verdict files ask fault)

-- where nothing is read
abbrev pub load_unread : LoadAsk → List Loaded → Load
load_unread ask there = load_of ask there (λ path. absent)
