-- Parts of worked histories: small objects, the files of a run, and what an opening says of them.
use Rattle.std.specs.Prelude.{ℕ, Bool, false, List, [], ◌∷◌, Some, None, Result, Ok, Err, codes, find, map, pos}
use Rattle.std.specs.Option.{option_map_or}
use Rattle.std.specs.Str.{bytes_eq}
use Rattle.ld_base.specs.declared.fault.NotAccepted.{NotAccepted}
use Rattle.ld_base.specs.declared.linking.File.{File}
use Rattle.ld_base.specs.declared.linking.Loaded.{Loaded}
use Rattle.ld_base.specs.declared.linking.State.TheVariants as states
use Rattle.ld_base.specs.declared.object.Kind.TheVariants as kinds
use Rattle.ld_base.specs.declared.object.Object.{Object}
use Rattle.ld_base.specs.declared.object.Reloc.{Reloc}
use Rattle.ld_base.specs.declared.object.Segment.{Segment}
use Rattle.ld_base.specs.declared.object.Symbol.{Symbol}
use Rattle.ld_base.specs.declared.parts.HashTable.{HashTable}
use Rattle.history_event.specs.declared.event.Purpose.TheVariants as purposes
use Rattle.history_event.specs.declared.event.Range.{Range}
use Rattle.history_state.specs.Setting.{Setting}

-- ---- objects

-- three pages of code, three of data, and a page of slots behind such code
abbrev pub code : Segment
code = record { vaddr = 0; memsz = 0x3000; flags = 5; align = 4096; bytes = [] }

abbrev pub data_pages : Segment
data_pages = record { vaddr = 0; memsz = 0x3000; flags = 6; align = 4096; bytes = [] }

abbrev pub slots : Segment
slots = record { vaddr = 0x3000; memsz = 0x20; flags = 6; align = 4096; bytes = [] }

-- two pages of variables
abbrev pub variables : Segment
variables = record { vaddr = 0; memsz = 0x2000; flags = 6; align = 4096; bytes = [] }

-- a slot, which is of a symbol
abbrev pub slot : ℕ → ℕ → Reloc
slot place symbol = record { place = place; kind = 5; symbol = symbol; addend = pos 0 }

-- what is defined at an address of the object's own, and what is only named
abbrev pub defined : List ℕ → ℕ → Symbol
defined name value = record { name = name; info = 0x10; other = 0; shndx = 1; value = value; size = 0; version = 0 }

-- a variable of thread-local storage, at its place in the block
abbrev pub stored : List ℕ → ℕ → Symbol
stored name value = record { name = name; info = 0x16; other = 0; shndx = 1; value = value; size = 0; version = 0 }

abbrev pub undefined : List ℕ → Symbol
undefined name = record { name = name; info = 0x10; other = 0; shndx = 0; value = 0; size = 0; version = 0 }

-- a position-independent object; its symbols count from 1
abbrev pub object : List (List ℕ) → List Segment → List Symbol → List Reloc → Object
object needed segments symbols relocs = record {
  kind = kinds.Dyn;
  entry = 0;
  soname = None;
  needed = needed;
  segments = segments;
  symbols = undefined [] ∷ symbols;
  first_exported = 1;
  has_versym = false;
  verdefs = [];
  verneeds = [];
  relocs = [];
  plt_relocs = relocs;
  pltgot = None;
  preinit = None;
  init = None;
  init_array = None;
  fini = None;
  fini_array = None;
  tls = None;
  relro = None;
  flags = record { symbolic = false; bind_now = false; nodelete = false };
  relr = [];
  dynamic = 0;
}

abbrev pub table : HashTable
table = record { gnu = None; sysv = None }

-- ---- files

-- a file and the object that it holds
pub record Held : Type 0 where
  pub path : List ℕ
  pub object : Object

-- the bytes of each file are its path: by them the machine knows the object
abbrev pub file_of : Held → File
file_of held = record { path = held.path; bytes = held.path }

abbrev pub verdict_of : List Held → List ℕ → Bool → Result (Object × HashTable) NotAccepted
verdict_of files bytes is_program =
    option_map_or (λ held. Ok (held.object, table)) (find (λ held. bytes_eq held.path bytes) files) (Err (record { rule = 1; number = 0 }))

-- so many harts over these files, in the folder lib
abbrev pub given : ℕ → List Held → Setting
given harts files = record {
  machine = record { harts = harts; verdict = verdict_of files };
  folders = codes "lib" ∷ [];
  preload = [];
  files = Some (map file_of files);
}

-- ---- what an opening loads

-- a new object at a base, and its pages there
abbrev pub placed : ℕ → ℕ → Held → ℕ → List ℕ → Loaded
placed hart serial held base found = record {
  serial = serial;
  path = held.path;
  object = held.object;
  table = table;
  base = base;
  state = states.Initialising hart;
  «module» = None;
  deep = false;
  found = found;
}

abbrev pub pages_at : ℕ → ℕ → ℕ → Range
pages_at serial address pages = record { address = address; pages = pages; purpose = purposes.Object serial }

abbrev pub stack_at : ℕ → ℕ → Range
stack_at hart address = record { address = address; pages = 16; purpose = purposes.Stack hart }
