-- A worked history: a program without libraries starts, exits with 0, and is finalised.
use Rattle.std.specs.Prelude.{ℕ, false, List, [], ◌∷◌, Some, None, Ok, codes}
use Rattle.ld_base.specs.declared.linking.Loaded.{Loaded}
use Rattle.ld_base.specs.declared.linking.State.TheVariants as states
use Rattle.ld_base.specs.declared.object.Kind.TheVariants as kinds
use Rattle.ld_base.specs.declared.object.Object.{Object}
use Rattle.ld_base.specs.declared.object.Segment.{Segment}
use Rattle.ld_base.specs.declared.parts.HashTable.{HashTable}
use Rattle.history_event.specs.declared.event.Event.{Event}
use Rattle.history_event.specs.declared.event.Event.TheVariants as events
use Rattle.history_event.specs.declared.event.OpenAnswer.TheVariants as opens
use Rattle.history_event.specs.declared.event.Purpose.TheVariants as purposes
use Rattle.history_event.specs.declared.event.Range.{Range}
use Rattle.history_event.specs.declared.hart_end.HartEnd.TheVariants as ends
use Rattle.history_state.specs.Setting.{Machine, Setting}

-- a program at addresses of its own: one page of code from 0x10000 on
abbrev pub code : Segment
code = record { vaddr = 0x10000; memsz = 8; flags = 5; align = 4096; bytes = [] }

abbrev pub program : Object
program = record {
  kind = kinds.Exec;
  entry = 0x10000;
  soname = None;
  needed = [];
  segments = code ∷ [];
  symbols = [];
  first_exported = 1;
  has_versym = false;
  verdefs = [];
  verneeds = [];
  relocs = [];
  plt_relocs = [];
  pltgot = None;
  preinit = None;
  init = None;
  init_array = None;
  fini = None;
  fini_array = None;
  tls = None;
  relro = None;
  flags = record { symbolic = false; bind_now = false; nodelete = false };
  relr = [];
  dynamic = 0;
}

abbrev pub table : HashTable
table = record { gnu = None; sysv = None }

-- every file is this program
abbrev pub machine : Machine
machine = record { harts = 1; verdict = λ bytes is_program. Ok (program, table) }

abbrev pub setting : Setting
setting = record { machine = machine; folders = []; preload = []; files = None }

abbrev pub name : List ℕ
name = codes "prog"

abbrev pub loaded_program : Loaded
loaded_program = record {
  serial = 1;
  path = name;
  object = program;
  table = table;
  base = 0;
  state = states.Initialising 0;
  «module» = None;
  deep = false;
  found = [];
}

-- its page, and the 16 pages of the stack behind it
abbrev pub pages : List Range
pages = record { address = 0x10000; pages = 1; purpose = purposes.Object 1 } ∷ record { address = 0x11000; pages = 16; purpose = purposes.Stack 0 } ∷ []

abbrev pub startup : Event
startup = events.Open 0 (record { ns = Some 0; name = Some name; flags = 0x101 }) (opens.Done 0 1 (loaded_program ∷ []) pages)

abbrev pub exits : List Event
exits = startup ∷ events.Init 0 1 ∷ events.Ended 0 (ends.Exit 0) ∷ events.Fini 0 1 ∷ []

-- the same, but that another hart runs the program's constructors
abbrev pub initialised_by_another : List Event
initialised_by_another = startup ∷ events.Init 1 1 ∷ events.Ended 0 (ends.Exit 0) ∷ events.Fini 0 1 ∷ []

-- the same, but that the program is unmapped, which wasn't closed
abbrev pub unmapped_unclosed : List Event
unmapped_unclosed = startup ∷ events.Init 0 1 ∷ events.Ended 0 (ends.Exit 0) ∷ events.Unmapped 0 (1 ∷ []) ∷ []
