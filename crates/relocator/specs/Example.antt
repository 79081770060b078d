-- An object, and the words and roles that it has once it is relocated, worked out by hand. Its code lies at 0x1000, a page of no segment at
-- 0x2000, its data at 0x3000. The file gives the first 60 bytes of the data, so that it ends within the doubleword at 0x3038. GNU_RELRO ends
-- within the doubleword at 0x3028.
use Rattle.std.specs.Prelude.{ℕ, true, false, List, [], ◌∷◌, ◌++◌, Some, None, pos, negsuc}
use Rattle.ld_base.specs.declared.linking.Choice.TheVariants.{Def, WeakZero}
use Rattle.ld_base.specs.declared.linking.Role.{Role}
use Rattle.ld_base.specs.declared.linking.Role.TheVariants.{None as NoRole, Ro, Rx, Rw, Slot}
use Rattle.ld_base.specs.declared.object.Kind.TheVariants.{Dyn}
use Rattle.ld_base.specs.declared.object.Object.{Object}
use Rattle.ld_base.specs.declared.object.Reloc.{Reloc}
use Rattle.ld_base.specs.declared.object.Segment.{Segment}
use Rattle.ld_base.specs.declared.object.Symbol.{Symbol}
use Rattle.relocator.specs.declared.binding.Binding.{Binding}
use Rattle.relocator.specs.declared.binding.ModulePlace.{ModulePlace}

-- the little-endian word of a number below 2^16
abbrev short : ℕ → ℕ → List ℕ
short low high = low ∷ high ∷ 0 ∷ 0 ∷ 0 ∷ 0 ∷ 0 ∷ 0 ∷ []

abbrev pub code : Segment
code = record { vaddr = 0x1000; memsz = 24; flags = 5; align = 0x1000; bytes = short 0x13 0 ++ short 0x67 0x80 ++ short 0x73 0 }

-- .got.plt with two slots, whose file words lead to 0x1010; then the words that are relocated; then four bytes more
abbrev pub bytes_of_data : List ℕ
bytes_of_data = short 0 0 ++ short 0 0 ++ short 0x10 0x10 ++ short 0x10 0x10 ++ short 1 0 ++ short 2 0 ++ short 0xef 0xbe ++ (0x11 ∷ 0x22 ∷ 0x33 ∷ 0x44 ∷ [])

abbrev pub data_segment : Segment
data_segment = record { vaddr = 0x3000; memsz = 0x90; flags = 6; align = 0x1000; bytes = bytes_of_data }

abbrev pub symbol : ℕ → Symbol
symbol size = record { name = []; info = 17; other = 0; shndx = 0; value = 0; size = size; version = 0 }

abbrev reloc : ℕ → ℕ → ℕ → Reloc
reloc kind place symbol = record { place = place; kind = kind; symbol = symbol; addend = pos 0 }

-- one relocation a type
abbrev pub example : Object
example = record {
  kind = Dyn;
  entry = 0;
  soname = None;
  needed = [];
  segments = code ∷ data_segment ∷ [];
  symbols = symbol 0 ∷ symbol 8 ∷ symbol 5 ∷ [];
  first_exported = 1;
  has_versym = false;
  verdefs = [];
  verneeds = [];
  relocs =
      record { place = 0x3020; kind = 2; symbol = 1; addend = negsuc 7 }
      ∷ record { place = 0x3028; kind = 3; symbol = 0; addend = pos 0x1008 }
      ∷ reloc 7 0x3048 1
      ∷ reloc 9 0x3050 1
      ∷ record { place = 0x3058; kind = 11; symbol = 0; addend = pos 4 }
      ∷ reloc 4 0x3061 2
      ∷ reloc 0 0x3030 0
      ∷ reloc 7 0x3070 1
      ∷ reloc 11 0x3078 1
      ∷ record { place = 0x3080; kind = 2; symbol = 1; addend = pos 1 }
      ∷ [];
  plt_relocs = reloc 5 0x3010 1 ∷ reloc 5 0x3018 1 ∷ [];
  pltgot = Some 0x3000;
  preinit = None;
  init = None;
  init_array = None;
  fini = None;
  fini_array = None;
  tls = None;
  relro = Some (record { start = 0x3000; size = 0x2c });
  flags = record { symbolic = false; bind_now = false; nodelete = false };
  relr = 0x3040 ∷ 0x3088 ∷ [];
  dynamic = 0;
}

-- where it lies, and its serial
abbrev pub example_base : ℕ
example_base = 0x30000

abbrev pub example_serial : ℕ
example_serial = 7

-- it has a module in each static block; object 9 has one that isn't in them
abbrev pub example_places : List ModulePlace
example_places = record { serial = 7; number = 1; offset = Some 0x10 } ∷ record { serial = 9; number = 2; offset = None } ∷ []

-- a definition of object 9, and none
abbrev pub defined : ℕ → ℕ → List ℕ → Binding
defined value size copied = record { bound = true; choice = Def 9 4; value = value; size = size; object = Some 9; copied = copied }

abbrev pub undefined : Binding
undefined = record { bound = true; choice = WeakZero; value = 0; size = 0; object = None; copied = [] }

abbrev pub lazily : Binding
lazily = record { bound = false; choice = WeakZero; value = 0x99; size = 0; object = None; copied = [] }

abbrev pub own : Binding
own = record { bound = true; choice = Def 7 0; value = 0x99; size = 0; object = Some 7; copied = [] }

abbrev pub example_bindings : List Binding
example_bindings =
    defined 0x40000 8 [] ∷ undefined ∷ defined 0x10 8 [] ∷ defined 0x10 8 [] ∷ own ∷ defined 0x40020 3 (0xaa ∷ 0xbb ∷ 0xcc ∷ []) ∷ undefined ∷ undefined ∷
    undefined
    ∷ defined 0xffffffffffffffff 8 []
    ∷ lazily ∷ defined 0x45678 8 [] ∷ []

-- a place and its word
abbrev pub example_words : List (ℕ × ℕ)
example_words =
    (0x1000, 0x13) ∷ (0x1008, 0x8067) ∷ (0x1018, 0)  -- code of the file, and zeros behind it
    ∷ (0x2000, 0) ∷ (0x2ff8, 0)  -- no segment's page
    ∷ (0x3000, 0x80f000) ∷ (0x3008, 7)  -- the linker's two words: its entry, the serial
    ∷ (0x3010, 0x31010)  -- JUMP_SLOT, lazy: the file's word + the base
    ∷ (0x3018, 0x45678)  -- JUMP_SLOT, bound: the symbol's address
    ∷ (0x3020, 0x3fff8)  -- 64: the symbol's address - 8
    ∷ (0x3028, 0x31008)  -- RELATIVE: the base + 0x1008
    ∷ (0x3030, 0xbeef)  -- NONE: the file's word
    ∷ (0x3038, 0x44332211)  -- the file ends within it
    ∷ (0x3040, 0x30000) ∷ (0x3088, 0x30000)  -- RELR where the file gives nothing: the base
    ∷ (0x3048, 2)  -- TLS_DTPMOD64: the module of object 9
    ∷ (0x3050, 0xfffffffffffff810)  -- TLS_DTPREL64: 0x10 - 0x800
    ∷ (0x3058, 0x14)  -- TLS_TPREL64 of the null symbol: 4 + the object's own offset
    ∷ (0x3060, 0xccbbaa00)  -- COPY of three bytes of five, from its second byte on
    ∷ (0x3068, 0)
    ∷ (0x3070, 0)  -- TLS_DTPMOD64, weak, without a definition: no module
    ∷ (0x3078, 0)  -- TLS_TPREL64, weak, without a definition: offset 0
    ∷ (0x3080, 0)  -- 64: 2^64 - 1 + 1 wraps
    ∷ (0x3090, 0) ∷ (0x3ff8, 0)  -- behind the segment's memory
    ∷ []

-- a place and its role
abbrev pub example_roles : List (ℕ × Role)
example_roles =
    (0x1000, Rx) ∷ (0x1ff8, Rx)  -- each doubleword of the code's page
    ∷ (0x2000, NoRole) ∷ (0x2ff8, NoRole)  -- no segment's page
    ∷ (0x3000, Ro) ∷ (0x3008, Ro)  -- the linker's two words
    ∷ (0x3010, Slot) ∷ (0x3018, Slot)  -- slots, in RELRO too
    ∷ (0x3020, Ro)  -- wholly inside RELRO
    ∷ (0x3028, Rw)  -- RELRO ends within it
    ∷ (0x3040, Rw) ∷ (0x3ff8, Rw)
    ∷ (0x4000, NoRole)  -- behind the last page
    ∷ []
