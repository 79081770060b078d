-- Worked starts: where static blocks stand (ELF Handling for Thread-Local Storage, variant I), and what a COPY takes (psABI, "Relocations").
use Rattle.std.specs.Prelude.{ℕ, pos, List, [], ◌∷◌, Some, None, codes}
use Rattle.ld_base.specs.declared.fault.DlFault.TheVariants.{MissingSymbol}
use Rattle.ld_base.specs.declared.linking.Loaded.{Loaded}
use Rattle.ld_base.specs.declared.object.Segment.{Segment}
use Rattle.ld_base.specs.declared.object.Symbol.{Symbol}
use Rattle.ld_base.specs.declared.object.TlsSeg.{TlsSeg}
use Rattle.history_event.specs.declared.event.Event.{Event}
use Rattle.history_event.specs.declared.event.Event.TheVariants.{Open}
use Rattle.history_event.specs.declared.event.OpenAnswer.{OpenAnswer}
use Rattle.history_event.specs.declared.event.OpenAnswer.TheVariants.{Done, Refused}
use Rattle.history_event.specs.declared.event.OpenAsk.{OpenAsk}
use Rattle.history_event.specs.declared.event.Purpose.TheVariants as purposes
use Rattle.history_event.specs.declared.event.Range.{Range}
use Rattle.history_state.specs.Parts.{Held, code, defined, given, object, pages_at, placed, stack_at}
use Rattle.history_state.specs.Setting.{Setting}

-- the opening of a program
abbrev pub asks : List ℕ → OpenAsk
asks name = record { ns = Some 0; name = Some name; flags = 0x101 }

-- ---- static blocks: the program's has 20 bytes, its library's is a multiple of 16

abbrev pub storage_of : ℕ → ℕ → TlsSeg
storage_of memsz align = record { vaddr = 0x1000; filesz = 0; memsz = memsz; align = align }

abbrev pub prog : Held
prog = record { path = codes "prog"; object = record (object (codes "liba.so" ∷ []) (code ∷ []) [] []) { tls = Some (storage_of 20 8) } }

abbrev pub liba : Held
liba = record { path = codes "lib/liba.so"; object = record (object [] (code ∷ []) [] []) { tls = Some (storage_of 32 16) } }

abbrev pub setting : Setting
setting = given 1 (prog ∷ liba ∷ [])

abbrev pub with_module : Loaded → ℕ → ℕ → Loaded
with_module o number offset = record o { «module» = Some (record { number = number; offset = Some offset }) }

abbrev pub area : Range
area = record { address = 0x26000; pages = 1; purpose = purposes.StaticTls 0 }

-- the library's block at an offset behind tp
abbrev pub started_at : ℕ → OpenAnswer
started_at offset = Done 0 1 (with_module (placed 0 1 prog 0x10000 (2 ∷ [])) 1 0 ∷ with_module (placed 0 2 liba 0x13000 []) 2 offset ∷ [])
    (pages_at 1 0x10000 3 ∷ pages_at 2 0x13000 3 ∷ stack_at 0 0x16000 ∷ area ∷ [])

-- the least multiple of 16 behind 20 bytes
abbrev pub at_32 : List Event
at_32 = Open 0 (asks (codes "prog")) (started_at 32) ∷ []

abbrev pub at_20 : List Event
at_20 = Open 0 (asks (codes "prog")) (started_at 20) ∷ []

abbrev pub at_48 : List Event
at_48 = Open 0 (asks (codes "prog")) (started_at 48) ∷ []

-- ---- a COPY: the program has room for v, whose bytes are those of another object's v

abbrev pub variable : List ℕ → Segment
variable bytes = record { vaddr = 0; memsz = 0x2000; flags = 6; align = 4096; bytes = bytes }

abbrev pub v_at : ℕ → Symbol
v_at value = record (defined (codes "v") value) { size = 8 }

-- R_RISCV_COPY is 4
abbrev pub copier : List ℕ → List ℕ → Held
copier path library = record {
  path = path;
  object = record (object (library ∷ []) (variable [] ∷ []) (v_at 0x1000 ∷ []) []) {
    relocs = record { place = 0x1000; kind = 4; symbol = 1; addend = pos 0 } ∷ [];
  };
}

-- one library defines v, the other doesn't
abbrev pub libv : Held
libv = record { path = codes "lib/libv.so"; object = object [] (variable (0 ∷ 0 ∷ 0 ∷ 0 ∷ 0 ∷ 0 ∷ 0 ∷ 0 ∷ 42 ∷ []) ∷ []) (v_at 8 ∷ []) [] }

abbrev pub libw : Held
libw = record { path = codes "lib/libw.so"; object = object [] (variable [] ∷ []) [] [] }

abbrev pub copies : Held
copies = copier (codes "prog") (codes "libv.so")

abbrev pub copies_nothing : Held
copies_nothing = copier (codes "none") (codes "libw.so")

abbrev pub copying : Setting
copying = given 1 (copies ∷ copies_nothing ∷ libv ∷ libw ∷ [])

abbrev pub loaded_with : Held → Held → OpenAnswer
loaded_with program library = Done 0 1 (placed 0 1 program 0x10000 (2 ∷ []) ∷ placed 0 2 library 0x12000 [] ∷ [])
    (pages_at 1 0x10000 2 ∷ pages_at 2 0x12000 2 ∷ stack_at 0 0x14000 ∷ [])

abbrev pub v_is_copied : List Event
v_is_copied = Open 0 (asks (codes "prog")) (loaded_with copies libv) ∷ []

-- the program's own v is no definition for it
abbrev pub v_is_missing : List Event
v_is_missing = Open 0 (asks (codes "none")) (Refused (MissingSymbol (Some (codes "none")) (codes "v") None)) ∷ []

abbrev pub v_is_its_own : List Event
v_is_its_own = Open 0 (asks (codes "none")) (loaded_with copies_nothing libw) ∷ []
