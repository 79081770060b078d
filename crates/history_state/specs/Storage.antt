-- Thread-local storage of a state: modules, static areas and blocks (Drepper, ELF Handling For Thread-Local Storage).
use Rattle.std.specs.Prelude.{◌≡◌, ℕ, ◌+◌, ◌/◌, ◌%◌, Bool, true, false, ◌&&◌, ◌==◌, max, List, [], ◌∷◌, find, Option, Some, None, IsSomeAnd}
use Rattle.std.specs.Option.{option_map, option_map_or}
use Rattle.ld_base.specs.declared.linking.Loaded.{Loaded}
use Rattle.ld_base.specs.declared.linking.TlsPlace.{TlsPlace}
use Rattle.ld_base.specs.declared.object.TlsSeg.{TlsSeg}
use Rattle.history_event.specs.declared.event.Purpose.{Purpose}
use Rattle.history_event.specs.declared.event.Purpose.TheVariants as purposes
use Rattle.history_event.specs.declared.state.Module.{Module}
use Rattle.tls_blocks.specs.Numbers.{IsLeastFree, with_module}
use Rattle.tls_blocks.specs.Places.{IsOffset, alignment_of, end_with, tp_with}
use Rattle.history_state.specs.State.{State, Statics}

-- ---- new modules

abbrev pub module_of_place : ℕ → TlsPlace → Module
module_of_place serial place = record { number = place.number; serial = serial; offset = place.offset }

abbrev pub with_place : Loaded → List Module → List Module
with_place o modules = option_map_or (λ place. with_module (module_of_place o.serial place) modules) o.«module» modules

-- the modules with those of new objects
abbrev pub with_modules : List Loaded → List Module → List Module
with_modules [] modules = modules
with_modules (o ∷ rest) modules = with_modules rest (with_place o modules)

-- the static blocks with one more, of an object's segment at an offset
abbrev pub statics_more : Statics → ℕ → TlsSeg → TlsPlace → Statics
statics_more st serial seg place = record { size = end_with place.offset seg st.size; tp = tp_with serial seg st.tp }

abbrev pub statics_with_one : Statics → ℕ → Option TlsSeg → Option TlsPlace → Statics
statics_with_one st serial None place = st
statics_with_one st serial (Some seg) None = st
statics_with_one st serial (Some seg) (Some place) = statics_more st serial seg place

-- with those of the objects that startup loads
abbrev pub statics_with : List Loaded → Statics → Statics
statics_with [] st = st
statics_with (o ∷ rest) st = statics_with rest (statics_with_one st o.serial o.object.tls o.«module»)

-- the offset of a new block behind tp: startup's are static, and each further one is the least at or after the end of the one before;
-- a late one has none
abbrev pub IsStaticOffset : Bool → Statics → ℕ → TlsSeg → Option ℕ → Type 0
IsStaticOffset true st serial seg offset = IsSomeAnd offset (IsOffset (tp_with serial seg st.tp) st.size seg)
IsStaticOffset false st serial seg offset = offset ≡ None

-- the place of a new module: the least number that is free, and its offset. An object without a segment has none.
abbrev pub IsPlaceOf : Bool → List Module → Statics → ℕ → Option TlsSeg → Option TlsPlace → Type 0
IsPlaceOf startup modules st serial None None = Unit {0}
IsPlaceOf startup modules st serial None (Some place) = ⊥
IsPlaceOf startup modules st serial (Some seg) None = ⊥
IsPlaceOf startup modules st serial (Some seg) (Some place) = IsLeastFree modules place.number × IsStaticOffset startup st serial seg place.offset

-- the new objects have their modules, one after another in load order
abbrev pub HaveModules : Bool → List Module → Statics → List Loaded → Type 0
HaveModules startup modules st [] = Unit {0}
HaveModules startup modules st (o ∷ rest) =
    IsPlaceOf startup modules st o.serial o.object.tls o.«module»
    × HaveModules startup (with_place o modules) (statics_with_one st o.serial o.object.tls o.«module») rest

-- ---- pages

-- the pages that so many bytes take, one at least
abbrev pub pages_for : ℕ → ℕ
pages_for bytes = max 1 ((bytes + 4095) / 4096)

-- the alignment of pages
abbrev pub page_aligned : ℕ → ℕ
page_aligned align = max 4096 align

-- a late block begins behind the start of its pages, at its segment's residue
abbrev pub residue : TlsSeg → ℕ
residue seg = seg.vaddr % alignment_of seg

abbrev pub block_pages : TlsSeg → ℕ
block_pages seg = pages_for (residue seg + seg.memsz)

abbrev pub block_align : TlsSeg → ℕ
block_align seg = page_aligned seg.align

-- ---- the blocks of a state

abbrev pub module_of : State → ℕ → Option Module
module_of s serial = find (λ m. m.serial == serial) s.modules

abbrev pub is_static_area : ℕ → Purpose → Bool
is_static_area hart (purposes.Object serial) = false
is_static_area hart (purposes.Stack h) = false
is_static_area hart (purposes.StaticTls h) = h == hart
is_static_area hart (purposes.Block h serial) = false

-- a hart's tp: 0 where it has no static area
unfoldable pub tp_of : State → ℕ → ℕ
tp_of s hart = option_map_or (λ r. r.address + s.statics.tp) (find (λ r. is_static_area hart r.purpose) s.ranges) 0

-- the address of the hart's block of a late module
abbrev pub late_block : State → ℕ → ℕ → Option ℕ
late_block s hart serial = option_map (λ b. b.address) (find (λ b. b.hart == hart && b.serial == serial) s.blocks)

-- TlsBlock: a hart's block of an object's module, none where the object has no module or isn't mapped, or the block isn't there yet
unfoldable pub tls_block : State → ℕ → ℕ → Option ℕ
tls_block s hart serial =
    elim (module_of s serial) [
      | Some m ↦ option_map_or (λ offset. Some (tp_of s hart + offset)) m.offset (late_block s hart serial)
      | None ↦ None
    ]
