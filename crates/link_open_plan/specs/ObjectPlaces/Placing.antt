-- Where new objects stand, beside the modules that are there and in the pages that are free.
use Rattle.std.specs.Prelude.{◌≡◌, ℕ, ◌≤◌, ◌^◌, List, Option, Some, None}
use Rattle.std.specs.Option.{is_some, option_map_or}
use Rattle.ld_base.specs.declared.linking.Loaded.{Loaded}
use Rattle.ld_base.specs.declared.linking.TlsPlace.{TlsPlace}
use Rattle.ld_base.specs.declared.object.TlsSeg.{TlsSeg}
use Rattle.history_event.specs.declared.event.Purpose.TheVariants as purposes
use Rattle.history_event.specs.declared.state.Module.{Module}
use Rattle.history_state.specs.Areas.{Area, AreBased, AreGiven, LacksRoom, anywhere, areas}
use Rattle.history_state.specs.State.{Statics}
use Rattle.history_state.specs.Storage.{HaveModules, module_of_place, statics_with, with_modules}
use Rattle.tls_blocks.specs.Numbers.{ModuleTable, with_module}
use Rattle.link_open_plan.specs.declared.object_places.placing.PlaceFault.{PlaceFault}
use Rattle.link_open_plan.specs.declared.object_places.placing.PlaceFault.TheVariants.{Full, Memory}
use Rattle.link_open_plan.specs.declared.object_places.placing.Places.{Places}

-- ---- modules

abbrev pub statics_of : ModuleTable → Statics
statics_of t = record { size = t.size; tp = t.tp }

-- the segment of thread-local storage takes at most 1 MiB, at an alignment of at most 1 MiB
abbrev pub HasFewBytes : Loaded → Type 0
HasFewBytes o = (seg : TlsSeg) → o.object.tls ≡ Some seg → (seg.align ≤ 2 ^ 20) × (seg.memsz ≤ 2 ^ 20)

-- the modules with that of an object, where it has one
abbrev pub with_module_at : ℕ → Option TlsPlace → List Module → List Module
with_module_at serial place modules = option_map_or (λ p. with_module (module_of_place serial p) modules) place modules

-- ---- pages

abbrev pub count_of : Option ℕ → ℕ
count_of None = 0
count_of (Some harts) = harts

-- what is wanted for new objects: at startup, for so many harts, more than their own pages
abbrev pub areas_by : Option ℕ → Statics → List Loaded → List Area
areas_by harts st added = areas (is_some harts) st (count_of harts) added

-- the static area of a hart
abbrev pub area_of_hart : ℕ → ℕ → ℕ → Area
area_of_hart pages align hart = record { pages = pages; place = anywhere align; purpose = purposes.StaticTls hart }

-- the alignment that an object's storage asks for
abbrev pub align_asked : Loaded → ℕ
align_asked o = option_map_or (λ seg. seg.align) o.object.tls 0

-- an object but for its base
abbrev pub unbased : Loaded → Loaded
unbased o = record o { base = 0 }

-- so many pages of what is wanted have no room
abbrev pub IsLacking : List ℕ → List Area → PlaceFault → Type 0
IsLacking free wanted (Full pages) = LacksRoom free wanted pages
IsLacking free wanted Memory = Unit {0}

-- ---- both

-- the objects have their modules, and their pages are reserved, with all that is wanted beside them
pub record HavePlaces (free : List ℕ) (table : ModuleTable) (harts : Option ℕ) (added : List Loaded) (p : Places) : Type 0 where
  pub storage : HaveModules (is_some harts) table.modules (statics_of table) added
  pub modules : p.modules.modules ≡ with_modules added table.modules
  pub left : List ℕ
  pub given : AreGiven free (areas_by harts (statics_with added (statics_of table)) added) p.ranges left
  pub based : AreBased added p.ranges

-- they have their modules, and so many pages have no room
pub record LackPages (free : List ℕ) (table : ModuleTable) (harts : Option ℕ) (added : List Loaded) (pages : ℕ) : Type 0 where
  pub storage : HaveModules (is_some harts) table.modules (statics_of table) added
  pub lacks : LacksRoom free (areas_by harts (statics_with added (statics_of table)) added) pages

abbrev pub IsUnplaced : List ℕ → ModuleTable → Option ℕ → List Loaded → PlaceFault → Type 0
IsUnplaced free table harts added (Full pages) = LackPages free table harts added pages
IsUnplaced free table harts added Memory = Unit {0}
