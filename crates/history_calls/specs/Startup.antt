-- How a run starts: the program's opening, where harts start, and with which registers.
use Rattle.std.specs.Prelude.{◌≡◌, ℕ, ◌+◌, ◌-◌, ◌*◌, Bool, false, ◌==◌, if◌then◌else◌, List, [], ◌∷◌, ◌++◌, length, map, find, Option, Some, None, Result}
use Rattle.std.specs.Prelude.{IsTrue}
use Rattle.std.specs.Option.{option_map_or}
use Rattle.ld_base.specs.declared.fault.DlFault.{DlFault}
use Rattle.ld_base.specs.declared.fault.DlFault.TheVariants.{NotCode}
use Rattle.ld_base.specs.declared.fault.NotAccepted.{NotAccepted}
use Rattle.ld_base.specs.declared.linking.File.{File}
use Rattle.ld_base.specs.declared.linking.Loaded.{Loaded}
use Rattle.ld_base.specs.declared.object.Object.{Object}
use Rattle.ld_base.specs.declared.parts.HashTable.{HashTable}
use Rattle.history_event.specs.declared.event.Event.{Event}
use Rattle.history_event.specs.declared.event.Event.TheVariants.{Open, Sym}
use Rattle.history_event.specs.declared.event.OpenAnswer.TheVariants as openings
use Rattle.history_event.specs.declared.event.OpenAsk.{OpenAsk}
use Rattle.history_event.specs.declared.event.Purpose.{Purpose}
use Rattle.history_event.specs.declared.event.Purpose.TheVariants as purposes
use Rattle.history_event.specs.declared.event.Range.{Range}
use Rattle.history_event.specs.declared.event.SymAnswer.TheVariants as symbols
use Rattle.history_event.specs.declared.event.SymAsk.{SymAsk}
use Rattle.history_event.specs.declared.handed.HartEntry.{HartEntry}
use Rattle.history_calls.specs.declared.link_served.startup.Setup.{Setup}
use Rattle.history_calls.specs.declared.link_served.startup.Started.{Started}
use Rattle.seg_image.specs.Pages.{guest_address}
use Rattle.history_state.specs.Addresses.{is_rx}
use Rattle.history_state.specs.After.{after}
use Rattle.history_state.specs.Allowed.{Allowed}
use Rattle.history_state.specs.Memory.{role_at}
use Rattle.history_state.specs.Objects.{object_at, serial_of}
use Rattle.history_state.specs.Setting.{Setting}
use Rattle.history_state.specs.State.{State}
use Rattle.history_state.specs.Storage.{tp_of}
use Rattle.history_calls.specs.Call.{known}
use Rattle.history_calls.specs.Functions.{AreStartConstructors}
use Rattle.history_calls.specs.Served.{AreInstalls}

-- ---- what a run is given

-- the first hart, and one for each name
abbrev pub harts_of : Setup → ℕ
harts_of setup = length setup.harts + 1

abbrev pub setting_of : (List ℕ → Bool → Result (Object × HashTable) NotAccepted) → Setup → Option (List File) → Setting
setting_of verdict setup files = record {
  machine = record { harts = harts_of setup; verdict = verdict };
  folders = setup.folders;
  preload = setup.preload;
  files = files;
}

-- folders, preload names and the number of harts are those that are set up
abbrev pub IsSetUp : Setting → Setup → Type 0
IsSetUp w setup = w ≡ setting_of w.machine.verdict setup w.files

-- the program is opened by its path, in the base namespace: RTLD_GLOBAL is 0x100, RTLD_LAZY 1, RTLD_NOW 2
abbrev pub program_ask : Setup → OpenAsk
program_ask setup = record { ns = Some 0; name = Some setup.program; flags = if setup.bind_now then 0x102 else 0x101 }

-- and the name of a hart's first function is looked up among the global ones (RTLD_DEFAULT)
abbrev pub hart_ask : List ℕ → SymAsk
hart_ask name = record { ns = 0; handle = 0; name = known name; version = None }

-- ---- where harts start

-- the event of a name that was found
abbrev pub found_at : ℕ → List ℕ → ℕ → ℕ → ℕ → Event
found_at h name serial index value = Sym h (hart_ask name) (symbols.Found serial index value)

-- the address lies in executable words
abbrev pub is_executable : State → ℕ → Bool
is_executable s a = is_rx (role_at s a)

-- a hart's name is found, in executable words
pub record FindsStart (w : Setting) (past : List Event) (h : ℕ) (name : List ℕ) (serial index value : ℕ) : Type 0 where
  pub may : Allowed w past (found_at h name serial index value)
  pub code : IsTrue (is_executable (after past) value)

-- the harts from one with this number on start at these names: the events of their look-ups, and the addresses
pub data FindHarts (w : Setting) : List Event → ℕ → List (List ℕ) → List Event → List ℕ → Type 0 where
  no_more : (past : List Event) (h : ℕ) → FindHarts w past h [] [] []
  one_more : (past : List Event) (h : ℕ) (name : List ℕ) (names : List (List ℕ)) (serial index value : ℕ) (events : List Event) (addresses : List ℕ)
      → FindsStart w past h name serial index value → FindHarts w (past ++ found_at h name serial index value ∷ []) (h + 1) names events addresses
      → FindHarts w past h (name ∷ names) (found_at h name serial index value ∷ events) (value ∷ addresses)

-- the first name at which no hart of this program can start: it isn't found, or not in executable words. No later name is looked up.
pub data LacksHart (w : Setting) (program : List ℕ) : List Event → ℕ → List (List ℕ) → List Event → DlFault → Type 0 where
  is_refused : (past : List Event) (h : ℕ) (name : List ℕ) (names : List (List ℕ)) (fault : DlFault)
      → Allowed w past (Sym h (hart_ask name) (symbols.Refused fault))
      → LacksHart w program past h (name ∷ names) (Sym h (hart_ask name) (symbols.Refused fault) ∷ []) fault
  is_not_code : (past : List Event) (h : ℕ) (name : List ℕ) (names : List (List ℕ)) (serial index value : ℕ)
      → Allowed w past (found_at h name serial index value)
      → is_executable (after past) value ≡ false
      → LacksHart w program past h (name ∷ names) (found_at h name serial index value ∷ []) (NotCode program name)
  one_more : (past : List Event) (h : ℕ) (name : List ℕ) (names : List (List ℕ)) (serial index value : ℕ) (events : List Event) (fault : DlFault)
      → FindsStart w past h name serial index value → LacksHart w program (past ++ found_at h name serial index value ∷ []) (h + 1) names events fault
      → LacksHart w program past h (name ∷ names) (found_at h name serial index value ∷ events) fault

-- ---- registers

abbrev pub is_stack : ℕ → Purpose → Bool
is_stack hart (purposes.Object serial) = false
is_stack hart (purposes.Stack h) = h == hart
is_stack hart (purposes.StaticTls h) = false
is_stack hart (purposes.Block h serial) = false

-- where a hart's stack ends
abbrev pub stack_end : State → ℕ → ℕ
stack_end s hart = option_map_or (λ r. r.address + 4096 * r.pages) (find (λ r. is_stack hart r.purpose) s.ranges) 0

-- argc, and the ends of argv, of the environment and of the auxiliary vector, all zero, take 48 bytes of it
abbrev pub entry_at : State → ℕ → ℕ → HartEntry
entry_at s hart pc = record { pc = pc; sp = stack_end s hart - 48; tp = tp_of s hart; a0 = hart }

-- those of the harts from one with this number on, at these addresses
abbrev pub entries_from : State → ℕ → List ℕ → List HartEntry
entries_from s hart [] = []
entries_from s hart (pc ∷ rest) = entry_at s hart pc ∷ entries_from s (hart + 1) rest

-- the first hart starts at the program's entry point
abbrev pub program_entry : State → ℕ
program_entry s = option_map_or (λ o. guest_address o.base o.object.entry) (object_at s 1) 0

-- ---- startup

abbrev pub opening : Setup → ℕ → List Loaded → List Range → Event
opening setup root added ranges = Open 0 (program_ask setup) (openings.Done 0 root added ranges)

-- the program is loaded, and each hart has a place to start
pub record Starts (w : Setting) (setup : Setup) (journal : List Event) (started : Started) : Type 0 where
  pub set_up : IsSetUp w setup
  pub root : ℕ
  pub added : List Loaded
  pub ranges : List Range
  pub opens : Allowed w [] (opening setup root added ranges)
  pub found : List Event
  pub addresses : List ℕ
  pub finds : FindHarts w (opening setup root added ranges ∷ []) 1 setup.harts found addresses
  pub are : journal ≡ opening setup root added ranges ∷ found
  pub installed : AreInstalls (after journal) added ranges started.installs
  pub constructed : AreStartConstructors (after journal) (map serial_of added) started.functions
  pub entries : started.entries ≡ entries_from (after journal) 0 (program_entry (after journal) ∷ addresses)

-- the program is refused, or a hart has none: the first refusal, and the events up to it
pub data FailsToStart (w : Setting) (setup : Setup) : DlFault → List Event → Type 0 where
  is_not_opened : (fault : DlFault) → IsSetUp w setup → Allowed w [] (Open 0 (program_ask setup) (openings.Refused fault))
      → FailsToStart w setup fault (Open 0 (program_ask setup) (openings.Refused fault) ∷ [])
  lacks_hart : (root : ℕ) (added : List Loaded) (ranges : List Range) (events : List Event) (fault : DlFault) → IsSetUp w setup
      → Allowed w [] (opening setup root added ranges) → LacksHart w setup.program (opening setup root added ranges ∷ []) 1 setup.harts events fault
      → FailsToStart w setup fault (opening setup root added ranges ∷ events)
