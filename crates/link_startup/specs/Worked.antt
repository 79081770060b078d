-- Worked starts of runs, each with one that it isn't.
use Rattle.std.specs.Prelude.{ℕ, false, List, [], ◌∷◌, ◌++◌, None, codes}
use Rattle.ld_base.specs.declared.fault.DlFault.{DlFault}
use Rattle.ld_base.specs.declared.fault.DlFault.TheVariants.{MissingLibrary, MissingSymbol, NotCode}
use Rattle.ld_base.specs.declared.linking.Loaded.{Loaded}
use Rattle.history_event.specs.declared.event.Event.{Event}
use Rattle.history_event.specs.declared.event.Event.TheVariants.{Open, Sym}
use Rattle.history_event.specs.declared.event.OpenAnswer.TheVariants as openings
use Rattle.history_event.specs.declared.event.Range.{Range}
use Rattle.history_event.specs.declared.event.SymAnswer.TheVariants as symbols
use Rattle.history_event.specs.declared.handed.Function.{Function}
use Rattle.history_calls.specs.declared.link_served.installs.Installs.{Installs}
use Rattle.history_calls.specs.declared.link_served.startup.Setup.{Setup}
use Rattle.history_calls.specs.declared.link_served.startup.Started.{Started}
use Rattle.history_state.specs.After.{after}
use Rattle.history_state.specs.Parts.{Held, code, defined, given, object, pages_at, placed, slots, stack_at}
use Rattle.history_state.specs.Race as race
use Rattle.history_state.specs.Setting.{Setting}
use Rattle.history_calls.specs.Functions.{AreStartConstructors}
use Rattle.history_calls.specs.Served.{AreInstalls}
use Rattle.history_calls.specs.Startup.{FailsToStart, Starts, found_at, hart_ask, opening, program_ask}

-- a run of this program, with further harts that start at these names
abbrev pub setup_of : List ℕ → List (List ℕ) → Setup
setup_of program harts = record { program = program; folders = codes "lib" ∷ []; preload = []; bind_now = false; harts = harts; fuel = 1 }

-- ---- two harts

abbrev pub two_harts : Setup
two_harts = setup_of (codes "prog") (codes "h1" ∷ [])

abbrev pub prog_placed : List Loaded
prog_placed = placed 0 1 race.prog 0x10000 [] ∷ []

abbrev pub prog_ranges : List Range
prog_ranges = pages_at 1 0x10000 4 ∷ stack_at 0 0x14000 ∷ stack_at 1 0x24000 ∷ []

-- the program is opened, and the second hart's name is found
abbrev pub both_found : List Event
both_found = opening two_harts 1 prog_placed prog_ranges ∷ found_at 1 (codes "h1") 1 3 0x11058 ∷ []

-- whatever images and functions are those of the opening, the harts have these registers
abbrev pub StartsAt : ℕ → ℕ → Type 0
StartsAt first second = (installs : Installs) (functions : List Function) → AreInstalls (after both_found) prog_placed prog_ranges installs
    → AreStartConstructors (after both_found) (1 ∷ []) functions
    → Starts race.setting two_harts both_found (record {
      installs = installs;
      functions = functions;
      entries = record { pc = 0x10000; sp = first; tp = 0; a0 = 0 } ∷ record { pc = 0x11058; sp = second; tp = 0; a0 = 1 } ∷ [];
    })

-- each starts 48 bytes below the end of a stack of its own
abbrev pub StartsTwo : Type 0
StartsTwo = StartsAt 0x23fd0 0x33fd0

-- not both in one
abbrev pub SharesAStack : Type 0
SharesAStack = (installs : Installs) × ((functions : List Function) × Starts race.setting two_harts both_found (record {
  installs = installs;
  functions = functions;
  entries = record { pc = 0x10000; sp = 0x23fd0; tp = 0; a0 = 0 } ∷ record { pc = 0x11058; sp = 0x23fd0; tp = 0; a0 = 1 } ∷ [];
}))

-- ---- a program that isn't there

abbrev pub one_hart : Setting
one_hart = given 1 (race.prog ∷ [])

abbrev pub HasNoProgram : Type 0
HasNoProgram = FailsToStart one_hart (setup_of (codes "nope") []) (MissingLibrary (codes "nope"))
    (Open 0 (program_ask (setup_of (codes "nope") [])) (openings.Refused (MissingLibrary (codes "nope"))) ∷ [])

-- ---- a name that isn't found

abbrev pub lacks_first : Setup
lacks_first = setup_of (codes "prog") (codes "h2" ∷ codes "h1" ∷ [])

-- there is a stack for each of the three harts
abbrev pub three_harts : Setting
three_harts = given 3 (race.prog ∷ [])

abbrev pub three_ranges : List Range
three_ranges = prog_ranges ++ stack_at 2 0x34000 ∷ []

abbrev pub h2_missing : DlFault
h2_missing = MissingSymbol None (codes "h2") None

abbrev pub h2_refused : Event
h2_refused = Sym 1 (hart_ask (codes "h2")) (symbols.Refused h2_missing)

-- the run ends there
abbrev pub LacksName : Type 0
LacksName = FailsToStart three_harts lacks_first h2_missing (opening lacks_first 1 prog_placed three_ranges ∷ h2_refused ∷ [])

-- over a setting of fewer harts than are set up nothing starts or fails
abbrev pub LacksNameOfTwo : Type 0
LacksNameOfTwo = FailsToStart race.setting lacks_first h2_missing (opening lacks_first 1 prog_placed prog_ranges ∷ h2_refused ∷ [])

-- and the later name isn't looked up
abbrev pub LooksOn : Type 0
LooksOn = FailsToStart three_harts lacks_first h2_missing
    (opening lacks_first 1 prog_placed three_ranges ∷ h2_refused ∷ found_at 2 (codes "h1") 1 3 0x11058 ∷ [])

-- ---- a name that is found, but no code

-- a variable beside the slots
abbrev pub holder : Held
holder = record { path = codes "prog"; object = object [] (code ∷ slots ∷ []) (defined (codes "v") 0x3008 ∷ []) [] }

abbrev pub data_setting : Setting
data_setting = given 2 (holder ∷ [])

abbrev pub at_data : Setup
at_data = setup_of (codes "prog") (codes "v" ∷ [])

abbrev pub data_found : List Event
data_found = opening at_data 1 (placed 0 1 holder 0x10000 [] ∷ []) prog_ranges ∷ found_at 1 (codes "v") 1 1 0x13008 ∷ []

abbrev pub StopsAtData : Type 0
StopsAtData = FailsToStart data_setting at_data (NotCode (codes "prog") (codes "v")) data_found

abbrev pub StartsInData : Type 0
StartsInData = (started : Started) × Starts data_setting at_data data_found started
