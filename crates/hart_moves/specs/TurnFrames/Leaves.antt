-- What a turn makes of the functions that the linker has its hart run, and which objects its events initialise, finalise and unmap.
use Rattle.std.specs.Prelude.{◌≡◌, ℕ, Bool, true, false, List, [], ◌∷◌, ◌++◌, drop, map, Option}
use Rattle.std.specs.List.{AllByRecursion}
use Rattle.ld_base.specs.declared.linking.Loaded.{Loaded}
use Rattle.history_event.specs.declared.event.CloseAnswer.TheVariants as closings
use Rattle.history_event.specs.declared.event.Event.{Event}
use Rattle.history_event.specs.declared.event.Event.TheVariants.{Close, Fini, Init, Open, Unmapped}
use Rattle.history_event.specs.declared.event.OpenAnswer.TheVariants as openings
use Rattle.history_event.specs.declared.event.OpenAsk.{OpenAsk}
use Rattle.history_event.specs.declared.event.Range.{Range}
use Rattle.history_event.specs.declared.handed.Function.{Function}
use Rattle.history_state.specs.After.{after}
use Rattle.history_state.specs.Objects.{serial_of}
use Rattle.history_state.specs.Setting.{Setting}
use Rattle.history_calls.specs.Functions.{AreConstructors, AreDestructors, left, passed}
use Rattle.hart_moves.specs.Harts.{Frame, HartState, Purpose}
use Rattle.hart_moves.specs.Moves.{Did, Finals, Moves, events_of, final_functions, own_fini, passing}
use Rattle.hart_moves.specs.Registers.{ra, returned}
use Rattle.hart_moves.specs.TurnEvents.Appends.{is_of_end}

-- ---- events

-- an event that neither initialises, finalises nor unmaps objects
abbrev pub touches_no_frame : Event → Bool
touches_no_frame e = elim e [ Unmapped hart set ↦ false | Init hart object ↦ false | Fini hart object ↦ false | _ ↦ true ]

abbrev pub NoneTouchesFrames : List Event → Type 0
NoneTouchesFrames events = AllByRecursion (λ e. touches_no_frame e ≡ true) events

-- ---- frames

-- the last object's functions have run: a closing's objects are still to be unmapped
abbrev pub behind_all : Purpose → List Frame → List Frame
behind_all (Purpose.of_startup registers) below = below
behind_all (Purpose.of_opening to root) below = below
behind_all (Purpose.of_closing to set) below = record { purpose = Purpose.of_closing to set; queue = [] } ∷ below
behind_all (Purpose.of_end code) below = below

-- the functions of an object but the first
abbrev pub behind_first : Function → Function
behind_first f = record f { addresses = drop 1 f.addresses }

-- the functions of these objects are left, but the first one of all
abbrev pub AreFrames : Purpose → List Function → List Frame → List Frame → Type 0
AreFrames purpose [] below frames = frames ≡ behind_all purpose below
AreFrames purpose (f ∷ rest) below frames = frames ≡ record { purpose = purpose; queue = behind_first f ∷ rest } ∷ below

-- the first function of the first of these is entered, where there is one
abbrev pub FirstIsEntered : List Function → HartState → Type 0
FirstIsEntered [] c = Unit {0}
FirstIsEntered (f ∷ rest) c = (address : ℕ) × (more : List ℕ) × (f.addresses ≡ address ∷ more) × (c.registers.pc ≡ address)

-- ---- a turn

pub data LeavesFrames (w : Setting) (past : List Event) (h : ℕ) (b : HartState) (did : Did) (c : HartState) : Type 0 where
  stays : NoneTouchesFrames (events_of did) → c.frames ≡ b.frames → LeavesFrames w past h b did c
  -- the next function of the first object is entered
  enters : (purpose : Purpose) (f : Function) (address : ℕ) (more : List ℕ) (rest : List Function) (below : List Frame)
      → b.frames ≡ record { purpose = purpose; queue = f ∷ rest } ∷ below → f.addresses ≡ address ∷ more → events_of did ≡ [] → c.registers.pc ≡ address
      → c.frames ≡ record { purpose = purpose; queue = record f { addresses = more } ∷ rest } ∷ below → LeavesFrames w past h b did c
  -- an opening, with the new objects in front that have no functions; it is to return to where it was called
  loads : (to root id : ℕ) (ask : OpenAsk) (first : Loaded) (rest : List Loaded) (ranges : List Range) (functions : List Function)
      → AreConstructors (after (past ++ Open h ask (openings.Done id root (first ∷ rest) ranges) ∷ [])) (map serial_of (first ∷ rest)) functions
      → events_of did ≡ Open h ask (openings.Done id root (first ∷ rest) ranges) ∷ map (passing (Purpose.of_opening to root) h) (passed functions)
      → AreFrames (Purpose.of_opening to root) (left functions) b.frames c.frames → to ≡ ra b.registers → FirstIsEntered (left functions) c
      → LeavesFrames w past h b did c
  -- a closing, with its objects in front that have none; it is to return so, too
  dies : (to handle first : ℕ) (rest : List ℕ) (functions : List Function)
      → AreDestructors (after (past ++ Close h handle (closings.Done (first ∷ rest)) ∷ [])) (first ∷ rest) functions
      → events_of did ≡ Close h handle (closings.Done (first ∷ rest)) ∷ map (passing (Purpose.of_closing to (first ∷ rest)) h) (passed functions)
      → AreFrames (Purpose.of_closing to (first ∷ rest)) (left functions) b.frames c.frames → to ≡ ra b.registers → FirstIsEntered (left functions) c
      → LeavesFrames w past h b did c
  -- an object is passed, with those behind it that have none
  completes : (purpose : Purpose) (f : Function) (rest : List Function) (below : List Frame) → is_of_end purpose ≡ false
      → b.frames ≡ record { purpose = purpose; queue = f ∷ rest } ∷ below → events_of did ≡ map (passing purpose h) (f.object ∷ passed rest)
      → AreFrames purpose (left rest) below c.frames → FirstIsEntered (left rest) c → LeavesFrames w past h b did c
  -- a closing's objects are unmapped, and its call returns with 0
  unmaps : (to : ℕ) (set : List ℕ) (below : List Frame) → b.frames ≡ record { purpose = Purpose.of_closing to set; queue = [] } ∷ below
      → events_of did ≡ Unmapped h set ∷ [] → c.frames ≡ below → c.registers ≡ returned to 0 b.registers → LeavesFrames w past h b did c
  -- of the final destructors those of one object have run: it is finalised, if it may still be, with the next ones that have none
  finalises : (code : ℕ) (f : Function) (rest : List Function) (below : List Frame) (events : List Event) (next : Option Function)
      → b.frames ≡ record { purpose = Purpose.of_end code; queue = f ∷ rest } ∷ below
      → Finals w h (past ++ own_fini (after past) h f.object) events next → events_of did ≡ own_fini (after past) h f.object ++ events
      → AreFrames (Purpose.of_end code) (final_functions next) [] c.frames → FirstIsEntered (final_functions next) c → LeavesFrames w past h b did c

-- each turn is one of these
abbrev pub TurnsLeaveFrames : Type 0
TurnsLeaveFrames = (w : Setting) (past : List Event) (h : ℕ) (b c : HartState) (did : Did) → Moves w past h b did c → LeavesFrames w past h b did c
