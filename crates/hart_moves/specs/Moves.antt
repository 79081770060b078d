-- One turn of one hart: what it did, and where that leaves it. A relation for each kind of turn, and the table that joins them. What memory
-- answers is told by the calls of the bus, what the linker gives by its events; whoever keeps memory and the journal adds what they make of them.
use Rattle.std.specs.Prelude.{◌≡◌, ◌⊎◌, ℕ, ◌+◌, ◌-◌, ◌*◌, ◌^◌, ◌==◌, ◌&&◌, ◌||◌, not, Bool, true, false, if◌then◌else◌}
use Rattle.std.specs.Prelude.{List, [], ◌∷◌, ◌++◌, find, map, Option, Some, None, Result, Ok, Err}
use Rattle.std.specs.List.{list_any, slice_get}
use Rattle.std.specs.Option.{is_some, option_map_or}
use Rattle.ld_base.specs.declared.fault.DlFault.{DlFault}
use Rattle.ld_base.specs.declared.fault.Shown.{Shown}
use Rattle.ld_base.specs.declared.linking.Loaded.{Loaded}
use Rattle.ld_base.specs.declared.linking.Role.{Role}
use Rattle.ld_base.specs.declared.linking.Role.TheVariants.{Slot}
use Rattle.ld_base.specs.declared.object.Reloc.{Reloc}
use Rattle.history_event.specs.declared.event.Event.{Event}
use Rattle.history_event.specs.declared.event.Event.TheVariants as events
use Rattle.history_event.specs.declared.handed.Function.{Function}
use Rattle.history_event.specs.declared.hart_end.HartEnd.{HartEnd}
use Rattle.history_event.specs.declared.hart_end.HartEnd.TheVariants as ends
use Rattle.history_event.specs.declared.state.Granting.{Granting}
use Rattle.relocator.specs.Relocated.{moved_word}
use Rattle.rv_hart.specs.declared.bus.BusFault.{BusFault}
use Rattle.rv_hart.specs.declared.bus.BusFault.TheVariants.{Role as RoleFault, Misaligned, Again}
use Rattle.rv_hart.specs.declared.bus.Item.{Item}
use Rattle.rv_hart.specs.declared.bus.Item.TheVariants.{Fetch, Read, Write, Amo, Reserve, Conditional}
use Rattle.rv_hart.specs.declared.stepping.Stop.{Stop}
use Rattle.rv_hart.specs.declared.stepping.Stop.TheVariants as stop
use Rattle.rv_hart.specs.Registers.{Registers}
use Rattle.rv_hart.specs.Trail.{IsStep, Place, Ready, Accessing, Stopped}
use Rattle.history_state.specs.After.{after}
use Rattle.history_state.specs.Allowed.{Allowed, MayEnd}
use Rattle.history_state.specs.Laws.{slot_address}
use Rattle.history_state.specs.Links.{finis_of}
use Rattle.history_state.specs.Memory.{image_of}
use Rattle.history_state.specs.Objects.{has, mapped, object_at, serial_of}
use Rattle.history_state.specs.Setting.{Setting}
use Rattle.history_state.specs.State.{Linked, State}
use Rattle.history_calls.specs.Answer.{Answer, returns, loading, closing, refused, granted, told, again, over, refused_value}
use Rattle.history_calls.specs.Call.{Call}
use Rattle.history_calls.specs.Functions.{AreAddresses, AreConstructors, AreDestructors, destructors, left, passed}
use Rattle.history_calls.specs.Gives.{Serves}
use Rattle.history_calls.specs.Served.{answer_text}
use Rattle.history_calls.specs.Startup.{is_stack}
use Rattle.hart_moves.specs.Copying.{Copy, doubleword_at, first_left, grown, text_words, with_bytes}
use Rattle.hart_moves.specs.Due.{Due, Return, due}
use Rattle.hart_moves.specs.Harts.{Frame, HartState, Offered, Phase, Purpose, Resolving}
use Rattle.hart_moves.specs.Registers.{a0, a2, a7, at, entered, next_function, passed_ecall, ra, returned}
use Rattle.hart_moves.specs.Waiting.{awaiting}

-- ---- what a turn did

pub data Did : Type 0 where
  -- calls of the bus, or nothing that anyone else sees
  quiet : List Item → Did
  -- a service, behind these calls of the bus, with the events that it appended
  serves : List Item → List Event → Did
  -- a service of which nothing came yet
  waits : Shown → Did
  -- an exchange on a slot, with the word that it found
  exchanges : Offered → (found : ℕ) → Did
  -- the end of an offer
  finishes : Did

-- the events of a turn, but for the settling of what was done before
abbrev pub events_of : Did → List Event
events_of (Did.quiet items) = []
events_of (Did.serves items appended) = appended
events_of (Did.waits for) = []
events_of (Did.exchanges o found) = []
events_of Did.finishes = []

-- a service settles each grant whose hart is done with it, first of all
abbrev pub settles : Did → Bool
settles (Did.quiet items) = false
settles (Did.serves items appended) = true
settles (Did.waits for) = true
settles (Did.exchanges o found) = false
settles Did.finishes = false

-- ---- a hart after its turn

-- each turn counts
abbrev pub spent : HartState → HartState
spent b = record b { turns = b.turns + 1 }

abbrev pub running : Registers → HartState → HartState
running r b = record b { registers = r; phase = Phase.at_pc }

-- its grant is settled, if it was done with one
abbrev pub settled_resolving : Resolving → Resolving
settled_resolving Resolving.idle = Resolving.idle
settled_resolving (Resolving.to_exchange o) = Resolving.to_exchange o
settled_resolving (Resolving.to_finish o found) = Resolving.to_finish o found
settled_resolving (Resolving.to_settle o found) = Resolving.idle

abbrev pub freed : HartState → HartState
freed b = record b { resolving = settled_resolving b.resolving }

abbrev pub ended : HartEnd → HartState → HartState
ended reason b = record (freed b) { «end» = Some reason }

-- a turn that ends its hart, which that appends
pub record TurnEnds (w : Setting) (past : List Event) (h : ℕ) (b : HartState) (items : List Item) (reason : HartEnd) (did : Did) (c : HartState) : Type 0 where
  pub may : MayEnd w (after past) h
  pub is : did ≡ Did.serves items (events.Ended h reason ∷ [])
  pub leaves : c ≡ ended reason b

-- a turn that only made calls of the bus
pub record Goes (items : List Item) (b : HartState) (did : Did) (c : HartState) : Type 0 where
  pub is : did ≡ Did.quiet items
  pub leaves : c ≡ spent b

-- ---- an exchange and the end of an offer

-- the word that the slot held, which isn't another than the lazy one where the exchange won
pub record Exchanges (b : HartState) (o : Offered) (did : Did) (c : HartState) : Type 0 where
  pub found : ℕ
  pub is : did ≡ Did.exchanges o found
  pub leaves : c ≡ spent (record b { resolving = Resolving.to_finish o found })

-- the word that the slot holds behind the exchange
abbrev pub word_left : Offered → ℕ → ℕ
word_left o found = if found == o.lazy then o.value else found

-- there the hart goes on, with all its registers
pub record TurnFinishes (b : HartState) (o : Offered) (found : ℕ) (did : Did) (c : HartState) : Type 0 where
  pub is : did ≡ Did.finishes
  pub leaves : c ≡ spent (record b { registers = at (word_left o found) b.registers; resolving = Resolving.to_settle o found })

-- ---- an instruction

-- what an ecall asks for (Linux's numbers: 93 is exit, 64 is write): an end, a value at once, or a write, whose bytes are to be copied
pub data Trap : Type 0 where
  exits : (code : ℕ) → Trap
  gives : (value : ℕ) → Trap
  writes : Trap

-- -9 is EBADF: a write goes to 1 or 2
abbrev pub write_trap : Registers → Trap
write_trap r = if not (a0 r == 1 || a0 r == 2) then Trap.gives (2 ^ 64 - 9) else if a2 r == 0 then Trap.gives 0 else Trap.writes

-- -38 is ENOSYS
abbrev pub trap_of : Registers → Trap
trap_of r = if a7 r == 93 then Trap.exits (a0 r) else if a7 r == 64 then write_trap r else Trap.gives (2 ^ 64 - 38)

abbrev pub Traps : Setting → List Event → ℕ → HartState → List Item → Trap → Did → HartState → Type 0
Traps w past h b items (Trap.exits code) did c = TurnEnds w past h (spent b) items (ends.Exit code) did c
Traps w past h b items (Trap.gives value) did c = Goes items (running (passed_ecall value b.registers) b) did c
Traps w past h b items Trap.writes did c = Goes items (record b { phase = Phase.writing [] }) did c

-- a store, an SC and an AMO to a slot end the hart as that, and each other access that a role doesn't allow as one of nothing mapped
abbrev pub is_store : Item → Bool
is_store (Fetch address answer) = false
is_store (Read address size answer) = false
is_store (Write address size value answer) = true
is_store (Amo address size op value answer) = true
is_store (Reserve address size answer) = false
is_store (Conditional address size value version answer) = true

abbrev pub is_slot : Role → Bool
is_slot role = elim role [ Slot ↦ true | _ ↦ false ]

abbrev pub role_end : (pc address : ℕ) → List Item → Role → HartEnd
role_end pc address items role = if is_slot role && list_any is_store items then ends.SlotStore pc address else ends.NotMapped pc address

-- memory that changes under an access has the hart try it again
abbrev pub TurnRefuses : Setting → List Event → ℕ → HartState → List Item → ℕ → BusFault → Did → HartState → Type 0
TurnRefuses w past h b items address (RoleFault role) did c = TurnEnds w past h (spent b) items (role_end b.registers.pc address items role) did c
TurnRefuses w past h b items address Misaligned did c = TurnEnds w past h (spent b) items (ends.Misaligned b.registers.pc address) did c
TurnRefuses w past h b items address (Again shown) did c = Goes items b did c

abbrev pub TurnStops : Setting → List Event → ℕ → HartState → List Item → Stop → Did → HartState → Type 0
TurnStops w past h b items stop.Ecall did c = Traps w past h b items (trap_of b.registers) did c
TurnStops w past h b items stop.Break did c = TurnEnds w past h (spent b) items (ends.Break b.registers.pc) did c
TurnStops w past h b items (stop.Bad word) did c = TurnEnds w past h (spent b) items (ends.BadInstruction b.registers.pc word) did c
TurnStops w past h b items (stop.Misaligned address) did c = TurnEnds w past h (spent b) items (ends.Misaligned b.registers.pc address) did c
TurnStops w past h b items (stop.Refused address fault) did c = TurnRefuses w past h b items address fault did c

abbrev pub Comes : Setting → List Event → ℕ → HartState → List Item → Place → Did → HartState → Type 0
Comes w past h b items (Ready r) did c = Goes items (record b { registers = r }) did c
Comes w past h b items (Accessing r decoded) did c = ⊥
Comes w past h b items (Stopped r stop) did c = TurnStops w past h b items stop did c

-- an instruction, by the instruction table
pub record Instructs (w : Setting) (past : List Event) (h : ℕ) (b : HartState) (did : Did) (c : HartState) : Type 0 where
  pub items : List Item
  pub place : Place
  pub step : IsStep b.registers items place
  pub comes : Comes w past h b items place did c

-- ---- a copied doubleword

-- a byte that can't be read ends the hart; but a write then answers -14, EFAULT
abbrev pub Unread : Setting → List Event → ℕ → HartState → List Item → Copy → ℕ → Did → HartState → Type 0
Unread w past h b items (Copy.of_name n) address did c = TurnEnds w past h (spent b) items (ends.NotMapped b.registers.pc address) did c
Unread w past h b items (Copy.of_version name) address did c = TurnEnds w past h (spent b) items (ends.NotMapped b.registers.pc address) did c
Unread w past h b items Copy.of_pair address did c = TurnEnds w past h (spent b) items (ends.NotMapped b.registers.pc address) did c
Unread w past h b items (Copy.of_text count) address did c = Goes items (running (passed_ecall (2 ^ 64 - 14) b.registers) b) did c

abbrev pub CopiesBy : Setting → List Event → ℕ → HartState → List Item → Copy → ℕ → List ℕ → Result ℕ BusFault → Did → HartState → Type 0
CopiesBy w past h b items copy start bytes (Ok word) did c = Goes items (record b { phase = with_bytes copy (grown copy start bytes word) }) did c
CopiesBy w past h b items copy start bytes (Err (RoleFault role)) did c = Unread w past h b items copy (first_left start bytes) did c
CopiesBy w past h b items copy start bytes (Err Misaligned) did c = ⊥
CopiesBy w past h b items copy start bytes (Err (Again shown)) did c = Goes items b did c

-- the doubleword of the first byte that isn't copied yet
abbrev pub copied_item : ℕ → List ℕ → Result ℕ BusFault → Item
copied_item start bytes answer = Read (doubleword_at (first_left start bytes)) 8 answer

pub record Copies (w : Setting) (past : List Event) (h : ℕ) (b : HartState) (copy : Copy) (start : ℕ) (bytes : List ℕ) (did : Did)
    (c : HartState) : Type 0 where
  pub answer : Result ℕ BusFault
  pub comes : CopiesBy w past h b (copied_item start bytes answer ∷ []) copy start bytes answer did c

-- ---- a stored doubleword

-- the call returns with the last one
abbrev pub stored_to : (text stored : ℕ) → (more : List ℕ) → HartState → HartState
stored_to text stored [] b = running (returned (ra b.registers) text b.registers) b
stored_to text stored (word ∷ more) b = record b { phase = Phase.storing text (stored + 1) word more }

abbrev pub StoresBy : Setting → List Event → ℕ → HartState → List Item → (text stored : ℕ) → (more : List ℕ) → Result Unit BusFault → Did → HartState → Type 0
StoresBy w past h b items text stored more (Ok _) did c = Goes items (stored_to text stored more b) did c
StoresBy w past h b items text stored more (Err (RoleFault role)) did c =
    TurnEnds w past h (spent b) items (role_end b.registers.pc (text + 8 * stored) items role) did c
StoresBy w past h b items text stored more (Err Misaligned) did c = ⊥
StoresBy w past h b items text stored more (Err (Again shown)) did c = Goes items b did c

pub record StoresText (w : Setting) (past : List Event) (h : ℕ) (b : HartState) (text stored word : ℕ) (more : List ℕ) (did : Did)
    (c : HartState) : Type 0 where
  pub answer : Result Unit BusFault
  pub comes : StoresBy w past h b (Write (text + 8 * stored) 8 word answer ∷ []) text stored more answer did c

-- ---- functions that the linker has run

-- an object's constructors, or its destructors, have run
abbrev pub passing : Purpose → ℕ → ℕ → Event
passing (Purpose.of_startup registers) h object = events.Init h object
passing (Purpose.of_opening to root) h object = events.Init h object
passing (Purpose.of_closing to set) h object = events.Fini h object
passing (Purpose.of_end code) h object = events.Fini h object

-- each of these events may come after those before it
abbrev pub AreAllowed : Setting → List Event → List Event → Type 0
AreAllowed w past [] = Unit {0}
AreAllowed w past (e ∷ rest) = Allowed w past e × AreAllowed w (past ++ e ∷ []) rest

-- no function is left to run: the hart starts; the opening returns; the closing is to unmap its objects; the run is over
abbrev pub after_all : Purpose → List Frame → HartState → HartState
after_all (Purpose.of_startup registers) below b = running registers (record b { frames = below })
after_all (Purpose.of_opening to root) below b = running (returned to root b.registers) (record b { frames = below })
after_all (Purpose.of_closing to set) below b =
    running (at next_function b.registers) (record b { frames = record { purpose = Purpose.of_closing to set; queue = [] } ∷ below })
after_all (Purpose.of_end code) below b = record b { frames = below; «end» = Some (ends.Exit code) }

-- the first function of an object is entered; where it has none, its turn comes next
abbrev pub with_first : Purpose → ℕ → List ℕ → List Function → List Frame → HartState → HartState
with_first purpose object [] rest below b =
    running (entered next_function b.registers)
    (record b { frames = record { purpose = purpose; queue = record { object = object; addresses = [] } ∷ rest } ∷ below })
with_first purpose object (function ∷ more) rest below b =
    running (entered function b.registers)
    (record b { frames = record { purpose = purpose; queue = record { object = object; addresses = more } ∷ rest } ∷ below })

abbrev pub runs : Purpose → List Function → List Frame → HartState → HartState
runs purpose [] below b = after_all purpose below b
runs purpose (f ∷ rest) below b = with_first purpose f.object f.addresses rest below b

-- behind some events those of the objects in front that have no functions, and then the first function that there is
pub record Passes (w : Setting) (past : List Event) (h : ℕ) (b : HartState) (purpose : Purpose) (before : List Event) (functions : List Function)
    (below : List Frame) (did : Did) (c : HartState) : Type 0 where
  pub may : AreAllowed w (past ++ before) (map (passing purpose h) (passed functions))
  pub is : did ≡ Did.serves [] (before ++ map (passing purpose h) (passed functions))
  pub leaves : c ≡ spent (runs purpose (left functions) below (freed b))

-- an object is passed, and those behind it that have no functions
pub record Completes (w : Setting) (past : List Event) (h : ℕ) (b : HartState) (purpose : Purpose) (object : ℕ) (rest : List Function)
    (below : List Frame) (did : Did) (c : HartState) : Type 0 where
  pub may : Allowed w past (passing purpose h object)
  pub passes : Passes w past h b purpose (passing purpose h object ∷ []) rest below did c

pub record TurnEnters (function : ℕ) (frames : List Frame) (b : HartState) (did : Did) (c : HartState) : Type 0 where
  pub is : did ≡ Did.quiet []
  pub leaves : c ≡ spent (running (entered function b.registers) (record b { frames = frames }))

-- ---- the final destructors

-- all that are left, the latest first
abbrev pub all_finis : State → List ℕ
all_finis s = finis_of s (map serial_of (mapped s))

-- the object is mapped and wasn't finalised, so that its own event comes
abbrev pub own_fini : State → ℕ → ℕ → List Event
own_fini s h object = if is_some (object_at s object) && not (has s.finis object) then events.Fini h object ∷ [] else []

-- the next object is chosen anew after each event: objects without functions pass, until one has some or none is left
pub data Finals (w : Setting) (h : ℕ) : List Event → List Event → Option Function → Type 0 where
  no_more : (past : List Event) → all_finis (after past) ≡ [] → Finals w h past [] None
  one_runs : (past : List Event) (object function : ℕ) (rest more : List ℕ) → all_finis (after past) ≡ object ∷ rest
      → AreAddresses destructors (function ∷ more) (image_of (after past) object)
      → Finals w h past [] (Some (record { object = object; addresses = function ∷ more }))
  one_passes : (past : List Event) (object : ℕ) (rest : List ℕ) (behind : List Event) (next : Option Function) → all_finis (after past) ≡ object ∷ rest
      → AreAddresses destructors [] (image_of (after past) object) → Allowed w past (events.Fini h object)
      → Finals w h (past ++ events.Fini h object ∷ []) behind next → Finals w h past (events.Fini h object ∷ behind) next

abbrev pub final_functions : Option Function → List Function
final_functions None = []
final_functions (Some f) = f ∷ []

-- a turn without an event is no service
abbrev pub did_by : List Event → Did
did_by [] = Did.quiet []
did_by (e ∷ rest) = Did.serves [] (e ∷ rest)

abbrev pub freed_by : List Event → HartState → HartState
freed_by [] b = b
freed_by (e ∷ rest) b = freed b

-- the destructors of an object have run: its event, if it may still come, and then the next
pub record Finalises (w : Setting) (past : List Event) (h : ℕ) (b : HartState) (code object : ℕ) (did : Did) (c : HartState) : Type 0 where
  pub may : AreAllowed w past (own_fini (after past) h object)
  pub events : List Event
  pub next : Option Function
  pub finals : Finals w h (past ++ own_fini (after past) h object) events next
  pub is : did ≡ did_by (own_fini (after past) h object ++ events)
  pub leaves : c ≡ spent (runs (Purpose.of_end code) (final_functions next) [] (freed_by (own_fini (after past) h object ++ events) b))

-- the objects that are left are listed anew, which takes memory: where there is none the hart ends, and nothing else is appended
abbrev pub EndsObject : Setting → List Event → ℕ → HartState → (code object : ℕ) → Did → HartState → Type 0
EndsObject w past h b code object did c = Finalises w past h b code object did c ⊎ TurnEnds w past h (spent b) [] ends.Memory did c

-- ---- a service

-- what the granted slot is to its hart
pub record IsOffer (s : State) (g : Granting) (o : Offered) : Type 0 where
  pub image : Linked
  pub reloc : Reloc
  pub found : image_of s g.owner ≡ Some image
  pub at : slice_get image.object.plt_relocs g.slot ≡ Some reloc
  pub is : o ≡ record { number = g.number; slot = slot_address image reloc; lazy = moved_word image.object image.base reloc.place; value = g.value }

-- a call returns
abbrev pub returning : Return → ℕ → HartState → HartState
returning back value b = running (returned back.to value b.registers) (record b { frames = back.frames })

-- where the stack of a hart begins: its lowest 512 bytes hold the text of dlerror
abbrev pub stack_start : State → ℕ → ℕ
stack_start s hart = option_map_or (λ r. r.address) (find (λ r. is_stack hart r.purpose) s.ranges) 0

abbrev pub telling : ℕ → List ℕ → HartState → HartState
telling text [] b = b
telling text (word ∷ more) b = record b { phase = Phase.storing text 0 word more }

pub record Returns (b : HartState) (back : Return) (value : ℕ) (appended : List Event) (did : Did) (c : HartState) : Type 0 where
  pub is : did ≡ Did.serves [] appended
  pub leaves : c ≡ spent (returning back value (freed b))

pub record TurnLoads (w : Setting) (past : List Event) (h : ℕ) (b : HartState) (back : Return) (root : ℕ) (added : List Loaded) (appended : List Event)
    (did : Did) (c : HartState) : Type 0 where
  pub functions : List Function
  pub are : AreConstructors (after (past ++ appended)) (map serial_of added) functions
  pub passes : Passes w past h b (Purpose.of_opening back.to root) appended functions back.frames did c

pub record TurnCloses (w : Setting) (past : List Event) (h : ℕ) (b : HartState) (back : Return) (set : List ℕ) (appended : List Event)
    (did : Did) (c : HartState) : Type 0 where
  pub functions : List Function
  pub are : AreDestructors (after (past ++ appended)) set functions
  pub passes : Passes w past h b (Purpose.of_closing back.to set) appended functions back.frames did c

pub record Resolves (past : List Event) (b : HartState) (g : Granting) (appended : List Event) (did : Did) (c : HartState) : Type 0 where
  pub offered : Offered
  pub offer : IsOffer (after past) g offered
  pub is : did ≡ Did.serves [] appended
  pub leaves : c ≡ spent (record b { resolving = Resolving.to_exchange offered })

pub record Tells (text : ℕ) (b : HartState) (fault : DlFault) (appended : List Event) (did : Did) (c : HartState) : Type 0 where
  pub is : did ≡ Did.serves [] appended
  pub leaves : c ≡ spent (telling text (text_words (answer_text fault)) (freed b))

abbrev pub TellsOf : ℕ → HartState → Return → Option DlFault → List Event → Did → HartState → Type 0
TellsOf text b back (Some fault) appended did c = Tells text b fault appended did c
TellsOf text b back None appended did c = Returns b back 0 appended did c

-- nothing came of it yet: an opening waits until it may, another call is made again in the hart's next turn
pub record TurnWaits (b : HartState) (for : Shown) (did : Did) (c : HartState) : Type 0 where
  pub is : did ≡ Did.waits for
  pub leaves : c ≡ spent (awaiting for (freed b))

-- its end stands in what was appended
pub record IsOver (b : HartState) (reason : HartEnd) (appended : List Event) (did : Did) (c : HartState) : Type 0 where
  pub is : did ≡ Did.serves [] appended
  pub leaves : c ≡ ended reason (spent b)

-- what an answer makes of the hart
abbrev pub Takes : Setting → List Event → ℕ → HartState → Call → Return → Answer → List Event → Did → HartState → Type 0
Takes w past h b call back (returns value) appended did c = Returns b back value appended did c
Takes w past h b call back (loading root added) appended did c = TurnLoads w past h b back root added appended did c
Takes w past h b call back (closing set) appended did c = TurnCloses w past h b back set appended did c
Takes w past h b call back (refused fault) appended did c = Returns b back (refused_value call) appended did c
Takes w past h b call back (granted grant) appended did c = Resolves past b grant appended did c
Takes w past h b call back (told fault) appended did c = TellsOf (stack_start (after past) h) b back fault appended did c
Takes w past h b call back (again for) appended did c = TurnWaits b for did c
Takes w past h b call back (over reason) appended did c = IsOver b reason appended did c

pub record Calls (w : Setting) (past : List Event) (h : ℕ) (b : HartState) (call : Call) (back : Return) (did : Did) (c : HartState) : Type 0 where
  pub appended : List Event
  pub answer : Answer
  pub serves : Serves w past h call appended answer
  pub takes : Takes w past h b call back answer appended did c

-- ---- a turn

-- after a history, a hart whose next turn is this did that, and is left so
abbrev pub MovesAs : Setting → List Event → ℕ → HartState → Due → Did → HartState → Type 0
MovesAs w past h b Due.nothing did c = ⊥
MovesAs w past h b (Due.exchange o) did c = Exchanges b o did c
MovesAs w past h b (Due.finish o found) did c = TurnFinishes b o found did c
MovesAs w past h b Due.fuel_out did c = TurnEnds w past h b [] ends.FuelOut did c
MovesAs w past h b Due.instruction did c = Instructs w past h b did c
MovesAs w past h b (Due.copy copy start bytes) did c = Copies w past h b copy start bytes did c
MovesAs w past h b (Due.serve call back) did c = Calls w past h b call back did c
MovesAs w past h b (Due.wait for) did c = TurnWaits b for did c
MovesAs w past h b (Due.store text stored word more) did c = StoresText w past h b text stored word more did c
MovesAs w past h b (Due.enter function frames) did c = TurnEnters function frames b did c
MovesAs w past h b (Due.complete purpose object rest below) did c = Completes w past h b purpose object rest below did c
MovesAs w past h b (Due.finalise code object) did c = EndsObject w past h b code object did c

abbrev pub Moves : Setting → List Event → ℕ → HartState → Did → HartState → Type 0
Moves w past h b did c = MovesAs w past h b (due (after past) b) did c
