-- What a hart's next turn is: its state says it, and which objects are mapped.
use Rattle.std.specs.Prelude.{ℕ, ◌%◌, ◌==◌, nat_lt, if◌then◌else◌, Bool, true, false, List, [], ◌∷◌, length, min, Some, None}
use Rattle.ld_base.specs.declared.fault.Shown.{Shown}
use Rattle.history_event.specs.declared.handed.Function.{Function}
use Rattle.history_event.specs.declared.hart_end.HartEnd.TheVariants as ends
use Rattle.history_state.specs.State.{State}
use Rattle.history_calls.specs.Call.{Call, resolves, closes, unmaps, asks_fault, locates, writes, stops}
use Rattle.history_calls.specs.Call as call
use Rattle.rv_hart.specs.Registers.{Registers, next}
use Rattle.hart_moves.specs.Copying.{Copy, number_in}
use Rattle.hart_moves.specs.Harts.{Frame, HartState, Naming, Offered, Phase, Purpose, Resolving}
use Rattle.hart_moves.specs.Registers.{a0, a1, a2, ra, t0, t1}
use Rattle.hart_moves.specs.Services.{Service, service_at}
use Rattle.hart_moves.specs.Waiting.{is_still}

-- where a call returns to, and which functions the linker has the hart run then
pub record Return : Type 0 where
  pub to : ℕ
  pub frames : List Frame

pub data Due : Type 0 where
  -- the hart has ended
  nothing : Due
  -- a granted slot's exchange, and the end of its offer
  exchange : Offered → Due
  finish : Offered → (found : ℕ) → Due
  -- its turns are used up
  fuel_out : Due
  instruction : Due
  -- one doubleword more of a text that begins at an address, of which these bytes are copied
  copy : Copy → (start : ℕ) → (bytes : List ℕ) → Due
  -- a service
  serve : Call → Return → Due
  -- what an opening waits for is still so: nothing is asked
  wait : Shown → Due
  -- one doubleword more of dlerror's text
  store : (text stored word : ℕ) → (more : List ℕ) → Due
  -- the next function of an object is entered, which leaves these frames
  enter : (function : ℕ) → List Frame → Due
  -- the functions of an object have run: what they were for, the object, the objects behind it, and the frames below
  complete : Purpose → (object : ℕ) → List Function → List Frame → Due
  -- the final destructors of an object have run
  finalise : (code object : ℕ) → Due

-- the final destructors of an object have run
abbrev pub is_finalising : Due → Bool
is_finalising d = elim d [ Due.finalise code object ↦ true | _ ↦ false ]

-- ---- calls

-- a call that returns as functions do
abbrev pub back : HartState → Return
back b = record { to = ra b.registers; frames = b.frames }

-- a write returns behind its ecall
abbrev pub behind : HartState → Return
behind b = record { to = next b.registers.pc; frames = b.frames }

-- the call of a function that takes names, once they are copied
unfoldable pub call_of : State → Registers → Naming → (name version : List ℕ) → Call
call_of s r Naming.dlopen name version = call.dlopen s (ra r) (Some name) (a1 r)
call_of s r Naming.dlmopen name version = call.dlmopen (a0 r) (Some name) (a2 r)
call_of s r Naming.dlsym name version = call.dlsym s (ra r) (a0 r) name
call_of s r Naming.dlvsym name version = call.dlvsym s (ra r) (a0 r) name version

-- where a name begins: dlopen's is the first argument, that of the others the second
abbrev pub name_start : Naming → Registers → ℕ
name_start Naming.dlopen r = a0 r
name_start Naming.dlmopen r = a1 r
name_start Naming.dlsym r = a1 r
name_start Naming.dlvsym r = a1 r

-- dlopen and dlmopen may be passed no name, which is the program's; a name of dlsym and dlvsym that begins at 0 is copied, as any other
abbrev pub by_name : State → HartState → Naming → Due
by_name s b Naming.dlopen =
    if a0 b.registers == 0 then serve (call.dlopen s (ra b.registers) None (a1 b.registers)) (back b) else copy (Copy.of_name Naming.dlopen) (a0 b.registers) []
by_name s b Naming.dlmopen =
    if a1 b.registers == 0 then serve (call.dlmopen (a0 b.registers) None (a2 b.registers)) (back b) else copy (Copy.of_name Naming.dlmopen) (a1 b.registers) []
by_name s b Naming.dlsym = copy (Copy.of_name Naming.dlsym) (a1 b.registers) []
by_name s b Naming.dlvsym = copy (Copy.of_name Naming.dlvsym) (a1 b.registers) []

-- the hart ends by itself
abbrev pub own_end : HartState → Call → Due
own_end b reason = serve reason (back b)

-- ---- functions that the linker has run

-- the functions of one object have run
abbrev pub done : Purpose → ℕ → List Function → List Frame → Due
done (Purpose.of_startup registers) object rest below = complete (Purpose.of_startup registers) object rest below
done (Purpose.of_opening to root) object rest below = complete (Purpose.of_opening to root) object rest below
done (Purpose.of_closing to set) object rest below = complete (Purpose.of_closing to set) object rest below
done (Purpose.of_end code) object rest below = finalise code object

-- those of all have: a closing's objects are unmapped; no other queue is left empty
abbrev pub all_done : HartState → Purpose → List Frame → Due
all_done b (Purpose.of_startup registers) below = own_end b (stops (ends.Break b.registers.pc))
all_done b (Purpose.of_opening to root) below = own_end b (stops (ends.Break b.registers.pc))
all_done b (Purpose.of_closing to set) below = serve (unmaps set) (record { to = to; frames = below })
all_done b (Purpose.of_end code) below = own_end b (stops (ends.Break b.registers.pc))

-- the functions of a frame
abbrev pub by_queue : HartState → Purpose → List Function → List Frame → Due
by_queue b purpose [] below = all_done b purpose below
by_queue b purpose (f ∷ rest) below = elim f.addresses [
  | [] ↦ done purpose f.object rest below
  | function ∷ more ↦ enter function (record { purpose = purpose; queue = record f { addresses = more } ∷ rest } ∷ below)
]

-- a hart that runs no function for the linker has nothing to return from
abbrev pub by_frames : HartState → List Frame → Due
by_frames b [] = own_end b (stops (ends.Break b.registers.pc))
by_frames b (frame ∷ below) = by_queue b frame.purpose frame.queue below

-- ---- by the pc

abbrev pub at_service : State → HartState → Service → Due
at_service s b Service.resolve = serve (resolves (t0 b.registers) (t1 b.registers)) (back b)
at_service s b (Service.of_name n) = by_name s b n
at_service s b Service.dlclose = serve (closes (a0 b.registers)) (back b)
at_service s b Service.dlerror = serve asks_fault (back b)
at_service s b Service.tls_get_addr =
    if a0 b.registers % 8 == 0 then copy Copy.of_pair (a0 b.registers) [] else own_end b (stops (ends.Misaligned b.registers.pc (a0 b.registers)))
at_service s b Service.next_function = by_frames b b.frames
at_service s b Service.exit = own_end b (stops (ends.Exit (a0 b.registers)))

-- ---- by what it has passed

-- of a text to write 256 bytes at most are taken
abbrev pub write_count : Registers → ℕ
write_count r = min (a2 r) 256

unfoldable pub by_phase : State → HartState → Phase → Due
by_phase s b Phase.at_pc = elim (service_at b.registers.pc) [ Some service ↦ at_service s b service | None ↦ instruction ]
by_phase s b (Phase.naming n bytes) = copy (Copy.of_name n) (name_start n b.registers) bytes
by_phase s b (Phase.versioning name bytes) = copy (Copy.of_version name) (a2 b.registers) bytes
by_phase s b (Phase.named n name version) = serve (call_of s b.registers n name version) (back b)
by_phase s b (Phase.waiting n name version for) = if is_still s for then wait for else serve (call_of s b.registers n name version) (back b)
by_phase s b (Phase.pairing bytes) =
    if nat_lt (length bytes) 16 then copy Copy.of_pair (a0 b.registers) bytes else serve (locates (number_in bytes 0) (number_in bytes 8)) (back b)
by_phase s b (Phase.writing bytes) =
    let count = write_count b.registers in
    if nat_lt (length bytes) count then copy (Copy.of_text count) (a1 b.registers) bytes else serve (writes bytes) (behind b)
by_phase s b (Phase.storing text stored word more) = store text stored word more

-- ---- a turn

-- a hart whose turns have reached its fuel takes no other
abbrev pub within_fuel : HartState → Due → Due
within_fuel b due = if nat_lt b.turns b.fuel then due else fuel_out

-- but it goes on between a grant and the end of its offer
abbrev pub by_resolving : State → HartState → Resolving → Due
by_resolving s b Resolving.idle = within_fuel b (by_phase s b b.phase)
by_resolving s b (Resolving.to_exchange o) = exchange o
by_resolving s b (Resolving.to_finish o found) = finish o found
by_resolving s b (Resolving.to_settle o found) = within_fuel b (by_phase s b b.phase)

unfoldable pub due : State → HartState → Due
due s b = elim b.«end» [ Some reason ↦ nothing | None ↦ by_resolving s b b.resolving ]
