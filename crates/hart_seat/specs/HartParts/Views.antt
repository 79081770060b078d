-- The types of the code, as the definitions of a hart have them.
use Rattle.std.specs.Prelude.{ℕ, if◌then◌else◌, List, [], ◌∷◌}
use Rattle.std.specs.Option.{option_copied}
use Rattle.history_state.specs.State.{State}
use Rattle.history_calls.specs.Call.{Call}
use Rattle.history_calls.specs.Call as is
use Rattle.hart_moves.specs.Copying.{Copy}
use Rattle.hart_moves.specs.Due.{Due, Return, back, behind, done}
use Rattle.hart_moves.specs.Harts.{Frame, HartState, Naming, Offered, Phase, Purpose}
use Rattle.hart_moves.specs.Services.{Service}
use Rattle.hart_moves.specs.Starting.{starting_registers}
use Rattle.hart_moves.specs.Waiting.{is_still}
use Rattle.hart_seat.specs.HartParts.Queues.{below, entered_frames}
use Rattle.hart_seat.specs.declared.hart_parts.due.Call.{Call as code_call}
use Rattle.hart_seat.specs.declared.hart_parts.due.Call.TheVariants as call
use Rattle.hart_seat.specs.declared.hart_parts.due.Copying.{Copying as code_copying}
use Rattle.hart_seat.specs.declared.hart_parts.due.Copying.TheVariants as copying
use Rattle.hart_seat.specs.declared.hart_parts.due.Due.{Due as code_due}
use Rattle.hart_seat.specs.declared.hart_parts.due.Due.TheVariants as due
use Rattle.hart_seat.specs.declared.hart_parts.due.Naming.{Naming as code_naming}
use Rattle.hart_seat.specs.declared.hart_parts.due.Naming.TheVariants as naming
use Rattle.hart_seat.specs.declared.hart_parts.due.Offered.{Offered as code_offered}
use Rattle.hart_seat.specs.declared.hart_parts.queue.Purpose.{Purpose as code_purpose}
use Rattle.hart_seat.specs.declared.hart_parts.queue.Purpose.TheVariants as purpose
use Rattle.hart_seat.specs.declared.hart_parts.service.Service.{Service as code_service}
use Rattle.hart_seat.specs.declared.hart_parts.service.Service.TheVariants as service

-- ---- plain data

abbrev pub offered_of : code_offered → Offered
offered_of o = record { number = o.number; slot = o.slot; lazy = o.lazy; value = o.value }

abbrev pub naming_of : code_naming → Naming
naming_of naming.Dlopen = Naming.dlopen
naming_of naming.Dlmopen = Naming.dlmopen
naming_of naming.Dlsym = Naming.dlsym
naming_of naming.Dlvsym = Naming.dlvsym

abbrev pub service_of : code_service → Service
service_of service.Resolve = Service.resolve
service_of (service.Name taker) = Service.of_name (naming_of taker)
service_of service.Dlclose = Service.dlclose
service_of service.Dlerror = Service.dlerror
service_of service.TlsGetAddr = Service.tls_get_addr
service_of service.NextFunction = Service.next_function
service_of service.Exit = Service.exit

abbrev pub purpose_of : code_purpose → Purpose
purpose_of (purpose.Startup entry) = Purpose.of_startup (starting_registers entry)
purpose_of (purpose.Opening to root) = Purpose.of_opening to root
purpose_of (purpose.Closing to dying) = Purpose.of_closing to dying.list
purpose_of (purpose.End code) = Purpose.of_end code

abbrev pub copying_of : code_copying → Copy
copying_of (copying.Name taker) = Copy.of_name (naming_of taker)
copying_of (copying.Version name) = Copy.of_version name.now
copying_of copying.Pair = Copy.of_pair
copying_of (copying.Text count) = Copy.of_text count

-- ---- calls

-- in a state, which says in which namespace a caller is
abbrev pub call_in : State → code_call → Call
call_in s (call.Resolve owner eights) = is.resolves owner eights
call_in s (call.Dlopen caller name flags) = is.dlopen s caller (option_copied name) flags
call_in s (call.Dlmopen ns name flags) = is.dlmopen ns (option_copied name) flags
call_in s (call.Dlsym caller handle name) = is.dlsym s caller handle name.now
call_in s (call.Dlvsym caller handle name version) = is.dlvsym s caller handle name.now version.now
call_in s (call.Dlclose handle) = is.closes handle
call_in s (call.Unmap dying) = is.unmaps dying.now.list
call_in s call.Dlerror = is.asks_fault
call_in s (call.Locate number offset) = is.locates number offset
call_in s (call.Write bytes) = is.writes bytes.now
call_in s (call.Stop reason) = is.stops reason

-- a closing, of which the innermost frame is, returns to where dlclose was called, and leaves the frame
abbrev pub closing_from : HartState → Frame → List Frame → Return
closing_from b frame rest = elim frame.purpose [
  | Purpose.of_closing to set ↦ record { to = to; frames = rest }
  | _ ↦ back b
]

abbrev pub closing_back : HartState → List Frame → Return
closing_back b [] = back b
closing_back b (frame ∷ rest) = closing_from b frame rest

-- where a call of a hart returns to
abbrev pub back_of : HartState → code_call → Return
back_of b (call.Write bytes) = behind b
back_of b (call.Unmap dying) = closing_back b b.frames
back_of b _ = back b

-- ---- a turn

-- the rest of a text that is stored behind the next doubleword
abbrev pub more_of : Phase → List ℕ
more_of Phase.at_pc = []
more_of (Phase.naming n bytes) = []
more_of (Phase.versioning name bytes) = []
more_of (Phase.named n name version) = []
more_of (Phase.waiting n name version for) = []
more_of (Phase.pairing bytes) = []
more_of (Phase.writing bytes) = []
more_of (Phase.storing text stored word more) = more

-- what the next turn of a hart is, in a state
abbrev pub due_in : State → HartState → code_due → Due
due_in s b due.Nothing = Due.nothing
due_in s b (due.Exchange o) = Due.exchange (offered_of o)
due_in s b (due.Finish o found) = Due.finish (offered_of o) found
due_in s b due.FuelOut = Due.fuel_out
due_in s b due.Instruction = Due.instruction
due_in s b (due.Copy what start bytes) = Due.copy (copying_of what) start bytes.now
due_in s b (due.Serve asked) = Due.serve (call_in s asked) (back_of b asked)
due_in s b (due.Wait for asked) = if is_still s for then Due.wait for else Due.serve (call_in s asked) (back_of b asked)
due_in s b (due.Store text stored word) = Due.store text stored word (more_of b.phase)
due_in s b (due.Enter function) = Due.enter function (entered_frames b.frames)
due_in s b (due.Complete purpose object behind) = done (purpose_of purpose.now) object behind.now (below b.frames)
