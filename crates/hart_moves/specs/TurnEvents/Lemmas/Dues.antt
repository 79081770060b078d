-- Which frames a due turn goes on with.
use Rattle.std.proofs.Common.{◌≡◌, ℕ, Bool, true, false, cond, List, [], ◌∷◌, length, Option, Some, None, refl, ◌==◌}
use Rattle.std.specs.Prelude.{nat_lt, ◌%◌}
use Rattle.history_event.specs.declared.handed.Function.{Function}
use Rattle.history_event.specs.declared.hart_end.HartEnd.TheVariants as ends
use Rattle.history_state.specs.State.{State}
use Rattle.history_calls.specs.Call.{Call, resolves, opens, looks_up, closes, unmaps, asks_fault, locates, writes, stops}
use Rattle.history_calls.specs.Call as call
use Rattle.hart_moves.specs.Copying.{Copy, number_in}
use Rattle.hart_moves.specs.Due.{Due, Return, all_done, at_service, back, behind, by_frames, by_name, by_phase, by_queue, call_of, done, within_fuel, write_count}
use Rattle.hart_moves.specs.Harts.{Frame, HartState, Naming, Phase, Purpose}
use Rattle.hart_moves.specs.Registers.{a0, a1, a2, ra}
use Rattle.hart_moves.specs.Services.{Service, service_at}
use Rattle.hart_moves.specs.Waiting.{is_still}
use Rattle.hart_moves.specs.TurnEvents.Appends.{is_of_end}

-- a call returns to the hart's frames, an unmapping to those behind its closing; an opening and a closing to where they were called
abbrev pub AskedFrom : HartState → Call → Return → Type 0
AskedFrom b (resolves owner eights) to = to.frames ≡ b.frames
AskedFrom b (opens ask) to = (to.to ≡ ra b.registers) × (to.frames ≡ b.frames)
AskedFrom b (looks_up ask) to = to.frames ≡ b.frames
AskedFrom b (closes handle) to = (to.to ≡ ra b.registers) × (to.frames ≡ b.frames)
AskedFrom b (unmaps set) to = b.frames ≡ record { purpose = Purpose.of_closing to.to set; queue = [] } ∷ to.frames
AskedFrom b asks_fault to = to.frames ≡ b.frames
AskedFrom b (locates number offset) to = to.frames ≡ b.frames
AskedFrom b (writes bytes) to = to.frames ≡ b.frames
AskedFrom b (stops reason) to = to.frames ≡ b.frames

-- the next function of the first object is entered
pub record EntersFirst (old : List Frame) (address : ℕ) (new : List Frame) : Type 0 where
  pub purpose : Purpose
  pub function : Function
  pub more : List ℕ
  pub rest : List Function
  pub below : List Frame
  pub before : old ≡ record { purpose = purpose; queue = function ∷ rest } ∷ below
  pub next : function.addresses ≡ address ∷ more
  pub after : new ≡ record { purpose = purpose; queue = record function { addresses = more } ∷ rest } ∷ below

-- the first object's functions have run
pub record HasRun (frames : List Frame) (purpose : Purpose) (object : ℕ) (rest : List Function) (below : List Frame) : Type 0 where
  pub function : Function
  pub is : function.object ≡ object
  pub before : frames ≡ record { purpose = purpose; queue = function ∷ rest } ∷ below

abbrev pub IsFrom : HartState → Due → Type 0
IsFrom b Due.nothing = Unit {0}
IsFrom b (Due.exchange o) = Unit {0}
IsFrom b (Due.finish o found) = Unit {0}
IsFrom b Due.fuel_out = Unit {0}
IsFrom b Due.instruction = Unit {0}
IsFrom b (Due.copy copy start bytes) = Unit {0}
IsFrom b (Due.serve asked to) = AskedFrom b asked to
IsFrom b (Due.wait for) = Unit {0}
IsFrom b (Due.store text stored word more) = Unit {0}
IsFrom b (Due.enter function frames) = EntersFirst b.frames function frames
IsFrom b (Due.complete purpose object rest below) = HasRun b.frames purpose object rest below × (is_of_end purpose ≡ false)
IsFrom b (Due.finalise code object) = (rest : List Function) × (below : List Frame) × HasRun b.frames (Purpose.of_end code) object rest below

either_from : (b : HartState) (t : Bool) (x y : Due) → IsFrom b x → IsFrom b y → IsFrom b (cond t x y)
either_from b true x y one other = one
either_from b false x y one other = other

name_from : (s : State) (b : HartState) (n : Naming) → IsFrom b (by_name s b n)
name_from s b Naming.dlopen =
    either_from b (a0 b.registers == 0) (Due.serve (call.dlopen s (ra b.registers) None (a1 b.registers)) (back b)) (Due.copy (Copy.of_name Naming.dlopen) (a0 b.registers) []) (refl, refl) tt
name_from s b Naming.dlmopen =
    either_from b (a1 b.registers == 0) (Due.serve (call.dlmopen (a0 b.registers) None (a2 b.registers)) (back b)) (Due.copy (Copy.of_name Naming.dlmopen) (a1 b.registers) []) (refl, refl) tt
name_from s b Naming.dlsym = tt
name_from s b Naming.dlvsym = tt

done_from : (b : HartState) (purpose : Purpose) (f : Function) (rest : List Function) (below : List Frame) → b.frames ≡ record { purpose = purpose; queue = f ∷ rest } ∷ below → IsFrom b (done purpose f.object rest below)
done_from b (Purpose.of_startup registers) f rest below e = (record { function = f; is = refl; before = e }, refl)
done_from b (Purpose.of_opening to root) f rest below e = (record { function = f; is = refl; before = e }, refl)
done_from b (Purpose.of_closing to set) f rest below e = (record { function = f; is = refl; before = e }, refl)
done_from b (Purpose.of_end code) f rest below e = (rest, below, record { function = f; is = refl; before = e })

all_from : (b : HartState) (purpose : Purpose) (below : List Frame) → b.frames ≡ record { purpose = purpose; queue = [] } ∷ below → IsFrom b (all_done b purpose below)
all_from b (Purpose.of_startup registers) below e = refl
all_from b (Purpose.of_opening to root) below e = refl
all_from b (Purpose.of_closing to set) below e = e
all_from b (Purpose.of_end code) below e = refl

addresses_from : (b : HartState) (purpose : Purpose) (f : Function) (rest : List Function) (below : List Frame) (addresses : List ℕ) → f.addresses ≡ addresses → b.frames ≡ record { purpose = purpose; queue = f ∷ rest } ∷ below
    → IsFrom b (elim addresses [ [] ↦ done purpose f.object rest below | function ∷ more ↦ Due.enter function (record { purpose = purpose; queue = record f { addresses = more } ∷ rest } ∷ below) ])
addresses_from b purpose f rest below [] are e = done_from b purpose f rest below e
addresses_from b purpose f rest below (function ∷ more) are e = record { purpose = purpose; function = f; more = more; rest = rest; below = below; before = e; next = are; after = refl }

queue_from : (b : HartState) (purpose : Purpose) (queue : List Function) (below : List Frame) → b.frames ≡ record { purpose = purpose; queue = queue } ∷ below → IsFrom b (by_queue b purpose queue below)
queue_from b purpose [] below e = all_from b purpose below e
queue_from b purpose (f ∷ rest) below e = addresses_from b purpose f rest below f.addresses refl e

frames_from : (b : HartState) (frames : List Frame) → b.frames ≡ frames → IsFrom b (by_frames b frames)
frames_from b [] are = refl
frames_from b (frame ∷ below) are = queue_from b frame.purpose frame.queue below are

service_from : (s : State) (b : HartState) (service : Service) → IsFrom b (at_service s b service)
service_from s b Service.resolve = refl
service_from s b (Service.of_name n) = name_from s b n
service_from s b Service.dlclose = (refl, refl)
service_from s b Service.dlerror = refl
service_from s b Service.tls_get_addr =
    either_from b (a0 b.registers % 8 == 0) (Due.copy Copy.of_pair (a0 b.registers) []) (Due.serve (call.stops (ends.Misaligned b.registers.pc (a0 b.registers))) (back b)) tt refl
service_from s b Service.next_function = frames_from b b.frames refl
service_from s b Service.exit = refl

pc_from : (s : State) (b : HartState) (found : Option Service) → IsFrom b (elim found [ Some service ↦ at_service s b service | None ↦ Due.instruction ])
pc_from s b (Some service) = service_from s b service
pc_from s b None = tt

named_from : (s : State) (b : HartState) (n : Naming) (name version : List ℕ) → IsFrom b (Due.serve (call_of s b.registers n name version) (back b))
unfolding call_of
named_from s b Naming.dlopen name version = (refl, refl)
named_from s b Naming.dlmopen name version = (refl, refl)
named_from s b Naming.dlsym name version = refl
named_from s b Naming.dlvsym name version = refl

phase_from : (s : State) (b : HartState) (phase : Phase) → IsFrom b (by_phase s b phase)
unfolding by_phase
phase_from s b Phase.at_pc = pc_from s b (service_at b.registers.pc)
phase_from s b (Phase.naming n bytes) = tt
phase_from s b (Phase.versioning name bytes) = tt
phase_from s b (Phase.named n name version) = named_from s b n name version
phase_from s b (Phase.waiting n name version for) =
    either_from b (is_still s for) (Due.wait for) (Due.serve (call_of s b.registers n name version) (back b)) tt (named_from s b n name version)
phase_from s b (Phase.pairing bytes) =
    either_from b (nat_lt (length bytes) 16) (Due.copy Copy.of_pair (a0 b.registers) bytes) (Due.serve (call.locates (number_in bytes 0) (number_in bytes 8)) (back b)) tt refl
phase_from s b (Phase.writing bytes) =
    either_from b (nat_lt (length bytes) (write_count b.registers)) (Due.copy (Copy.of_text (write_count b.registers)) (a1 b.registers) bytes) (Due.serve (call.writes bytes) (behind b)) tt refl
phase_from s b (Phase.storing text stored word more) = tt

pub within_from : (s : State) (b : HartState) → IsFrom b (within_fuel b (by_phase s b b.phase))
within_from s b = either_from b (nat_lt b.turns b.fuel) (by_phase s b b.phase) Due.fuel_out (phase_from s b b.phase) tt
