-- What a due turn says of its hart's phase: only a hart that writes copies a text and serves a write.
use Rattle.std.proofs.Common.{◌≡◌, ℕ, ◌≤◌, Bool, true, false, cond, List, [], ◌∷◌, length, Option, Some, None, refl, ◌==◌}
use Rattle.std.specs.Prelude.{nat_lt, ◌%◌}
use Rattle.std.proofs.lemmas.Bool.{ltb-false}
use Rattle.history_event.specs.declared.handed.Function.{Function}
use Rattle.history_event.specs.declared.hart_end.HartEnd.{HartEnd}
use Rattle.history_event.specs.declared.hart_end.HartEnd.TheVariants as ends
use Rattle.history_state.specs.State.{State}
use Rattle.history_calls.specs.Call.{Call, resolves, opens, looks_up, closes, unmaps, asks_fault, locates, writes, stops}
use Rattle.history_calls.specs.Call as call
use Rattle.hart_moves.specs.Copying.{Copy, number_in}
use Rattle.hart_moves.specs.Due.{Due, all_done, at_service, back, behind, by_frames, by_name, by_phase, by_queue, by_resolving, call_of, done, due, within_fuel, write_count}
use Rattle.hart_moves.specs.Harts.{Frame, HartState, Naming, Phase, Purpose, Resolving}
use Rattle.hart_moves.specs.Registers.{a0, a1, a2, ra}
use Rattle.hart_moves.specs.Services.{Service, service_at}
use Rattle.hart_moves.specs.Waiting.{is_still}

-- a text that the hart copies to write it, of which so many bytes are taken
pub record IsText (b : HartState) (count : ℕ) (bytes : List ℕ) : Type 0 where
  pub phase : b.phase ≡ Phase.writing bytes
  pub taken : count ≡ write_count b.registers

-- all of them are copied
pub record IsCopied (b : HartState) (bytes : List ℕ) : Type 0 where
  pub phase : b.phase ≡ Phase.writing bytes
  pub all : write_count b.registers ≤ length bytes

abbrev pub CopiesFrom : HartState → List ℕ → Copy → Type 0
CopiesFrom b bytes (Copy.of_name n) = Unit {0}
CopiesFrom b bytes (Copy.of_version name) = Unit {0}
CopiesFrom b bytes Copy.of_pair = Unit {0}
CopiesFrom b bytes (Copy.of_text count) = IsText b count bytes

abbrev pub AskedFrom : HartState → Call → Type 0
AskedFrom b (resolves owner eights) = Unit {0}
AskedFrom b (opens ask) = Unit {0}
AskedFrom b (looks_up ask) = Unit {0}
AskedFrom b (closes handle) = Unit {0}
AskedFrom b (unmaps set) = Unit {0}
AskedFrom b asks_fault = Unit {0}
AskedFrom b (locates number offset) = Unit {0}
AskedFrom b (writes bytes) = IsCopied b bytes
AskedFrom b (stops reason) = Unit {0}

abbrev pub IsFrom : HartState → Due → Type 0
IsFrom b Due.nothing = Unit {0}
IsFrom b (Due.exchange o) = Unit {0}
IsFrom b (Due.finish o found) = Unit {0}
IsFrom b Due.fuel_out = Unit {0}
IsFrom b Due.instruction = b.phase ≡ Phase.at_pc
IsFrom b (Due.copy copy start bytes) = CopiesFrom b bytes copy
IsFrom b (Due.serve asked to) = AskedFrom b asked
IsFrom b (Due.wait for) = Unit {0}
IsFrom b (Due.store text stored word more) = Unit {0}
IsFrom b (Due.enter function frames) = Unit {0}
IsFrom b (Due.complete purpose object rest below) = Unit {0}
IsFrom b (Due.finalise code object) = Unit {0}

either_from : (b : HartState) (t : Bool) (x y : Due) → IsFrom b x → IsFrom b y → IsFrom b (cond t x y)
either_from b true x y one other = one
either_from b false x y one other = other

-- ---- services

name_from : (s : State) (b : HartState) (n : Naming) → IsFrom b (by_name s b n)
name_from s b Naming.dlopen =
    either_from b (a0 b.registers == 0) (Due.serve (call.dlopen s (ra b.registers) None (a1 b.registers)) (back b)) (Due.copy (Copy.of_name Naming.dlopen) (a0 b.registers) []) tt tt
name_from s b Naming.dlmopen =
    either_from b (a1 b.registers == 0) (Due.serve (call.dlmopen (a0 b.registers) None (a2 b.registers)) (back b)) (Due.copy (Copy.of_name Naming.dlmopen) (a1 b.registers) []) tt tt
name_from s b Naming.dlsym = tt
name_from s b Naming.dlvsym = tt

done_from : (b : HartState) (purpose : Purpose) (object : ℕ) (rest : List Function) (below : List Frame) → IsFrom b (done purpose object rest below)
done_from b (Purpose.of_startup registers) object rest below = tt
done_from b (Purpose.of_opening to root) object rest below = tt
done_from b (Purpose.of_closing to set) object rest below = tt
done_from b (Purpose.of_end code) object rest below = tt

all_from : (b : HartState) (purpose : Purpose) (below : List Frame) → IsFrom b (all_done b purpose below)
all_from b (Purpose.of_startup registers) below = tt
all_from b (Purpose.of_opening to root) below = tt
all_from b (Purpose.of_closing to set) below = tt
all_from b (Purpose.of_end code) below = tt

addresses_from : (b : HartState) (purpose : Purpose) (f : Function) (rest : List Function) (below : List Frame) (addresses : List ℕ)
    → IsFrom b (elim addresses [ [] ↦ done purpose f.object rest below | function ∷ more ↦ Due.enter function (record { purpose = purpose; queue = record f { addresses = more } ∷ rest } ∷ below) ])
addresses_from b purpose f rest below [] = done_from b purpose f.object rest below
addresses_from b purpose f rest below (function ∷ more) = tt

queue_from : (b : HartState) (purpose : Purpose) (queue : List Function) (below : List Frame) → IsFrom b (by_queue b purpose queue below)
queue_from b purpose [] below = all_from b purpose below
queue_from b purpose (f ∷ rest) below = addresses_from b purpose f rest below f.addresses

frames_from : (b : HartState) (frames : List Frame) → IsFrom b (by_frames b frames)
frames_from b [] = tt
frames_from b (frame ∷ below) = queue_from b frame.purpose frame.queue below

service_from : (s : State) (b : HartState) (service : Service) → IsFrom b (at_service s b service)
service_from s b Service.resolve = tt
service_from s b (Service.of_name n) = name_from s b n
service_from s b Service.dlclose = tt
service_from s b Service.dlerror = tt
service_from s b Service.tls_get_addr =
    either_from b (a0 b.registers % 8 == 0) (Due.copy Copy.of_pair (a0 b.registers) []) (Due.serve (call.stops (ends.Misaligned b.registers.pc (a0 b.registers))) (back b)) tt tt
service_from s b Service.next_function = frames_from b b.frames
service_from s b Service.exit = tt

pc_from : (s : State) (b : HartState) → b.phase ≡ Phase.at_pc → (found : Option Service) → IsFrom b (elim found [ Some service ↦ at_service s b service | None ↦ Due.instruction ])
pc_from s b is (Some service) = service_from s b service
pc_from s b is None = is

-- ---- what is passed

named_from : (s : State) (b : HartState) (n : Naming) (name version : List ℕ) → IsFrom b (Due.serve (call_of s b.registers n name version) (back b))
unfolding call_of
named_from s b Naming.dlopen name version = tt
named_from s b Naming.dlmopen name version = tt
named_from s b Naming.dlsym name version = tt
named_from s b Naming.dlvsym name version = tt

text_from : (b : HartState) (bytes : List ℕ) → b.phase ≡ Phase.writing bytes → (t : Bool) → nat_lt (length bytes) (write_count b.registers) ≡ t
    → IsFrom b (cond t (Due.copy (Copy.of_text (write_count b.registers)) (a1 b.registers) bytes) (Due.serve (call.writes bytes) (behind b)))
text_from b bytes is true less = record { phase = is; taken = refl }
text_from b bytes is false less = record { phase = is; all = ltb-false (length bytes) (write_count b.registers) less }

phase_from : (s : State) (b : HartState) (phase : Phase) → b.phase ≡ phase → IsFrom b (by_phase s b phase)
unfolding by_phase
phase_from s b Phase.at_pc is = pc_from s b is (service_at b.registers.pc)
phase_from s b (Phase.naming n bytes) is = tt
phase_from s b (Phase.versioning name bytes) is = tt
phase_from s b (Phase.named n name version) is = named_from s b n name version
phase_from s b (Phase.waiting n name version for) is =
    either_from b (is_still s for) (Due.wait for) (Due.serve (call_of s b.registers n name version) (back b)) tt (named_from s b n name version)
phase_from s b (Phase.pairing bytes) is =
    either_from b (nat_lt (length bytes) 16) (Due.copy Copy.of_pair (a0 b.registers) bytes) (Due.serve (call.locates (number_in bytes 0) (number_in bytes 8)) (back b)) tt tt
phase_from s b (Phase.writing bytes) is = text_from b bytes is (nat_lt (length bytes) (write_count b.registers)) refl
phase_from s b (Phase.storing text stored word more) is = tt

-- ---- a turn

within_from : (s : State) (b : HartState) → IsFrom b (within_fuel b (by_phase s b b.phase))
within_from s b = either_from b (nat_lt b.turns b.fuel) (by_phase s b b.phase) Due.fuel_out (phase_from s b b.phase refl) tt

resolving_from : (s : State) (b : HartState) (r : Resolving) → IsFrom b (by_resolving s b r)
resolving_from s b Resolving.idle = within_from s b
resolving_from s b (Resolving.to_exchange o) = tt
resolving_from s b (Resolving.to_finish o found) = tt
resolving_from s b (Resolving.to_settle o found) = within_from s b

state_from : (s : State) (b : HartState) (e : Option HartEnd) → IsFrom b (elim e [ Some reason ↦ Due.nothing | None ↦ by_resolving s b b.resolving ])
state_from s b (Some reason) = tt
state_from s b None = resolving_from s b b.resolving

pub due_from : (s : State) (b : HartState) → IsFrom b (due s b)
unfolding due
due_from s b = state_from s b b.«end»
