-- A hart that ends by itself ends by an end of its own.
use Rattle.std.proofs.Common.{◌≡◌, ℕ, Bool, true, false, cond, List, [], ◌∷◌, length, Option, Some, None, refl, sym, subst, ◌==◌}
use Rattle.std.specs.Prelude.{IsTrue, nat_lt, ◌%◌}
use Rattle.hart_moves.specs.Copying.{Copy, number_in}
use Rattle.hart_moves.specs.Due.{Due, Return, all_done, at_service, back, behind, by_frames, by_name, by_phase, by_queue, by_resolving, call_of, done, due, within_fuel, write_count}
use Rattle.hart_moves.specs.Harts.{Frame, HartState, Naming, Phase, Purpose, Resolving}
use Rattle.hart_moves.specs.Registers.{a0, a1, a2, ra}
use Rattle.hart_moves.specs.Services.{Service, service_at}
use Rattle.hart_moves.specs.Waiting.{is_still}
use Rattle.history_event.specs.declared.handed.Function.{Function}
use Rattle.history_event.specs.declared.hart_end.HartEnd.{HartEnd}
use Rattle.history_event.specs.declared.hart_end.HartEnd.TheVariants as ends
use Rattle.history_state.specs.State.{State}
use Rattle.history_calls.specs.Call.{Call, stops}
use Rattle.history_calls.specs.Call as call
use Rattle.history_calls.specs.Ends.{is_own_end}

abbrev OwnCall : Call → Type 0
OwnCall (stops reason) = is_own_end reason ≡ true
OwnCall other = Unit {0}

abbrev OwnDue : Due → Type 0
OwnDue (Due.serve asked to) = OwnCall asked
OwnDue other = Unit {0}

either_own : (t : Bool) (x y : Due) → OwnDue x → OwnDue y → OwnDue (cond t x y)
either_own true x y one other = one
either_own false x y one other = other

name_own : (s : State) (b : HartState) (n : Naming) → OwnDue (by_name s b n)
name_own s b Naming.dlopen =
    either_own (a0 b.registers == 0) (Due.serve (call.dlopen s (ra b.registers) None (a1 b.registers)) (back b)) (Due.copy (Copy.of_name Naming.dlopen) (a0 b.registers) []) tt tt
name_own s b Naming.dlmopen =
    either_own (a1 b.registers == 0) (Due.serve (call.dlmopen (a0 b.registers) None (a2 b.registers)) (back b)) (Due.copy (Copy.of_name Naming.dlmopen) (a1 b.registers) []) tt tt
name_own s b Naming.dlsym = tt
name_own s b Naming.dlvsym = tt

done_own : (purpose : Purpose) (object : ℕ) (rest : List Function) (below : List Frame) → OwnDue (done purpose object rest below)
done_own (Purpose.of_startup registers) object rest below = tt
done_own (Purpose.of_opening to root) object rest below = tt
done_own (Purpose.of_closing to set) object rest below = tt
done_own (Purpose.of_end code) object rest below = tt

all_own : (b : HartState) (purpose : Purpose) (below : List Frame) → OwnDue (all_done b purpose below)
all_own b (Purpose.of_startup registers) below = refl
all_own b (Purpose.of_opening to root) below = refl
all_own b (Purpose.of_closing to set) below = tt
all_own b (Purpose.of_end code) below = refl

addresses_own : (purpose : Purpose) (f : Function) (rest : List Function) (below : List Frame) (addresses : List ℕ)
    → OwnDue (elim addresses [ [] ↦ done purpose f.object rest below | function ∷ more ↦ Due.enter function (record { purpose = purpose; queue = record f { addresses = more } ∷ rest } ∷ below) ])
addresses_own purpose f rest below [] = done_own purpose f.object rest below
addresses_own purpose f rest below (function ∷ more) = tt

queue_own : (b : HartState) (purpose : Purpose) (queue : List Function) (below : List Frame) → OwnDue (by_queue b purpose queue below)
queue_own b purpose [] below = all_own b purpose below
queue_own b purpose (f ∷ rest) below = addresses_own purpose f rest below f.addresses

frames_own : (b : HartState) (frames : List Frame) → OwnDue (by_frames b frames)
frames_own b [] = refl
frames_own b (frame ∷ below) = queue_own b frame.purpose frame.queue below

service_own : (s : State) (b : HartState) (service : Service) → OwnDue (at_service s b service)
service_own s b Service.resolve = tt
service_own s b (Service.of_name n) = name_own s b n
service_own s b Service.dlclose = tt
service_own s b Service.dlerror = tt
service_own s b Service.tls_get_addr =
    either_own (a0 b.registers % 8 == 0) (Due.copy Copy.of_pair (a0 b.registers) []) (Due.serve (stops (ends.Misaligned b.registers.pc (a0 b.registers))) (back b)) tt refl
service_own s b Service.next_function = frames_own b b.frames
service_own s b Service.exit = refl

pc_own : (s : State) (b : HartState) (found : Option Service) → OwnDue (elim found [ Some service ↦ at_service s b service | None ↦ Due.instruction ])
pc_own s b (Some service) = service_own s b service
pc_own s b None = tt

named_own : (s : State) (b : HartState) (n : Naming) (name version : List ℕ) → OwnDue (Due.serve (call_of s b.registers n name version) (back b))
unfolding call_of
named_own s b Naming.dlopen name version = tt
named_own s b Naming.dlmopen name version = tt
named_own s b Naming.dlsym name version = tt
named_own s b Naming.dlvsym name version = tt

phase_own : (s : State) (b : HartState) (phase : Phase) → OwnDue (by_phase s b phase)
unfolding by_phase
phase_own s b Phase.at_pc = pc_own s b (service_at b.registers.pc)
phase_own s b (Phase.naming n bytes) = tt
phase_own s b (Phase.versioning name bytes) = tt
phase_own s b (Phase.named n name version) = named_own s b n name version
phase_own s b (Phase.waiting n name version for) =
    either_own (is_still s for) (Due.wait for) (Due.serve (call_of s b.registers n name version) (back b)) tt (named_own s b n name version)
phase_own s b (Phase.pairing bytes) =
    either_own (nat_lt (length bytes) 16) (Due.copy Copy.of_pair (a0 b.registers) bytes) (Due.serve (call.locates (number_in bytes 0) (number_in bytes 8)) (back b)) tt tt
phase_own s b (Phase.writing bytes) =
    either_own (nat_lt (length bytes) (write_count b.registers)) (Due.copy (Copy.of_text (write_count b.registers)) (a1 b.registers) bytes) (Due.serve (call.writes bytes) (behind b)) tt tt
phase_own s b (Phase.storing text stored word more) = tt

within_own : (s : State) (b : HartState) → OwnDue (within_fuel b (by_phase s b b.phase))
within_own s b = either_own (nat_lt b.turns b.fuel) (by_phase s b b.phase) Due.fuel_out (phase_own s b b.phase) tt

resolving_own : (s : State) (b : HartState) (resolving : Resolving) → OwnDue (by_resolving s b resolving)
resolving_own s b Resolving.idle = within_own s b
resolving_own s b (Resolving.to_exchange o) = tt
resolving_own s b (Resolving.to_finish o found) = tt
resolving_own s b (Resolving.to_settle o found) = within_own s b

end_own : (s : State) (b : HartState) (ended : Option HartEnd) → OwnDue (elim ended [ Some reason ↦ Due.nothing | None ↦ by_resolving s b b.resolving ])
end_own s b (Some reason) = tt
end_own s b None = resolving_own s b b.resolving

due_own : (s : State) (b : HartState) → OwnDue (due s b)
unfolding due
due_own s b = end_own s b b.«end»

pub own_end : (s : State) (b : HartState) (reason : HartEnd) (to : Return) → Due.serve (stops reason) to ≡ due s b → IsTrue (is_own_end reason)
own_end s b reason to is = subst OwnDue (sym is) (due_own s b)
