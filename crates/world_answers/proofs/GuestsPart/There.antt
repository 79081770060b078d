-- A hart that has not ended has a next turn.
use Rattle.std.proofs.Common.{◌≡◌, ℕ, Bool, true, false, cond, List, [], ◌∷◌, length, Option, Some, None, refl, sym, ap, ◌∙◌, ◌==◌}
use Rattle.std.specs.Prelude.{nat_lt, ◌%◌}
use Rattle.std.proofs.lemmas.Bool.{true≢false}
use Rattle.history_event.specs.declared.handed.Function.{Function}
use Rattle.history_event.specs.declared.hart_end.HartEnd.{HartEnd}
use Rattle.history_event.specs.declared.hart_end.HartEnd.TheVariants as ends
use Rattle.history_state.specs.State.{State}
use Rattle.history_calls.specs.Call as call
use Rattle.hart_moves.specs.Copying.{Copy, number_in}
use Rattle.hart_moves.specs.Due.{Due, all_done, at_service, back, behind, by_frames, by_name, by_phase, by_queue, by_resolving, call_of, done, due, within_fuel, write_count}
use Rattle.hart_moves.specs.Harts.{Frame, HartState, Naming, Phase, Purpose, Resolving}
use Rattle.hart_moves.specs.Registers.{a0, a1, a2, ra}
use Rattle.hart_moves.specs.Services.{Service, service_at}
use Rattle.hart_moves.specs.Waiting.{is_still}
use Rattle.world_answers.specs.GuestsPart.Asking.{needs_linker}

abbrev is_there : Due → Bool
is_there d = elim d [ Due.nothing ↦ false | _ ↦ true ]

either_there : (t : Bool) (x y : Due) → is_there x ≡ true → is_there y ≡ true → is_there (cond t x y) ≡ true
either_there true x y one other = one
either_there false x y one other = other

name_there : (s : State) (b : HartState) (n : Naming) → is_there (by_name s b n) ≡ true
name_there s b Naming.dlopen =
    either_there (a0 b.registers == 0) (Due.serve (call.dlopen s (ra b.registers) None (a1 b.registers)) (back b)) (Due.copy (Copy.of_name Naming.dlopen) (a0 b.registers) []) refl refl
name_there s b Naming.dlmopen =
    either_there (a1 b.registers == 0) (Due.serve (call.dlmopen (a0 b.registers) None (a2 b.registers)) (back b)) (Due.copy (Copy.of_name Naming.dlmopen) (a1 b.registers) []) refl refl
name_there s b Naming.dlsym = refl
name_there s b Naming.dlvsym = refl

done_there : (purpose : Purpose) (object : ℕ) (rest : List Function) (below : List Frame) → is_there (done purpose object rest below) ≡ true
done_there (Purpose.of_startup registers) object rest below = refl
done_there (Purpose.of_opening to root) object rest below = refl
done_there (Purpose.of_closing to set) object rest below = refl
done_there (Purpose.of_end code) object rest below = refl

all_there : (b : HartState) (purpose : Purpose) (below : List Frame) → is_there (all_done b purpose below) ≡ true
all_there b (Purpose.of_startup registers) below = refl
all_there b (Purpose.of_opening to root) below = refl
all_there b (Purpose.of_closing to set) below = refl
all_there b (Purpose.of_end code) below = refl

addresses_there : (purpose : Purpose) (f : Function) (rest : List Function) (below : List Frame) (addresses : List ℕ)
    → is_there (elim addresses [ [] ↦ done purpose f.object rest below | function ∷ more ↦ Due.enter function (record { purpose = purpose; queue = record f { addresses = more } ∷ rest } ∷ below) ]) ≡ true
addresses_there purpose f rest below [] = done_there purpose f.object rest below
addresses_there purpose f rest below (function ∷ more) = refl

queue_there : (b : HartState) (purpose : Purpose) (queue : List Function) (below : List Frame) → is_there (by_queue b purpose queue below) ≡ true
queue_there b purpose [] below = all_there b purpose below
queue_there b purpose (f ∷ rest) below = addresses_there purpose f rest below f.addresses

frames_there : (b : HartState) (frames : List Frame) → is_there (by_frames b frames) ≡ true
frames_there b [] = refl
frames_there b (frame ∷ below) = queue_there b frame.purpose frame.queue below

service_there : (s : State) (b : HartState) (service : Service) → is_there (at_service s b service) ≡ true
service_there s b Service.resolve = refl
service_there s b (Service.of_name n) = name_there s b n
service_there s b Service.dlclose = refl
service_there s b Service.dlerror = refl
service_there s b Service.tls_get_addr =
    either_there (a0 b.registers % 8 == 0) (Due.copy Copy.of_pair (a0 b.registers) []) (Due.serve (call.stops (ends.Misaligned b.registers.pc (a0 b.registers))) (back b)) refl refl
service_there s b Service.next_function = frames_there b b.frames
service_there s b Service.exit = refl

pc_there : (s : State) (b : HartState) (found : Option Service) → is_there (elim found [ Some service ↦ at_service s b service | None ↦ Due.instruction ]) ≡ true
pc_there s b (Some service) = service_there s b service
pc_there s b None = refl

phase_there : (s : State) (b : HartState) (phase : Phase) → is_there (by_phase s b phase) ≡ true
unfolding by_phase
phase_there s b Phase.at_pc = pc_there s b (service_at b.registers.pc)
phase_there s b (Phase.naming n bytes) = refl
phase_there s b (Phase.versioning name bytes) = refl
phase_there s b (Phase.named n name version) = refl
phase_there s b (Phase.waiting n name version for) =
    either_there (is_still s for) (Due.wait for) (Due.serve (call_of s b.registers n name version) (back b)) refl refl
phase_there s b (Phase.pairing bytes) =
    either_there (nat_lt (length bytes) 16) (Due.copy Copy.of_pair (a0 b.registers) bytes) (Due.serve (call.locates (number_in bytes 0) (number_in bytes 8)) (back b)) refl refl
phase_there s b (Phase.writing bytes) =
    either_there (nat_lt (length bytes) (write_count b.registers)) (Due.copy (Copy.of_text (write_count b.registers)) (a1 b.registers) bytes) (Due.serve (call.writes bytes) (behind b)) refl refl
phase_there s b (Phase.storing text stored word more) = refl

within_there : (s : State) (b : HartState) → is_there (within_fuel b (by_phase s b b.phase)) ≡ true
within_there s b = either_there (nat_lt b.turns b.fuel) (by_phase s b b.phase) Due.fuel_out (phase_there s b b.phase) refl

resolving_there : (s : State) (b : HartState) (r : Resolving) → is_there (by_resolving s b r) ≡ true
resolving_there s b Resolving.idle = within_there s b
resolving_there s b (Resolving.to_exchange o) = refl
resolving_there s b (Resolving.to_finish o found) = refl
resolving_there s b (Resolving.to_settle o found) = within_there s b

abbrev unless_over : Option HartEnd → Due → Due
unless_over over d = elim over [ Some reason ↦ Due.nothing | None ↦ d ]

pub never_nothing : (s : State) (b : HartState) → b.«end» ≡ None → Due.nothing ≡ due s b → ⊥
unfolding due
never_nothing s b runs is =
    true≢false (sym (resolving_there s b b.resolving) ∙ sym (ap (λ (over : Option HartEnd). is_there (unless_over over (by_resolving s b b.resolving))) runs) ∙ sym (ap is_there is))

-- functions have run that the linker had it run
pub done_asks : (purpose : Purpose) (object : ℕ) (rest : List Function) (below : List Frame) → needs_linker (done purpose object rest below) ≡ true
done_asks (Purpose.of_startup registers) object rest below = refl
done_asks (Purpose.of_opening to root) object rest below = refl
done_asks (Purpose.of_closing to set) object rest below = refl
done_asks (Purpose.of_end code) object rest below = refl
