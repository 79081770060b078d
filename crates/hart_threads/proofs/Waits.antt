-- A hart whose opening waits asks by a name, whatever the linker's state; and a hart that runs has a next turn.
use Rattle.std.proofs.Common.{◌≡◌, ℕ, Bool, true, false, cond, eq-eqb, nat_lt, List, [], ◌∷◌, length, Option, Some, None, refl, sym, ap, ◌∙◌}
use Rattle.std.specs.Prelude.{◌%◌, ◌==◌}
use Rattle.std.proofs.lemmas.Bool.{false≢true}
use Rattle.ld_base.specs.declared.fault.Shown.{Shown}
use Rattle.ld_base.specs.declared.fault.Shown.TheVariants as shown
use Rattle.ld_base.specs.declared.linking.Loaded.{Loaded}
use Rattle.ld_base.specs.declared.linking.State.{State as ObjectState}
use Rattle.ld_base.specs.declared.linking.State.TheVariants as states
use Rattle.history_event.specs.declared.handed.Function.{Function}
use Rattle.history_event.specs.declared.hart_end.HartEnd.{HartEnd}
use Rattle.history_event.specs.declared.hart_end.HartEnd.TheVariants as ends
use Rattle.history_state.specs.Exits as example
use Rattle.history_state.specs.State.{State, empty_namespace, empty_state}
use Rattle.history_calls.specs.Call as call
use Rattle.hart_moves.specs.Copying.{Copy, number_in}
use Rattle.hart_moves.specs.Due.{Due, all_done, at_service, back, behind, by_frames, by_name, by_phase, by_queue, by_resolving, call_of, done, due, write_count}
use Rattle.hart_moves.specs.Harts.{Frame, HartState, Naming, Phase, Purpose, Resolving}
use Rattle.hart_moves.specs.Registers.{a0, a1, a2, ra}
use Rattle.hart_moves.specs.Services.{Service, service_at}
use Rattle.hart_moves.specs.Waiting.{holds, is_still}
use Rattle.hart_seat.specs.HartParts.Views.{back_of, call_in, due_in}
use Rattle.hart_seat.specs.declared.hart_parts.due.Call.{Call as code_call}
use Rattle.hart_seat.specs.declared.hart_parts.due.Due.TheVariants as code_due
use Rattle.hart_trails.specs.Trails.{is_located}
use Rattle.hart_linker.specs.Serving.{is_asking}

-- ---- turns that aren't a wait

abbrev is_wait : Due → Bool
is_wait d = elim d [ Due.wait for ↦ true | _ ↦ false ]

-- a turn that comes, and is no wait
abbrev is_calm : Due → Bool
is_calm d = elim d [ Due.nothing ↦ false | Due.wait for ↦ false | _ ↦ true ]

abbrev IsCalm : Due → Type 0
IsCalm d = is_calm d ≡ true

either : (t : Bool) (x y : Due) → IsCalm x → IsCalm y → IsCalm (cond t x y)
either true x y a b = a
either false x y a b = b

name_calm : (s : State) (b : HartState) (n : Naming) → IsCalm (by_name s b n)
name_calm s b Naming.dlopen =
    either (a0 b.registers == 0) (Due.serve (call.dlopen s (ra b.registers) None (a1 b.registers)) (back b)) (Due.copy (Copy.of_name Naming.dlopen) (a0 b.registers) []) refl refl
name_calm s b Naming.dlmopen =
    either (a1 b.registers == 0) (Due.serve (call.dlmopen (a0 b.registers) None (a2 b.registers)) (back b)) (Due.copy (Copy.of_name Naming.dlmopen) (a1 b.registers) []) refl refl
name_calm s b Naming.dlsym = refl
name_calm s b Naming.dlvsym = refl

done_calm : (purpose : Purpose) (object : ℕ) (rest : List Function) (below : List Frame) → IsCalm (done purpose object rest below)
done_calm (Purpose.of_startup registers) object rest below = refl
done_calm (Purpose.of_opening to root) object rest below = refl
done_calm (Purpose.of_closing to set) object rest below = refl
done_calm (Purpose.of_end code) object rest below = refl

all_calm : (b : HartState) (purpose : Purpose) (below : List Frame) → IsCalm (all_done b purpose below)
all_calm b (Purpose.of_startup registers) below = refl
all_calm b (Purpose.of_opening to root) below = refl
all_calm b (Purpose.of_closing to set) below = refl
all_calm b (Purpose.of_end code) below = refl

addresses_calm : (purpose : Purpose) (f : Function) (rest : List Function) (below : List Frame) (addresses : List ℕ)
    → IsCalm (elim addresses [ [] ↦ done purpose f.object rest below | function ∷ more ↦ Due.enter function (record { purpose = purpose; queue = record f { addresses = more } ∷ rest } ∷ below) ])
addresses_calm purpose f rest below [] = done_calm purpose f.object rest below
addresses_calm purpose f rest below (function ∷ more) = refl

queue_calm : (b : HartState) (purpose : Purpose) (queue : List Function) (below : List Frame) → IsCalm (by_queue b purpose queue below)
queue_calm b purpose [] below = all_calm b purpose below
queue_calm b purpose (f ∷ rest) below = addresses_calm purpose f rest below f.addresses

frames_calm : (b : HartState) (frames : List Frame) → IsCalm (by_frames b frames)
frames_calm b [] = refl
frames_calm b (frame ∷ below) = queue_calm b frame.purpose frame.queue below

service_calm : (s : State) (b : HartState) (service : Service) → IsCalm (at_service s b service)
service_calm s b Service.resolve = refl
service_calm s b (Service.of_name n) = name_calm s b n
service_calm s b Service.dlclose = refl
service_calm s b Service.dlerror = refl
service_calm s b Service.tls_get_addr =
    either (a0 b.registers % 8 == 0) (Due.copy Copy.of_pair (a0 b.registers) []) (Due.serve (call.stops (ends.Misaligned b.registers.pc (a0 b.registers))) (back b)) refl refl
service_calm s b Service.next_function = frames_calm b b.frames
service_calm s b Service.exit = refl

pc_calm : (s : State) (b : HartState) (found : Option Service) → IsCalm (elim found [ Some service ↦ at_service s b service | None ↦ Due.instruction ])
pc_calm s b (Some service) = service_calm s b service
pc_calm s b None = refl

-- ---- what a wait is

-- it asks the linker, and not for thread-local storage
abbrev pub AsksOther : Due → Type 0
AsksOther d = (is_asking d ≡ true) × (is_located d ≡ false)

no_wait : (d : Due) → IsCalm d → is_wait d ≡ true → ⊥
no_wait (Due.wait for) calm is = false≢true calm
no_wait _ calm is = false≢true is

name_asks : (s : State) (b : HartState) (n : Naming) (name version : List ℕ) → AsksOther (Due.serve (call_of s b.registers n name version) (back b))
unfolding call_of
name_asks s b Naming.dlopen name version = (refl, refl)
name_asks s b Naming.dlmopen name version = (refl, refl)
name_asks s b Naming.dlsym name version = (refl, refl)
name_asks s b Naming.dlvsym name version = (refl, refl)

waits_or_asks : (t : Bool) (for : Shown) (d : Due) → AsksOther d → AsksOther (cond t (Due.wait for) d)
waits_or_asks true for d x = (refl, refl)
waits_or_asks false for d x = x

phase_asks : (s t : State) (b : HartState) (p : Phase) → is_wait (by_phase t b p) ≡ true → AsksOther (by_phase s b p)
unfolding by_phase
phase_asks s t b Phase.at_pc w = absurd (no_wait (elim (service_at b.registers.pc) [ Some service ↦ at_service t b service | None ↦ Due.instruction ]) (pc_calm t b (service_at b.registers.pc)) w)
phase_asks s t b (Phase.naming n bytes) w = absurd (false≢true w)
phase_asks s t b (Phase.versioning name bytes) w = absurd (false≢true w)
phase_asks s t b (Phase.named n name version) w = absurd (false≢true w)
phase_asks s t b (Phase.waiting n name version for) w = waits_or_asks (is_still s for) for (Due.serve (call_of s b.registers n name version) (back b)) (name_asks s b n name version)
phase_asks s t b (Phase.pairing bytes) w =
    absurd (no_wait (cond (nat_lt (length bytes) 16) (Due.copy Copy.of_pair (a0 b.registers) bytes) (Due.serve (call.locates (number_in bytes 0) (number_in bytes 8)) (back b)))
    (either (nat_lt (length bytes) 16) (Due.copy Copy.of_pair (a0 b.registers) bytes) (Due.serve (call.locates (number_in bytes 0) (number_in bytes 8)) (back b)) refl refl) w)
phase_asks s t b (Phase.writing bytes) w =
    absurd (no_wait (cond (nat_lt (length bytes) (write_count b.registers)) (Due.copy (Copy.of_text (write_count b.registers)) (a1 b.registers) bytes) (Due.serve (call.writes bytes) (behind b)))
    (either (nat_lt (length bytes) (write_count b.registers)) (Due.copy (Copy.of_text (write_count b.registers)) (a1 b.registers) bytes) (Due.serve (call.writes bytes) (behind b)) refl refl) w)
phase_asks s t b (Phase.storing text stored word more) w = absurd (false≢true w)

-- a hart that waits in one state asks by a name in each
waits_in_each : (s t : State) (b : HartState) (for : Shown) → due t b ≡ Due.wait for → AsksOther (due s b)
unfolding due
waits_in_each s t b for is = by_end b.«end» b.resolving (ap is_wait is)
  where
    within : (q : Bool) → is_wait (cond q (by_phase t b b.phase) Due.fuel_out) ≡ true → AsksOther (cond q (by_phase s b b.phase) Due.fuel_out)
    within true w = phase_asks s t b b.phase w
    within false w = absurd (false≢true w)

    by_end : (e : Option HartEnd) (r : Resolving) → is_wait (elim e [ Some reason ↦ Due.nothing | None ↦ by_resolving t b r ]) ≡ true
        → AsksOther (elim e [ Some reason ↦ Due.nothing | None ↦ by_resolving s b r ])
    by_end (Some reason) r w = absurd (false≢true w)
    by_end None Resolving.idle w = within (nat_lt b.turns b.fuel) w
    by_end None (Resolving.to_exchange o) w = absurd (false≢true w)
    by_end None (Resolving.to_finish o found) w = absurd (false≢true w)
    by_end None (Resolving.to_settle o found) w = within (nat_lt b.turns b.fuel) w

-- ---- states in which an object is started, or closed

one_object : ℕ → ObjectState → State
one_object serial state = record empty_state {
  namespaces = record (empty_namespace 0) {
    objects = record { serial = serial; path = []; object = example.program; table = example.table; base = 0; state = state; «module» = None; deep = false; found = [] } ∷ [];
  } ∷ [];
}

found_one : (serial : ℕ) (o : Loaded) (p : Loaded → Bool) (t : Bool) → t ≡ true → holds p (cond t (Some o) None) ≡ p o
found_one serial o p true e = refl
found_one serial o p false e = absurd (false≢true e)

starts_there : (serial : ℕ) → is_still (one_object serial (states.Initialising 0)) (shown.Initialising serial) ≡ true
unfolding one_object
starts_there serial = found_one serial _ _ (serial == serial) (eq-eqb serial serial refl)

closes_there : (serial : ℕ) → is_still (one_object serial (states.Dying 0)) (shown.Closing serial) ≡ true
unfolding one_object
closes_there serial = found_one serial _ _ (serial == serial) (eq-eqb serial serial refl)

-- ---- by what the code says

module _ (b : HartState) (asked : code_call) where
  still_asks : (for : Shown) (t : State) → is_still t for ≡ true → ((s : State) → due_in s b (code_due.Wait for asked) ≡ due s b) → (s : State) → AsksOther (due s b)
  still_asks for t still is s =
      waits_in_each s t b for (sym (is t) ∙ ap (λ (q : Bool). cond q (Due.wait for) (Due.serve (call_in t asked) (back_of b asked))) still)

  pub starting_asks : (serial : ℕ) → ((s : State) → due_in s b (code_due.Wait (shown.Initialising serial) asked) ≡ due s b) → (s : State) → AsksOther (due s b)
  starting_asks serial = still_asks (shown.Initialising serial) (one_object serial (states.Initialising 0)) (starts_there serial)

  pub closing_asks : (serial : ℕ) → ((s : State) → due_in s b (code_due.Wait (shown.Closing serial) asked) ≡ due s b) → (s : State) → AsksOther (due s b)
  closing_asks serial = still_asks (shown.Closing serial) (one_object serial (states.Dying 0)) (closes_there serial)

-- ---- a hart that runs has a next turn

abbrev is_nothing : Due → Bool
is_nothing d = elim d [ Due.nothing ↦ true | _ ↦ false ]

calm_comes : (d : Due) → IsCalm d → is_nothing d ≡ false
calm_comes Due.nothing calm = absurd (false≢true calm)
calm_comes _ calm = refl

one_comes : (t : Bool) (x y : Due) → is_nothing x ≡ false → is_nothing y ≡ false → is_nothing (cond t x y) ≡ false
one_comes true x y a b = a
one_comes false x y a b = b

phase_comes : (s : State) (b : HartState) (p : Phase) → is_nothing (by_phase s b p) ≡ false
unfolding by_phase
phase_comes s b Phase.at_pc =
    calm_comes (elim (service_at b.registers.pc) [ Some service ↦ at_service s b service | None ↦ Due.instruction ]) (pc_calm s b (service_at b.registers.pc))
phase_comes s b (Phase.naming n bytes) = refl
phase_comes s b (Phase.versioning name bytes) = refl
phase_comes s b (Phase.named n name version) = refl
phase_comes s b (Phase.waiting n name version for) =
    one_comes (is_still s for) (Due.wait for) (Due.serve (call_of s b.registers n name version) (back b)) refl refl
phase_comes s b (Phase.pairing bytes) =
    one_comes (nat_lt (length bytes) 16) (Due.copy Copy.of_pair (a0 b.registers) bytes) (Due.serve (call.locates (number_in bytes 0) (number_in bytes 8)) (back b)) refl refl
phase_comes s b (Phase.writing bytes) =
    one_comes (nat_lt (length bytes) (write_count b.registers)) (Due.copy (Copy.of_text (write_count b.registers)) (a1 b.registers) bytes) (Due.serve (call.writes bytes) (behind b)) refl refl
phase_comes s b (Phase.storing text stored word more) = refl

pub has_next : (s : State) (b : HartState) → b.«end» ≡ None → due s b ≡ Due.nothing → ⊥
unfolding due
has_next s b runs is =
    false≢true (sym (comes b.resolving) ∙ ap is_nothing (sym (ap (λ (e : Option HartEnd). elim e [ Some reason ↦ Due.nothing | None ↦ by_resolving s b b.resolving ]) runs) ∙ is))
  where
    comes : (r : Resolving) → is_nothing (by_resolving s b r) ≡ false
    comes Resolving.idle = one_comes (nat_lt b.turns b.fuel) (by_phase s b b.phase) Due.fuel_out (phase_comes s b b.phase) refl
    comes (Resolving.to_exchange o) = refl
    comes (Resolving.to_finish o found) = refl
    comes (Resolving.to_settle o found) = one_comes (nat_lt b.turns b.fuel) (by_phase s b b.phase) Due.fuel_out (phase_comes s b b.phase) refl
