-- Where a copied doubleword leaves a hart whose next turn is to copy one.
use Rattle.std.proofs.Common.{◌≡◌, ℕ, ◌%◌, Bool, true, false, cond, eqb, ltb, List, [], ◌∷◌, length, Option, Some, None, refl, sym, ap, ◌∙◌}
use Rattle.history_event.specs.declared.handed.Function.{Function}
use Rattle.history_event.specs.declared.hart_end.HartEnd.{HartEnd}
use Rattle.history_event.specs.declared.hart_end.HartEnd.TheVariants as ends
use Rattle.history_state.specs.State.{State}
use Rattle.history_calls.specs.Call as call
use Rattle.hart_moves.specs.Copying.{Copy, number_in}
use Rattle.hart_moves.specs.Due.{Due, all_done, at_service, back, behind, by_frames, by_name, by_phase, by_queue, by_resolving, call_of, done, due, within_fuel, write_count}
use Rattle.hart_moves.specs.Harts.{Frame, HartState, Naming, Phase, Purpose, Resolving}
use Rattle.hart_moves.specs.Registers.{a0, a1, a2, ra}
use Rattle.hart_moves.specs.Services.{Service, service_at}
use Rattle.hart_moves.specs.Waiting.{is_still}
use Rattle.hart_seat.specs.Copied.{begun, begun_at, begun_by, copied_phase, with_word}

abbrev is_copy : Due → Bool
is_copy (Due.copy copy start bytes) = true
is_copy Due.nothing = false
is_copy (Due.exchange o) = false
is_copy (Due.finish o found) = false
is_copy Due.fuel_out = false
is_copy Due.instruction = false
is_copy (Due.serve call back) = false
is_copy (Due.wait for) = false
is_copy (Due.store text stored word more) = false
is_copy (Due.enter function frames) = false
is_copy (Due.complete purpose object rest below) = false
is_copy (Due.finalise code object) = false

-- where the doubleword of such a turn leaves its hart
abbrev left_by : Due → ℕ → Phase
left_by (Due.copy copy start bytes) word = with_word copy start bytes word
left_by Due.nothing word = Phase.at_pc
left_by (Due.exchange o) word = Phase.at_pc
left_by (Due.finish o found) word = Phase.at_pc
left_by Due.fuel_out word = Phase.at_pc
left_by Due.instruction word = Phase.at_pc
left_by (Due.serve call back) word = Phase.at_pc
left_by (Due.wait for) word = Phase.at_pc
left_by (Due.store text stored next more) word = Phase.at_pc
left_by (Due.enter function frames) word = Phase.at_pc
left_by (Due.complete purpose object rest below) word = Phase.at_pc
left_by (Due.finalise code object) word = Phase.at_pc

abbrev Leaves : Due → ℕ → Phase → Type 0
Leaves d word p = is_copy d ≡ true → left_by d word ≡ p

no_copy : (d : Due) (word : ℕ) (p : Phase) → is_copy d ≡ false → Leaves d word p
no_copy d word p not_so copies = absurd (let e : false ≡ true = sym not_so ∙ copies in cc)

either : (t : Bool) (x y : Due) (word : ℕ) (p : Phase) → Leaves x word p → Leaves y word p → Leaves (cond t x y) word p
either true x y word p a b = a
either false x y word p a b = b

-- ---- functions are no copies

done_no : (purpose : Purpose) (object : ℕ) (rest : List Function) (below : List Frame) → is_copy (done purpose object rest below) ≡ false
done_no (Purpose.of_startup registers) object rest below = refl
done_no (Purpose.of_opening to root) object rest below = refl
done_no (Purpose.of_closing to set) object rest below = refl
done_no (Purpose.of_end code) object rest below = refl

all_no : (b : HartState) (purpose : Purpose) (below : List Frame) → is_copy (all_done b purpose below) ≡ false
all_no b (Purpose.of_startup registers) below = refl
all_no b (Purpose.of_opening to root) below = refl
all_no b (Purpose.of_closing to set) below = refl
all_no b (Purpose.of_end code) below = refl

addresses_no : (purpose : Purpose) (f : Function) (rest : List Function) (below : List Frame) (addresses : List ℕ)
    → is_copy (elim addresses [ [] ↦ done purpose f.object rest below | function ∷ more ↦ Due.enter function (record { purpose = purpose; queue = record f { addresses = more } ∷ rest } ∷ below) ]) ≡ false
addresses_no purpose f rest below [] = done_no purpose f.object rest below
addresses_no purpose f rest below (function ∷ more) = refl

queue_no : (b : HartState) (purpose : Purpose) (queue : List Function) (below : List Frame) → is_copy (by_queue b purpose queue below) ≡ false
queue_no b purpose [] below = all_no b purpose below
queue_no b purpose (f ∷ rest) below = addresses_no purpose f rest below f.addresses

frames_no : (b : HartState) (frames : List Frame) → is_copy (by_frames b frames) ≡ false
frames_no b [] = refl
frames_no b (frame ∷ below) = queue_no b frame.purpose frame.queue below

-- ---- by the pc

by_name_leaves : (s : State) (b : HartState) (n : Naming) (word : ℕ) → Leaves (by_name s b n) word (copied_phase b.registers (Phase.naming n []) word)
by_name_leaves s b Naming.dlopen word =
    let p : Phase = copied_phase b.registers (Phase.naming Naming.dlopen []) word in
    let asked : Due = Due.serve (call.dlopen s (ra b.registers) None (a1 b.registers)) (back b) in
    either (eqb (a0 b.registers) 0) asked (Due.copy (Copy.of_name Naming.dlopen) (a0 b.registers) []) word p (no_copy asked word p refl) (λ _. refl)
by_name_leaves s b Naming.dlmopen word =
    let p : Phase = copied_phase b.registers (Phase.naming Naming.dlmopen []) word in
    let asked : Due = Due.serve (call.dlmopen (a0 b.registers) None (a2 b.registers)) (back b) in
    either (eqb (a1 b.registers) 0) asked (Due.copy (Copy.of_name Naming.dlmopen) (a1 b.registers) []) word p (no_copy asked word p refl) (λ _. refl)
by_name_leaves s b Naming.dlsym word = λ _. refl
by_name_leaves s b Naming.dlvsym word = λ _. refl

service_leaves : (s : State) (b : HartState) (service : Service) (word : ℕ) → Leaves (at_service s b service) word (copied_phase b.registers (begun_by service) word)
service_leaves s b Service.resolve word = λ copies. absurd cc
service_leaves s b (Service.of_name n) word = by_name_leaves s b n word
service_leaves s b Service.dlclose word = λ copies. absurd cc
service_leaves s b Service.dlerror word = λ copies. absurd cc
service_leaves s b Service.tls_get_addr word =
    let p : Phase = copied_phase b.registers (Phase.pairing []) word in
    let ends_so : Due = Due.serve (call.stops (ends.Misaligned b.registers.pc (a0 b.registers))) (back b) in
    either (eqb (a0 b.registers % 8) 0) (Due.copy Copy.of_pair (a0 b.registers) []) ends_so word p (λ _. refl) (no_copy ends_so word p refl)
service_leaves s b Service.next_function word = no_copy (by_frames b b.frames) word Phase.at_pc (frames_no b b.frames)
service_leaves s b Service.exit word = λ copies. absurd cc

pc_leaves : (s : State) (b : HartState) (found : Option Service) (word : ℕ)
    → Leaves (elim found [ Some service ↦ at_service s b service | None ↦ Due.instruction ]) word (copied_phase b.registers (begun_at found) word)
pc_leaves s b (Some service) word = service_leaves s b service word
pc_leaves s b None word = λ copies. absurd cc

-- ---- by what the hart has

phase_leaves : (s : State) (b : HartState) (phase : Phase) (word : ℕ) → Leaves (by_phase s b phase) word (copied_phase b.registers (begun b.registers.pc phase) word)
unfolding by_phase
phase_leaves s b Phase.at_pc word = pc_leaves s b (service_at b.registers.pc) word
phase_leaves s b (Phase.naming n bytes) word = λ _. refl
phase_leaves s b (Phase.versioning name bytes) word = λ _. refl
phase_leaves s b (Phase.named n name version) word = λ copies. absurd cc
phase_leaves s b (Phase.waiting n name version for) word =
    let p : Phase = Phase.waiting n name version for in
    let asked : Due = Due.serve (call_of s b.registers n name version) (back b) in
    either (is_still s for) (Due.wait for) asked word p (no_copy (Due.wait for) word p refl) (no_copy asked word p refl)
phase_leaves s b (Phase.pairing bytes) word =
    let p : Phase = copied_phase b.registers (Phase.pairing bytes) word in
    let asked : Due = Due.serve (call.locates (number_in bytes 0) (number_in bytes 8)) (back b) in
    either (ltb (length bytes) 16) (Due.copy Copy.of_pair (a0 b.registers) bytes) asked word p (λ _. refl) (no_copy asked word p refl)
phase_leaves s b (Phase.writing bytes) word =
    let p : Phase = copied_phase b.registers (Phase.writing bytes) word in
    let asked : Due = Due.serve (call.writes bytes) (behind b) in
    let more : Due = Due.copy (Copy.of_text (write_count b.registers)) (a1 b.registers) bytes in
    either (ltb (length bytes) (write_count b.registers)) more asked word p (λ _. refl) (no_copy asked word p refl)
phase_leaves s b (Phase.storing text stored next more) word = λ copies. absurd cc

within_leaves : (s : State) (b : HartState) (word : ℕ) → Leaves (within_fuel b (by_phase s b b.phase)) word (copied_phase b.registers (begun b.registers.pc b.phase) word)
within_leaves s b word =
    let p : Phase = copied_phase b.registers (begun b.registers.pc b.phase) word in
    either (ltb b.turns b.fuel) (by_phase s b b.phase) Due.fuel_out word p (phase_leaves s b b.phase word) (no_copy Due.fuel_out word p refl)

resolving_leaves : (s : State) (b : HartState) (r : Resolving) (word : ℕ) → Leaves (by_resolving s b r) word (copied_phase b.registers (begun b.registers.pc b.phase) word)
resolving_leaves s b Resolving.idle word = within_leaves s b word
resolving_leaves s b (Resolving.to_exchange o) word = λ copies. absurd cc
resolving_leaves s b (Resolving.to_finish o found) word = λ copies. absurd cc
resolving_leaves s b (Resolving.to_settle o found) word = within_leaves s b word

due_leaves : (s : State) (b : HartState) (over : Option HartEnd) (word : ℕ)
    → Leaves (elim over [ Some reason ↦ Due.nothing | None ↦ by_resolving s b b.resolving ]) word (copied_phase b.registers (begun b.registers.pc b.phase) word)
due_leaves s b (Some reason) word = λ copies. absurd cc
due_leaves s b None word = resolving_leaves s b b.resolving word

pub copy_leaves : (s : State) (b : HartState) (copy : Copy) (start : ℕ) (bytes : List ℕ) (word : ℕ) → due s b ≡ Due.copy copy start bytes
    → copied_phase b.registers (begun b.registers.pc b.phase) word ≡ with_word copy start bytes word
unfolding due
copy_leaves s b copy start bytes word is =
    sym (due_leaves s b b.«end» word (ap is_copy is)) ∙ ap (λ (d : Due). left_by d word) is
