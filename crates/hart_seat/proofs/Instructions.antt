-- Whether a hart's next turn is an instruction.
use Rattle.std.proofs.Common.{◌≡◌, ◌≢◌, ℕ, ◌+◌, ◌-◌, ◌<◌, ◌≤◌, Bool, true, false, Option, Some, None, refl, sym, ap, ◌∙◌, true≢false, arith}
use Rattle.std.specs.Prelude.{nat_lt, if◌then◌else◌, length}
use Rattle.std.proofs.lemmas.Bool.{ltb-false, ltb-true}
use Rattle.history_event.specs.declared.hart_end.HartEnd.{HartEnd}
use Rattle.history_state.specs.State.{State}
use Rattle.rv_hart.specs.Registers.{Registers}
use Rattle.history_calls.specs.Call.{locates, writes}
use Rattle.hart_moves.specs.Copying.{Copy, number_in}
use Rattle.hart_moves.specs.Due.{Due, at_service, back, behind, by_phase, call_of, due, write_count}
use Rattle.hart_moves.specs.Harts.{HartState, Phase, Resolving}
use Rattle.hart_moves.specs.Registers.{a0, a1}
use Rattle.hart_moves.specs.Services.{Service, service_at}
use Rattle.hart_moves.specs.Waiting.{is_still}
use Rattle.hart_seat.specs.HartParts.Turns.{is_at_pc, passes_nothing}

abbrev is_instruction : Due → Bool
is_instruction d = elim d [ Due.instruction ↦ true | _ ↦ false ]

neither : (t : Bool) (d e : Due) → is_instruction d ≡ false → is_instruction e ≡ false → is_instruction (if t then d else e) ≡ false
neither true d e one other = one
neither false d e one other = other

-- what it passes to the linker comes first
passes : (s : State) (b : HartState) (phase : Phase) → passes_nothing phase ≡ false → is_instruction (by_phase s b phase) ≡ false
unfolding by_phase
passes s b Phase.at_pc is = absurd (true≢false is)
passes s b (Phase.naming n bytes) is = refl
passes s b (Phase.versioning name bytes) is = refl
passes s b (Phase.named n name version) is = refl
passes s b (Phase.waiting n name version for) is =
    neither (is_still s for) (Due.wait for) (Due.serve (call_of s b.registers n name version) (back b)) refl refl
passes s b (Phase.pairing bytes) is =
    neither (nat_lt (length bytes) 16) (Due.copy Copy.of_pair (a0 b.registers) bytes) (Due.serve (locates (number_in bytes 0) (number_in bytes 8)) (back b)) refl refl
passes s b (Phase.writing bytes) is =
    neither (nat_lt (length bytes) (write_count b.registers)) (Due.copy (Copy.of_text (write_count b.registers)) (a1 b.registers) bytes)
    (Due.serve (writes bytes) (behind b)) refl refl
passes s b (Phase.storing text stored word more) is = refl

-- whether there is fuel
within : (t fuel : ℕ) → t < fuel → nat_lt t fuel ≡ true
within t fuel lt = by (nat_lt t fuel) refl
  where
    by : (is : Bool) → nat_lt t fuel ≡ is → nat_lt t fuel ≡ true
    by true e = e
    by false e = absurd (omega (arith, lt, ltb-false t fuel e))

at_no_service : (s : State) (b : HartState) → service_at b.registers.pc ≡ None → by_phase s b Phase.at_pc ≡ Due.instruction
unfolding by_phase
at_no_service s b none = ap (λ (o : Option Service). elim o [ Some service ↦ at_service s b service | None ↦ Due.instruction ]) none

module _ (s : State) (b : HartState) (r : Registers) (turns : ℕ) where
  abbrev at : Option HartEnd → Resolving → Phase → HartState
  at over place phase = record b { registers = r; turns = turns; «end» = over; resolving = place; phase = phase }

  fuelled_at : (x : HartState) → nat_lt turns b.fuel ≡ true → service_at x.registers.pc ≡ None
      → (if nat_lt turns b.fuel then by_phase s x Phase.at_pc else Due.fuel_out) ≡ Due.instruction
  fuelled_at x lt none = ap (λ (t : Bool). if t then by_phase s x Phase.at_pc else Due.fuel_out) lt ∙ at_no_service s x none

  instructs_at : (over : Option HartEnd) (place : Resolving) (phase : Phase) → is_at_pc (at over place phase) ≡ true → nat_lt turns b.fuel ≡ true
      → service_at r.pc ≡ None → due s (at over place phase) ≡ Due.instruction
  unfolding due
  instructs_at None Resolving.idle Phase.at_pc is lt none = fuelled_at (at None Resolving.idle Phase.at_pc) lt none
  instructs_at None (Resolving.to_settle o found) Phase.at_pc is lt none = fuelled_at (at None (Resolving.to_settle o found) Phase.at_pc) lt none
  instructs_at (Some reason) place phase is lt none = absurd (true≢false (sym is))
  instructs_at None (Resolving.to_exchange o) phase is lt none = absurd (true≢false (sym is))
  instructs_at None (Resolving.to_finish o found) phase is lt none = absurd (true≢false (sym is))
  instructs_at None place phase is lt none = absurd (true≢false (sym is))

  -- where it may be one, the fuel is out
  fuel_out_at : (x : HartState) (phase : Phase) → (passes_nothing phase ≡ true → b.fuel ≤ turns)
      → is_instruction (if nat_lt turns b.fuel then by_phase s x phase else Due.fuel_out) ≡ false
  fuel_out_at x phase out = by (nat_lt turns b.fuel) (passes_nothing phase) refl refl
    where
      by : (t p : Bool) → nat_lt turns b.fuel ≡ t → passes_nothing phase ≡ p → is_instruction (if t then by_phase s x phase else Due.fuel_out) ≡ false
      by false p lt is = refl
      by true false lt is = passes s x phase is
      by true true lt is = absurd (omega (arith, ltb-true turns b.fuel lt, out is))

  no_more_at : (over : Option HartEnd) (place : Resolving) (phase : Phase) → (is_at_pc (at over place phase) ≡ true → b.fuel ≤ turns)
      → is_instruction (due s (at over place phase)) ≡ false
  unfolding due
  no_more_at (Some reason) place phase out = refl
  no_more_at None (Resolving.to_exchange o) phase out = refl
  no_more_at None (Resolving.to_finish o found) phase out = refl
  no_more_at None Resolving.idle phase out = fuel_out_at (at None Resolving.idle phase) phase out
  no_more_at None (Resolving.to_settle o found) phase out = fuel_out_at (at None (Resolving.to_settle o found) phase) phase out

-- each of so many
pub instructs : (s : State) (b : HartState) (r : Registers) (k : ℕ) → is_at_pc b ≡ true → k < b.fuel - b.turns → service_at r.pc ≡ None
    → due s (record b { registers = r; turns = b.turns + k }) ≡ Due.instruction
instructs s b r k is lt none =
    instructs_at s b r (b.turns + k) b.«end» b.resolving b.phase is (within (b.turns + k) b.fuel (omega (arith, lt))) none

pub no_more : (s : State) (b : HartState) (r : Registers) (turns : ℕ) → (is_at_pc b ≡ true → b.fuel ≤ turns)
    → due s (record b { registers = r; turns = turns }) ≢ Due.instruction
no_more s b r turns out = λ is. true≢false (sym (ap is_instruction is) ∙ no_more_at s b r turns b.«end» b.resolving b.phase out)
