-- The turn of a hart that waits.
use Rattle.std.proofs.Common.{◌≡◌, ℕ, Bool, true, false, cond, List, Option, None, inr, refl, sym, ap, subst, ◌∙◌, append-nil}
use Rattle.std.specs.Prelude.{◌||◌}
use Rattle.std.proofs.lemmas.Bool.{true≢false}
use Rattle.ld_base.specs.declared.fault.Shown.{Shown}
use Rattle.ld_base.specs.declared.linking.File.{File}
use Rattle.history_event.specs.declared.event.Event.{Event}
use Rattle.history_state.specs.After.{after}
use Rattle.history_state.specs.Setting.{Setting}
use Rattle.history_state.specs.State.{State}
use Rattle.history_calls.specs.Call.{Call}
use Rattle.link_state.specs.Table.{LinkTable}
use Rattle.rv_hart.specs.declared.doubleword.Doubleword.{Doubleword}
use Rattle.hart_moves.specs.Due.{Due, Return, due}
use Rattle.hart_moves.specs.Harts.{HartState}
use Rattle.hart_moves.specs.Moves.{Did, MovesAs, freed, spent}
use Rattle.hart_moves.specs.Waiting.{awaiting, is_still}
use Rattle.hart_seat.specs.HartParts.Views.{back_of, call_in, due_in}
use Rattle.hart_seat.specs.declared.hart_parts.due.Call.{Call as code_call}
use Rattle.hart_seat.specs.declared.hart_parts.due.Due.TheVariants as code
use Rattle.world_answers.specs.Answers.{is_service, is_wait}
use Rattle.world_answers.specs.GuestsPart.Asking.{may_run_by, may_run_functions}
use Rattle.world_answers.specs.GuestsPart.Next.{TurnTells}
use Rattle.world_answers.specs.GuestsPart.Taking.{HartTurnsOver, HasCalled, IsOutcome, MakesCall}
use Rattle.world_answers.specs.declared.guests.guest_worlds.turn.Turn.{Turn}
use Rattle.world_answers.specs.declared.guests.guest_worlds.turn.Turn.TheVariants as turn

-- ---- one that waits no longer makes its call

left_of : (one other : Bool) → one || other ≡ true → other ≡ false → one ≡ true
left_of true other either none = refl
left_of false other either none = sym none ∙ either

pub makes_call : (count : ℕ) (past : List Event) (h : ℕ) (b : HartState) → HasCalled count past h b → is_wait (due (after past) b) ≡ false → MakesCall count past h b
makes_call count past h b has none = has.makes (left_of (is_service (due (after past) b)) (is_wait (due (after past) b)) has.called none)

-- ---- one that waits asks nothing

pub wait_is_no_call : (d : Due) (for : Shown) → d ≡ Due.wait for → is_service d ≡ false
wait_is_no_call d for is = ap is_service is

pub waits_over : (table : LinkTable) (folders : List (List ℕ)) (files : Option (List File)) (words : List Doubleword) (h : ℕ) (b c : HartState) (for : Shown)
    → due (after table.events) b ≡ Due.wait for → c ≡ spent (awaiting for (freed b)) → HartTurnsOver folders files table table words words h b c
waits_over table folders files words h b c for is leaves = λ w over. record {
  did = Did.waits for;
  settling = refl;
  moves = subst (λ (d : Due). MovesAs w table.events h b d (Did.waits for) c) (sym is) (record { is = refl; leaves = leaves });
  are = sym (append-nil table.events);
  does = refl;
}

pub waits_again : (b c : HartState) (for : Shown) (came : Turn) → came ≡ turn.Again for → c ≡ spent (awaiting for (freed b)) → b.«end» ≡ None → IsOutcome c came
waits_again b c for came is leaves runs = subst (IsOutcome c) (sym is) (ap (λ (x : HartState). x.«end») leaves ∙ runs)

pub waits_tell : (w : Setting) (past : List Event) (h : ℕ) (d : Due) (for : Shown) (came : Turn) → came ≡ turn.Again for → d ≡ Due.wait for → TurnTells w past past h d came
waits_tell w past h d for came is next = subst (TurnTells w past past h d) (sym is) (inr next, refl)

-- ---- a call that is made once it isn't so any more

made_runs : (t : Bool) (for : Shown) (call : Call) (back : Return) (d : Due) → cond t (Due.wait for) (Due.serve call back) ≡ d → is_service d ≡ true
    → may_run_by call ≡ may_run_functions d
made_runs true for call back d is called = absurd (true≢false (sym called ∙ ap is_service (sym is)))
made_runs false for call back d is called = ap may_run_functions is

pub waits_run : (s : State) (b : HartState) (for : Shown) (asked : code_call) → due_in s b (code.Wait for asked) ≡ due s b → is_service (due s b) ≡ true
    → may_run_by (call_in s asked) ≡ may_run_functions (due s b)
waits_run s b for asked is called = made_runs (is_still s for) for (call_in s asked) (back_of b asked) (due s b) is called
