-- What it says that the next turn of a hart is one of several.
use Rattle.std.proofs.Common.{◌≡◌, ◌⊎◌, ⊎_elim, ℕ, Bool, true, false, cond, List, None, Bor, refl, sym, ap, ◌∙◌}
use Rattle.history_event.specs.declared.handed.Function.{Function}
use Rattle.history_calls.specs.Call as calls
use Rattle.history_state.specs.State.{State}
use Rattle.ld_base.specs.declared.fault.Shown.{Shown}
use Rattle.hart_moves.specs.Due.{Return, due}
use Rattle.hart_moves.specs.Due.{Due as is_due}
use Rattle.hart_moves.specs.Harts.{HartState}
use Rattle.hart_seat.specs.HartParts.Queues.{below}
use Rattle.hart_moves.specs.Waiting.{is_still}
use Rattle.hart_seat.specs.HartParts.Views.{back_of, call_in, due_in, purpose_of}
use Rattle.hart_seat.specs.declared.hart_parts.due.Call.{Call}
use Rattle.hart_seat.specs.declared.hart_parts.due.Copying.{Copying}
use Rattle.hart_seat.specs.declared.hart_parts.due.Due.{Due}
use Rattle.hart_seat.specs.declared.hart_parts.due.Due.TheVariants.{Complete, Copy, Enter, Nothing, Serve, Store, Wait}
use Rattle.hart_seat.specs.declared.hart_parts.queue.Purpose.{Purpose}
use Rattle.hart_turns.specs.Turns.{is_own}
use Rattle.world_answers.specs.GuestsPart.Asking.{is_called, needs_linker}
use Rattle.world_answers.proofs.GuestsPart.There.{done_asks, never_nothing}

-- ---- one that needs neither the linker nor a slot

abbrev IsCopy : Due → Type 0
IsCopy d = (what : Copying) × (start : ℕ) × (bytes : Bor (List ℕ)) × (d ≡ Copy what start bytes)

abbrev IsStore : Due → Type 0
IsStore d = (text : ℕ) × (stored : ℕ) × (word : ℕ) × (d ≡ Store text stored word)

abbrev IsEnter : Due → Type 0
IsEnter d = (function : ℕ) × (d ≡ Enter function)

pub own_by : (s : State) (b : HartState) (d : Due) → IsCopy d ⊎ (IsStore d ⊎ IsEnter d) → due_in s b d ≡ due s b → is_own (due s b) ≡ true
own_by s b d by is =
    sym (ap is_own is)
    ∙ ⊎_elim (λ (x : IsCopy d). ap (λ (e : Due). is_own (due_in s b e)) x.3)
    (λ (rest : IsStore d ⊎ IsEnter d). ⊎_elim (λ (x : IsStore d). ap (λ (e : Due). is_own (due_in s b e)) x.3) (λ (x : IsEnter d). ap (λ (e : Due). is_own (due_in s b e)) x.1) rest) by

-- ---- one that asks the linker

abbrev IsServe : Due → Type 0
IsServe d = (asked : Call) × (d ≡ Serve asked)

abbrev IsWait : Due → Type 0
IsWait d = (for : Shown) × (asked : Call) × (d ≡ Wait for asked)

abbrev IsComplete : Due → Type 0
IsComplete d = (purpose : Bor Purpose) × (object : ℕ) × (behind : Bor (List Function)) × (d ≡ Complete purpose object behind)

waits_or_asks : (t : Bool) (for : Shown) (call : calls.Call) (back : Return) → needs_linker (cond t (is_due.wait for) (is_due.serve call back)) ≡ true
waits_or_asks true for call back = refl
waits_or_asks false for call back = refl

waits_or_calls : (t : Bool) (for : Shown) (call : calls.Call) (back : Return) → is_called (cond t (is_due.wait for) (is_due.serve call back)) ≡ true
waits_or_calls true for call back = refl
waits_or_calls false for call back = refl

pub called_by : (s : State) (b : HartState) (d : Due) → IsServe d ⊎ IsWait d → due_in s b d ≡ due s b → is_called (due s b) ≡ true
called_by s b d by is =
    sym (ap is_called is)
    ∙ ⊎_elim (λ (x : IsServe d). ap (λ (e : Due). is_called (due_in s b e)) x.1)
    (λ (x : IsWait d). ap (λ (e : Due). is_called (due_in s b e)) x.2 ∙ waits_or_calls (is_still s x.0) x.0 (call_in s x.1) (back_of b x.1)) by

pub asks_by : (s : State) (b : HartState) (d : Due) → (d ≡ Nothing) ⊎ (IsServe d ⊎ (IsWait d ⊎ IsComplete d)) → due_in s b d ≡ due s b → b.«end» ≡ None → needs_linker (due s b) ≡ true
asks_by s b d by is runs = ⊎_elim
    (λ (nothing : d ≡ Nothing). absurd (never_nothing s b runs (sym (ap (λ (e : Due). due_in s b e) nothing) ∙ is)))
    (λ (rest : IsServe d ⊎ (IsWait d ⊎ IsComplete d)). sym (ap needs_linker is) ∙ ⊎_elim
    (λ (x : IsServe d). ap (λ (e : Due). needs_linker (due_in s b e)) x.1)
    (λ (others : IsWait d ⊎ IsComplete d). ⊎_elim
    (λ (x : IsWait d). ap (λ (e : Due). needs_linker (due_in s b e)) x.2 ∙ waits_or_asks (is_still s x.0) x.0 (call_in s x.1) (back_of b x.1))
    (λ (x : IsComplete d). ap (λ (e : Due). needs_linker (due_in s b e)) x.3 ∙ done_asks (purpose_of x.0.now) x.1 x.2.now (below b.frames)) others) rest) by
