-- Calls that are refused, or come to nothing for want of memory.
use Rattle.std.proofs.Common.{◌≡◌, List, [], ◌∷◌, ◌++◌, Result, Ok, Err, IfOk, OnErr, refl, sym, subst}
use Rattle.std.specs.Prelude.{ℕ}
use Rattle.std.specs.Result.{result_unwrap_or}
use Rattle.std.proofs.lemmas.List.{append-nil}
use Rattle.history_calls.specs.CallLaws.Coming.{Comes}
use Rattle.ld_base.specs.declared.fault.DlFault.{DlFault}
use Rattle.history_event.specs.declared.event.Event.{Event}
use Rattle.history_state.specs.Allowed.{Allowed}
use Rattle.history_state.specs.Setting.{Setting}
use Rattle.history_calls.specs.declared.link_served.served.Served.{Served}
use Rattle.history_calls.specs.declared.link_served.served.Served.TheVariants as served
use Rattle.history_calls.specs.Answer.{refused}
use Rattle.history_calls.specs.Call.{Call}
use Rattle.history_calls.specs.Gives.{EventAnswers, by_event}
use Rattle.link_state.specs.Table.{LinkTable}

-- what came is answered; or else memory is wanted, and nothing has changed
pub answered : {E : Type 0} (r : Result Served E) (came : Served) (old new : LinkTable) (Is : Served → Type 0) → came ≡ result_unwrap_or r served.Memory
    → IfOk r Is → OnErr r (new ≡ old) → (new ≡ old → Is served.Memory) → Is came
answered (Ok x) came old new Is are is same nothing = subst Is (sym are) is
answered (Err e) came old new Is are is same nothing = subst Is (sym are) (nothing same)

-- as it was before a call that left all as it was
pub still : {E : Type 0} (r : Result Served E) (old mid new : LinkTable) → mid ≡ old → OnErr r (new ≡ mid) → OnErr r (new ≡ old)
still r old mid new is same = subst (λ (t : LinkTable). OnErr r (new ≡ t)) is same

pub nothing_came : (IsOf : Setting → Type 0) (past : List Event) (hart : ℕ) (call : Call) → Comes IsOf past past hart call served.Memory
nothing_came IsOf past hart call = record { given = []; are = sym (append-nil past); served = λ w of. refl }

-- the event of the refusal answers the call, in each of these runs
pub refused_so : (IsOf : Setting → Type 0) (past : List Event) (hart : ℕ) (call : Call) (e : Event) (fault : DlFault) → EventAnswers hart call e (refused fault)
    → ((w : Setting) → IsOf w → Allowed w past e) → Comes IsOf past (past ++ e ∷ []) hart call (served.Refused fault)
refused_so IsOf past hart call e fault answers may = record {
  given = e ∷ [];
  are = refl;
  served = λ w of. by_event call e (refused fault) answers (may w of);
}
