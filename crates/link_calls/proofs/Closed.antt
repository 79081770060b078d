-- What a closing comes to.
use Rattle.std.proofs.Common.{◌≡◌, ◌≢◌, ℕ, List, [], ◌∷◌, Result, Ok, Err, IfOk, OnOk, refl, sym, ap, subst, ◌∙◌}
use Rattle.history_calls.specs.CallLaws.Coming.{IsOn}
use Rattle.history_calls.specs.CallLaws.Laws.{ClosingKeepsImages, ClosingKeepsOrder}
use Rattle.history_journal.specs.Following.{MayFollow, machine_of}
use Rattle.ld_base.specs.declared.fault.DlFault.TheVariants.{BadHandle}
use Rattle.history_event.specs.declared.event.Ask.TheVariants as asks
use Rattle.history_event.specs.declared.event.CloseAnswer.TheVariants as closings
use Rattle.history_event.specs.declared.event.Event.{Event}
use Rattle.history_event.specs.declared.event.Event.TheVariants.{Close}
use Rattle.history_event.specs.declared.handed.Dying.{Dying}
use Rattle.history_event.specs.declared.handed.Function.{Function}
use Rattle.history_state.specs.After.{after}
use Rattle.history_state.specs.Allowed.{Closes, IsBadHandle}
use Rattle.history_state.specs.Setting.{Setting}
use Rattle.history_state.specs.State.{State}
use Rattle.history_state.specs.Step.{step}
use Rattle.history_state.specs.Lemmas.History.{after_push}
use Rattle.history_calls.specs.declared.link_served.served.Served.{Served}
use Rattle.history_calls.specs.declared.link_served.served.Served.TheVariants as served
use Rattle.history_calls.specs.Answer.{returns}
use Rattle.history_calls.specs.Call.{closes}
use Rattle.history_calls.specs.Functions.{AreAddresses, AreDestructors, destructors}
use Rattle.history_calls.specs.Gives.{Gives, by_event, dies, is_not_closed, stays}
use Rattle.history_calls.specs.Served.{IsClosing}
use Rattle.link_state.specs.Table.{LinkTable, appended}
use Rattle.link_holds.specs.Events.{refusal}
use Rattle.link_holds.specs.Lemmas.Held.{follows}
use Rattle.link_calls.specs.Coming.{ComesIn}
use Rattle.link_calls.proofs.Refused.{nothing_came, refused_so}

-- for want of memory nothing is closed
pub unclosed : (old new : LinkTable) (hart handle : ℕ) → new ≡ old → ComesIn old hart (closes handle) served.Memory new
unclosed old new hart handle is =
    subst (λ (t : LinkTable). ComesIn old hart (closes handle) served.Memory t) (sym is) (nothing_came (IsOn (machine_of old.harts)) old.events hart (closes handle))

-- ---- a handle that is closed

pub closed_stays : (old new : LinkTable) (hart handle : ℕ) (dying : List ℕ) → new ≡ appended old (Close hart handle (closings.Done dying))
    → Closes (after old.events) handle dying → dying ≡ [] → ComesIn old hart (closes handle) (served.Done 0) new
closed_stays old new hart handle dying is may none = record {
  given = Close hart handle (closings.Done dying) ∷ [];
  are = ap (λ (t : LinkTable). t.events) is;
  served = λ w on.
      subst (λ (ds : List ℕ). Gives w old.events hart (closes handle) (Close hart handle (closings.Done ds) ∷ []) (returns 0)) (sym none)
      (by_event (closes handle) (Close hart handle (closings.Done [])) (returns 0) (stays handle) (subst (Closes (after old.events) handle) none may));
}

-- the destructors are those of the state after it, too
destructors_kept : ClosingKeepsImages → ClosingKeepsOrder → (s : State) (hart handle : ℕ) (set : List ℕ) (functions : List Function) → AreDestructors s set functions
    → AreDestructors (step s (Close hart handle (closings.Done set))) set functions
destructors_kept images order s hart handle set functions are = record {
  order = are.order ∙ sym (order s hart handle set set);
  addresses = λ f inside. subst (AreAddresses destructors f.addresses) (sym (images s hart handle f.object set)) (are.addresses f inside);
}

closing : ClosingKeepsImages → ClosingKeepsOrder → (w : Setting) (past : List Event) (hart handle : ℕ) (dying : List ℕ) (functions : List Function) → dying ≢ [] → Closes (after past) handle dying
    → AreDestructors (after past) dying functions → IsClosing w past hart (closes handle) dying functions (Close hart handle (closings.Done dying) ∷ [])
closing images order w past hart handle [] functions some may are = absurd (some refl)
closing images order w past hart handle (d ∷ rest) functions some may are =
    let e : Event = Close hart handle (closings.Done (d ∷ rest)) in
    record {
      gives = by_event _ e _ (dies handle d rest) may;
      finalised = subst (λ (s : State). AreDestructors s (d ∷ rest) functions) (sym (after_push past e))
          (destructors_kept images order (after past) hart handle (d ∷ rest) functions are);
    }

pub closed_dies : ClosingKeepsImages → ClosingKeepsOrder → (old new : LinkTable) (hart handle : ℕ) (dying : Dying) (functions : List Function)
    → new ≡ appended old (Close hart handle (closings.Done dying.list)) → Closes (after old.events) handle dying.list → dying.list ≢ []
    → AreDestructors (after old.events) dying.list functions → ComesIn old hart (closes handle) (served.Closing dying functions) new
closed_dies images order old new hart handle dying functions is may some are = record {
  given = Close hart handle (closings.Done dying.list) ∷ [];
  are = ap (λ (t : LinkTable). t.events) is;
  served = λ w on. closing images order w old.events hart handle dying.list functions some may are;
}

-- ---- a handle that isn't closed

pub may_refuse_close : (t : LinkTable) (hart handle : ℕ) → IsBadHandle (after t.events) handle (BadHandle handle) → MayFollow t.harts t.events (refusal hart (asks.Close handle) (BadHandle handle))
may_refuse_close t hart handle none = follows t.harts t.events (Close hart handle (closings.Refused (BadHandle handle))) none

refused_close : (old mid new : LinkTable) (hart handle : ℕ) → mid ≡ old → IsBadHandle (after old.events) handle (BadHandle handle)
    → new ≡ appended mid (refusal hart (asks.Close handle) (BadHandle handle)) → ComesIn old hart (closes handle) (served.Refused (BadHandle handle)) new
refused_close old mid new hart handle same none noted =
    subst (λ (t : LinkTable). ComesIn old hart (closes handle) (served.Refused (BadHandle handle)) t)
    (sym (noted ∙ ap (λ (t : LinkTable). appended t (refusal hart (asks.Close handle) (BadHandle handle))) same))
    (refused_so (IsOn (machine_of old.harts)) old.events hart (closes handle) (refusal hart (asks.Close handle) (BadHandle handle)) (BadHandle handle)
    (is_not_closed handle (BadHandle handle)) (λ w on. none))

pub not_closed : {E : Type 0} (r : Result Served E) (old mid new : LinkTable) (hart handle : ℕ) → mid ≡ old → IsBadHandle (after old.events) handle (BadHandle handle)
    → IfOk r (λ came. came ≡ served.Refused (BadHandle handle)) → OnOk r (new ≡ appended mid (refusal hart (asks.Close handle) (BadHandle handle)))
    → IfOk r (λ came. ComesIn old hart (closes handle) came new)
not_closed (Ok came) old mid new hart handle same none refused noted =
    subst (λ (c : Served). ComesIn old hart (closes handle) c new) (sym refused) (refused_close old mid new hart handle same none noted)
not_closed (Err e) old mid new hart handle same none refused noted = refused
