-- What comes of a call that is due: of a look-up, and of an exchange behind it.
use Rattle.std.proofs.Common.{◌≡◌, ℕ, List, [], ◌∷◌, ◌++◌, ap, subst, ◌∙◌}
use Rattle.ld_base.specs.declared.fault.Shown.{Shown}
use Rattle.history_event.specs.declared.event.Event.{Event}
use Rattle.history_event.specs.declared.event.SymAsk.{SymAsk}
use Rattle.history_event.specs.declared.hart_end.HartEnd.{HartEnd}
use Rattle.history_state.specs.After.{after}
use Rattle.history_state.specs.Setting.{Setting}
use Rattle.history_state.specs.State.{State}
use Rattle.history_calls.specs.Answer.{Answer, again, over}
use Rattle.history_calls.specs.Call.{Call, resolves, opens, looks_up, closes, unmaps, asks_fault, locates, writes, stops}
use Rattle.history_calls.specs.Ends.{EndsAs}
use Rattle.history_calls.specs.Gives.{EventAnswers, Gives, ending}
use Rattle.history_calls.specs.Waiting.{Shows}
use Rattle.hart_moves.specs.Due.{Due, Return}
use Rattle.hart_moves.specs.Harts.{HartState}
use Rattle.hart_moves.specs.Moves.{Calls, Did, TurnFinishes, Moves, MovesAs, Takes, events_of}
use Rattle.world_laws.specs.RunMoments.OfTurns.{AnswersLookUp, EntersItsSlot, FindsSo}

-- ---- waits and ends

-- only openings and unmappings wait
abbrev pub MayWait : Call → Type 0
MayWait (resolves owner eights) = ⊥
MayWait (opens ask) = Unit {0}
MayWait (looks_up ask) = ⊥
MayWait (closes handle) = ⊥
MayWait (unmaps set) = Unit {0}
MayWait asks_fault = ⊥
MayWait (locates number offset) = ⊥
MayWait (writes bytes) = ⊥
MayWait (stops reason) = ⊥

pub may_wait : (w : Setting) (s : State) (h : ℕ) (call : Call) (for : Shown) → Shows w s h call for → MayWait call
may_wait w s h call for (Shows.by_load ask _ waits) = tt
may_wait w s h call for (Shows.by_grant set number finished held) = tt

-- a hart that a call of __tls_get_addr ends has a cause
abbrev EndsLocating : State → ℕ → Call → Answer → Type 0
EndsLocating s h (locates number offset) (over reason) = EndsAs s h (locates number offset) reason
EndsLocating s h call answer = Unit {0}

no_locating : {h : ℕ} {call : Call} {e : Event} {answer : Answer} (s : State) → EventAnswers h call e answer → EndsLocating s h call answer
no_locating s (EventAnswers.is_loaded ask id root first rest ranges) = tt
no_locating s (EventAnswers.is_there ask id root ranges) = tt
no_locating s (EventAnswers.is_absent ask) = tt
no_locating s (EventAnswers.is_not_opened ask fault) = tt
no_locating s (EventAnswers.dies handle first rest) = tt
no_locating s (EventAnswers.stays handle) = tt
no_locating s (EventAnswers.is_not_closed handle fault) = tt
no_locating s (EventAnswers.is_unmapped set) = tt
no_locating s (EventAnswers.is_granted owner eights slot number choice value is) = tt
no_locating s (EventAnswers.is_unresolved owner eights slot is) = tt
no_locating s (EventAnswers.is_not_code owner eights slot serial index is) = tt
no_locating s (EventAnswers.is_found ask serial index value) = tt
no_locating s (EventAnswers.is_not_found ask fault) = tt
no_locating s (EventAnswers.is_told fault) = tt
no_locating s (EventAnswers.is_written bytes) = tt

ends_so : (call : Call) (s : State) (h : ℕ) (reason : HartEnd) → EndsAs s h call reason → EndsLocating s h call (over reason)
ends_so (locates number offset) s h reason ends = ends
ends_so (resolves owner eights) s h reason ends = tt
ends_so (opens ask) s h reason ends = tt
ends_so (looks_up ask) s h reason ends = tt
ends_so (closes handle) s h reason ends = tt
ends_so (unmaps set) s h reason ends = tt
ends_so asks_fault s h reason ends = tt
ends_so (writes bytes) s h reason ends = tt
ends_so (stops own) s h reason ends = tt

again_so : (call : Call) (s : State) (h : ℕ) (for : Shown) → EndsLocating s h call (again for)
again_so (locates number offset) s h for = tt
again_so (resolves owner eights) s h for = tt
again_so (opens ask) s h for = tt
again_so (looks_up ask) s h for = tt
again_so (closes handle) s h for = tt
again_so (unmaps set) s h for = tt
again_so asks_fault s h for = tt
again_so (writes bytes) s h for = tt
again_so (stops own) s h for = tt

ends_locating : {w : Setting} {past : List Event} {h : ℕ} {call : Call} {given : List Event} {answer : Answer} → Gives w past h call given answer
    → EndsLocating (after past) h call answer
ends_locating {past = past} (Gives.by_event call e answer gives may) = no_locating (after past) gives
ends_locating (Gives.by_first_block ask e f value first) = tt
ends_locating (Gives.in_new_block number offset block e gets) = tt
ends_locating (Gives.in_block number offset block has) = tt
ends_locating {past = past} {h = h} (Gives.to_again call for shows) = again_so call (after past) h for
ends_locating {past = past} {h = h} (Gives.to_end call reason ends) = ends_so call (after past) h reason ends

pub located_ends : {w : Setting} {past : List Event} {h number offset : ℕ} {given : List Event} {reason : HartEnd} → Gives w past h (locates number offset) given (over reason)
    → EndsAs (after past) h (locates number offset) reason
located_ends gives = ends_locating gives

-- ---- look-ups

module _ (w : Setting) (past : List Event) (h : ℕ) (ask : SymAsk) (back : Return) (b c : HartState) (did : Did) where
  found_so : (given : List Event) (answer : Answer) → Gives w past h (looks_up ask) given answer → (appended : List Event) → appended ≡ given ++ ending h answer
      → Takes w past h b (looks_up ask) back answer appended did c → FindsSo past h ask back b did c
  found_so given answer (Gives.by_event _ e _ (EventAnswers.is_found _ serial index value) may) appended are x =
      FindsSo.found [] serial index value (ap events_of x.is ∙ are) x.leaves
  found_so given answer (Gives.by_event _ e _ (EventAnswers.is_not_found _ fault) may) appended are x = FindsSo.refused fault (ap events_of x.is ∙ are) x.leaves
  found_so given answer (Gives.by_first_block _ e f value first) appended are x =
      FindsSo.found (e ∷ []) first.serial first.index value (ap events_of x.is ∙ are ∙ ap (λ (d : Event). e ∷ d ∷ []) first.finds) x.leaves
  found_so given answer (Gives.to_again _ for shows) appended are x = absurd (may_wait w (after past) h (looks_up ask) for shows)
  found_so given answer (Gives.to_end _ reason ends) appended are x = FindsSo.ends reason ends (ap (λ (z : HartState). z.«end») x.leaves)

pub answers_look_up : (w : Setting) (past : List Event) (h : ℕ) (b c : HartState) (did : Did) → Moves w past h b did c → AnswersLookUp past h b did c
answers_look_up w past h b c did moves ask back is =
    let calls : Calls w past h b (looks_up ask) back did c = subst (λ (d : Due). MovesAs w past h b d did c) is moves in
    found_so w past h ask back b c did calls.serves.given calls.answer calls.serves.gives calls.appended calls.serves.are calls.takes

-- ---- behind an exchange

pub enters_its_slot : (w : Setting) (past : List Event) (h : ℕ) (b c : HartState) (did : Did) → Moves w past h b did c → EntersItsSlot past b c
enters_its_slot w past h b c did moves o found is =
    let finishes : TurnFinishes b o found did c = subst (λ (d : Due). MovesAs w past h b d did c) is moves in
    finishes.leaves
