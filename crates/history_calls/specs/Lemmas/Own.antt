-- A call appends events of its own hart, and few.
use Rattle.std.proofs.Common.{◌≡◌, ◌⊎◌, inl, inr, ⊎_elim, ℕ, ◌≤◌, List, [], ◌∷◌, length, Some, refl, sym, ap, ◌∙◌, arith}
use Rattle.std.specs.List.{Contains}
use Rattle.history_event.specs.declared.event.Event.{Event}
use Rattle.history_event.specs.declared.event.SymAsk.{SymAsk}
use Rattle.history_state.specs.Setting.{Setting}
use Rattle.history_state.specs.Lemmas.Lists.{first_or_later, none_in, only_in}
use Rattle.history_calls.specs.Answer.{Answer}
use Rattle.history_calls.specs.Call.{Call, looks_up}
use Rattle.history_calls.specs.Gives.{EventAnswers, Gives}
use Rattle.history_calls.specs.Laws.{hart_of}

answers_own : (h : ℕ) (call : Call) (e : Event) (answer : Answer) → EventAnswers h call e answer → hart_of e ≡ Some h
answers_own h call e answer (EventAnswers.is_loaded ask id root first rest ranges) = refl
answers_own h call e answer (EventAnswers.is_there ask id root ranges) = refl
answers_own h call e answer (EventAnswers.is_absent ask) = refl
answers_own h call e answer (EventAnswers.is_not_opened ask fault) = refl
answers_own h call e answer (EventAnswers.dies handle first rest) = refl
answers_own h call e answer (EventAnswers.stays handle) = refl
answers_own h call e answer (EventAnswers.is_not_closed handle fault) = refl
answers_own h call e answer (EventAnswers.is_unmapped set) = refl
answers_own h call e answer (EventAnswers.is_granted owner eights slot number choice value is) = refl
answers_own h call e answer (EventAnswers.is_unresolved owner eights slot is) = refl
answers_own h call e answer (EventAnswers.is_not_code owner eights slot serial index is) = refl
answers_own h call e answer (EventAnswers.is_found ask serial index value) = refl
answers_own h call e answer (EventAnswers.is_not_found ask fault) = refl
answers_own h call e answer (EventAnswers.is_told fault) = refl
answers_own h call e answer (EventAnswers.is_written bytes) = refl

pub events_own : (w : Setting) (past : List Event) (h : ℕ) (call : Call) (given : List Event) (answer : Answer) → Gives w past h call given answer → (e : Event) → Contains given e → hart_of e ≡ Some h
events_own w past h call given answer (Gives.by_event _ e _ answers may) x there = ap hart_of (sym (only_in e x there)) ∙ answers_own h call e answer answers
events_own w past h call given answer (Gives.by_first_block ask e f value finds) x there = ⊎_elim
    (λ (is : e ≡ x). ap hart_of (sym is ∙ finds.gets))
    (λ (i : Contains (f ∷ []) x). ap hart_of (sym (only_in f x i) ∙ finds.finds))
    (first_or_later e (f ∷ []) x there)
events_own w past h call given answer (Gives.in_new_block number offset block e gets) x there = ap hart_of (sym (only_in e x there) ∙ gets.is)
events_own w past h call given answer (Gives.in_block number offset block has) x there = absurd (none_in x there)
events_own w past h call given answer (Gives.to_again _ for shows) x there = absurd (none_in x there)
events_own w past h call given answer (Gives.to_end _ reason ends) x there = absurd (none_in x there)

pub few_events : (w : Setting) (past : List Event) (h : ℕ) (call : Call) (given : List Event) (answer : Answer) → Gives w past h call given answer
    → (length given ≤ 1) ⊎ ((ask : SymAsk) × (call ≡ looks_up ask) × (length given ≡ 2))
few_events w past h call given answer (Gives.by_event _ e _ answers may) = inl (omega arith)
few_events w past h call given answer (Gives.by_first_block ask e f value finds) = inr (ask, refl, refl)
few_events w past h call given answer (Gives.in_new_block number offset block e gets) = inl (omega arith)
few_events w past h call given answer (Gives.in_block number offset block has) = inl (omega arith)
few_events w past h call given answer (Gives.to_again _ for shows) = inl (omega arith)
few_events w past h call given answer (Gives.to_end _ reason ends) = inl (omega arith)
