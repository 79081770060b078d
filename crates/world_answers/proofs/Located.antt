-- Blocks of thread-local storage that a hart has, and those that it doesn't get.
use Rattle.std.proofs.Common.{◌≡◌, ℕ, List, [], refl, sym, ap, subst, ◌∙◌}
use Rattle.std.proofs.lemmas.List.{append-nil}
use Rattle.history_event.specs.declared.event.Event.{Event}
use Rattle.history_event.specs.declared.event.Event.TheVariants.{Ended}
use Rattle.history_event.specs.declared.hart_end.HartEnd.{HartEnd}
use Rattle.history_event.specs.declared.hart_end.HartEnd.TheVariants as ends
use Rattle.history_state.specs.After.{after}
use Rattle.history_calls.specs.Answer.{over, returns}
use Rattle.history_calls.specs.Call.{locates}
use Rattle.history_calls.specs.Ends.{no_memory}
use Rattle.history_calls.specs.Gives.{to_end, variable_at}
use Rattle.history_calls.specs.Served.{Makes}
use Rattle.link_state.specs.Locating.{EndsUnlocated, IsLocated, IsNotLocated}
use Rattle.link_state.specs.Table.{LinkTable, appended}
use Rattle.link_state.specs.declared.faults.TlsFault.{TlsFault}
use Rattle.link_state.specs.declared.faults.TlsFault.TheVariants as faults
use Rattle.world_memory.specs.TurnAnswers.Answered.{IsAnswered}
use Rattle.world_memory.specs.declared.turn_answers.answered.Answered.{Answered}
use Rattle.world_memory.specs.declared.turn_answers.answered.Answered.TheVariants as answered
use Rattle.world_memory.specs.declared.turn_answers.answered.MemoryChange.TheVariants as change
use Rattle.world_answers.specs.Answers.{AnswersIn, MayEndIn}
use Rattle.world_answers.specs.Faults.{tls_end}
use Rattle.world_answers.proofs.Came.{goes_on, over_in}
use Rattle.world_answers.proofs.Quiet.{locate_changes}

pub located_in : (old new : LinkTable) (h number offset block value : ℕ) → IsLocated old h number block new → value ≡ variable_at block offset
    → AnswersIn old h (locates number offset) (answered.Returns value change.Made) new
located_in old new h number offset block value is at = λ w on.
    subst (λ (n : ℕ). AnswersIn old h (locates number offset) (answered.Returns n change.Made) new) (sym at)
    (λ v of. goes_on v old.events is.given new.events new.made h (locates number offset) (returns (variable_at block offset)) (answered.Returns (variable_at block offset) change.Made) is.events refl
    (λ reason d. let no : returns (variable_at block offset) ≡ over reason = d in cc) (is.gives offset v of)
    (IsAnswered.is_returned (variable_at block offset) change.Made
    (locate_changes new.made (is.gives offset v of) (subst (λ (es : List Event). Makes (after es) is.given new.made) is.events is.made)))) w on

-- ---- no block

unlocated_is : (old mid : LinkTable) (h number : ℕ) (fault : TlsFault) → IsNotLocated old h number fault mid → mid ≡ old
unlocated_is old mid h number (faults.BadModule bad) is = is.is
unlocated_is old mid h number (faults.NoRoom pages) is = is.is
unlocated_is old mid h number faults.Memory is = is

pub unlocated_harts : (old mid : LinkTable) (h number : ℕ) (fault : TlsFault) → IsNotLocated old h number fault mid → mid.harts ≡ old.harts
unlocated_harts old mid h number fault is = ap (λ (t : LinkTable). t.harts) (unlocated_is old mid h number fault is)

pub unlocated_may_end : (old mid : LinkTable) (h number : ℕ) (fault : TlsFault) → IsNotLocated old h number fault mid → MayEndIn old h → MayEndIn mid h
unlocated_may_end old mid h number fault is may = subst (λ (t : LinkTable). MayEndIn t h) (sym (unlocated_is old mid h number fault is)) may

module _ (old mid new : LinkTable) (h number offset : ℕ) (result : Answered) (may : MayEndIn old h) where
  abbrev Ends : HartEnd → Type 0
  Ends reason = result ≡ answered.Over reason → new ≡ appended mid (Ended h reason) → AnswersIn old h (locates number offset) result new

  by_unchanged : (reason : HartEnd) → EndsUnlocated old h number reason mid → Ends reason
  by_unchanged reason is = λ comes noted w on.
      over_in old mid new h (locates number offset) [] reason result (ap (λ (t : LinkTable). t.events) is.is ∙ sym (append-nil old.events)) comes noted w (may w on) (is.gives offset w on)

  pub unlocated_in : (fault : TlsFault) → IsNotLocated old h number fault mid → Ends (tls_end fault)
  unlocated_in (faults.BadModule bad) is = by_unchanged (ends.BadModule bad) is
  unlocated_in (faults.NoRoom pages) is = by_unchanged (ends.AddressSpaceFull pages) is
  unlocated_in faults.Memory is = λ comes noted w on.
      over_in old mid new h (locates number offset) [] ends.Memory result (ap (λ (t : LinkTable). t.events) is ∙ sym (append-nil old.events)) comes noted w (may w on)
      (to_end (locates number offset) ends.Memory (no_memory (locates number offset) refl))
