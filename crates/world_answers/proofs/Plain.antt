-- Writes, texts that are told, unmappings, and ends of a hart's own.
use Rattle.std.proofs.Common.{◌≡◌, ℕ, List, [], ◌∷◌, length, Option, Some, None, refl, sym, ap, subst, ◌∙◌}
use Rattle.std.specs.Prelude.{IsTrue}
use Rattle.std.specs.Option.{option_map}
use Rattle.std.proofs.lemmas.List.{append-nil}
use Rattle.hart_moves.specs.Moves.{stack_start}
use Rattle.ld_base.specs.declared.fault.DlFault.{DlFault}
use Rattle.ld_base.specs.declared.fault.Shown.TheVariants.{OpenGrant}
use Rattle.link_calls.specs.Coming.{TellsIn}
use Rattle.history_event.specs.declared.event.Event.TheVariants.{Ended, Unmapped, Wrote}
use Rattle.history_event.specs.declared.handed.Removed.{Removed}
use Rattle.history_event.specs.declared.hart_end.HartEnd.{HartEnd}
use Rattle.history_event.specs.declared.hart_end.HartEnd.TheVariants as ends
use Rattle.history_state.specs.After.{after}
use Rattle.history_state.specs.Allowed.{IsUngranted, MayWrite}
use Rattle.history_state.specs.Setting.{Setting}
use Rattle.history_calls.specs.Answer.{again, over, returns, told}
use Rattle.history_calls.specs.Call.{Call, asks_fault, stops, unmaps, writes}
use Rattle.history_calls.specs.Ends.{asked, is_own_end, no_memory, takes_memory}
use Rattle.history_calls.specs.Gives.{Gives, by_event, is_unmapped, is_written, to_again, to_end}
use Rattle.history_calls.specs.Served.{answer_text}
use Rattle.history_calls.specs.Waiting.{HasFinished, IsHeldBy, by_grant}
use Rattle.link_state.specs.Table.{LinkTable, appended}
use Rattle.link_state.specs.Unmapping.{IsRemoved}
use Rattle.link_holds.specs.Lemmas.Unmapped.{may_unmap}
use Rattle.world_memory.specs.TurnAnswers.Answered.{IsAnswered}
use Rattle.world_memory.specs.declared.turn_answers.answered.Answered.{Answered}
use Rattle.world_memory.specs.declared.turn_answers.answered.Answered.TheVariants as answered
use Rattle.world_memory.specs.declared.turn_answers.answered.MemoryChange.TheVariants as change
use Rattle.world_answers.specs.Answers.{AnswersIn, CallIsAnswered, MayEndIn}
use Rattle.world_answers.specs.Served.{told_at}
use Rattle.world_answers.proofs.Came.{goes_on, over_in}
use Rattle.world_answers.proofs.Quiet.{leaves}

-- ---- ends

-- for want of memory nothing has changed, and the hart ends
pub wants : (old mid new : LinkTable) (h : ℕ) (call : Call) (result : Answered) → IsTrue (takes_memory call) → mid ≡ old → MayEndIn old h → result ≡ answered.Over ends.Memory
    → new ≡ appended mid (Ended h ends.Memory) → AnswersIn old h call result new
wants old mid new h call result takes is may comes noted = λ w on.
    over_in old mid new h call [] ends.Memory result (ap (λ (t : LinkTable). t.events) is ∙ sym (append-nil old.events)) comes noted w (may w on) (to_end call ends.Memory (no_memory call takes))

pub stopped_in : (old new : LinkTable) (h : ℕ) (reason : HartEnd) (result : Answered) → IsTrue (is_own_end reason) → MayEndIn old h → result ≡ answered.Over reason
    → new ≡ appended old (Ended h reason) → AnswersIn old h (stops reason) result new
stopped_in old new h reason result own may comes noted = λ w on.
    over_in old old new h (stops reason) [] reason result (sym (append-nil old.events)) comes noted w (may w on) (to_end (stops reason) reason (asked reason own))

-- ---- writes

pub written_in : (old new : LinkTable) (h : ℕ) (bytes : List ℕ) (count : ℕ) → MayWrite bytes → count ≡ length bytes → new ≡ appended old (Wrote h bytes)
    → AnswersIn old h (writes bytes) (answered.Returns count change.Nothing) new
written_in old new h bytes count may counted is =
    subst (λ (n : ℕ). AnswersIn old h (writes bytes) (answered.Returns n change.Nothing) new) (sym counted)
    (λ w on.
    goes_on w old.events (Wrote h bytes ∷ []) new.events new.made h (writes bytes) (returns (length bytes)) (answered.Returns (length bytes) change.Nothing) (ap (λ (t : LinkTable). t.events) is) refl
    (λ reason d. let no : returns (length bytes) ≡ over reason = d in cc)
    (by_event (writes bytes) (Wrote h bytes) (returns (length bytes)) (is_written bytes) may)
    (IsAnswered.is_returned (length bytes) change.Nothing (refl, refl, tt)))

-- ---- texts

module _ (old new : LinkTable) (h : ℕ) where
  abbrev TellsText : Answered → Option (List ℕ) → Type 0
  TellsText came text = TellsIn old h text new → AnswersIn old h asks_fault came new

  one_told : (w : Setting) (text : List ℕ) (tells : TellsIn old h (Some text) new) (fault : Option DlFault) → Gives w old.events h asks_fault tells.given (told fault)
      → Some text ≡ option_map answer_text fault → CallIsAnswered w old.events new.events new.made h asks_fault (answered.Told (stack_start (after old.events) h) text)
  one_told w text tells (Some fault) gives is =
      let same : text ≡ answer_text fault = cc in
      goes_on w old.events tells.given new.events new.made h asks_fault (told (Some fault)) (answered.Told (stack_start (after old.events) h) text) tells.are refl
      (λ reason d. let no : told (Some fault) ≡ over reason = d in cc) gives (IsAnswered.is_told fault text same (leaves gives))
  one_told w text tells None gives is = absurd (let d : Some text ≡ None = is in cc)

  none_told : (w : Setting) (tells : TellsIn old h None new) (fault : Option DlFault) → Gives w old.events h asks_fault tells.given (told fault) → None ≡ option_map answer_text fault
      → CallIsAnswered w old.events new.events new.made h asks_fault (answered.Returns 0 change.Nothing)
  none_told w tells (Some fault) gives is = absurd (let d : None ≡ Some (answer_text fault) = is in cc)
  none_told w tells None gives is =
      goes_on w old.events tells.given new.events new.made h asks_fault (told None) (answered.Returns 0 change.Nothing) tells.are refl (λ reason d. let no : told None ≡ over reason = d in cc) gives
      (IsAnswered.is_told_none (leaves gives))

  text_told : (text : List ℕ) (start : ℕ) → start ≡ stack_start (after old.events) h → TellsText (answered.Told start text) (Some text)
  text_told text start at tells =
      subst (λ (n : ℕ). AnswersIn old h asks_fault (answered.Told n text) new) (sym at)
      (λ w on. let is = tells.told w on in one_told w text tells is.fault is.gives is.is)

  pub told_in : (text : Option (List ℕ)) (start : ℕ) → start ≡ stack_start (after old.events) h → TellsText (told_at start text) text
  told_in (Some text) start at tells = text_told text start at tells
  told_in None start at tells = λ w on. let is = tells.told w on in none_told w tells is.fault is.gives is.is

-- ---- unmappings

pub unmapped_in : (old new : LinkTable) (h : ℕ) (set : List ℕ) (removed : Removed) → HasFinished (after old.events) h set → IsUngranted (after old.events) set
    → IsRemoved (after old.events) set removed → new ≡ appended old (Unmapped h set) → AnswersIn old h (unmaps set) (answered.Returns 0 (change.Removes removed.ranges)) new
unmapped_in old new h set removed finished free gone is = λ w on.
    goes_on w old.events (Unmapped h set ∷ []) new.events new.made h (unmaps set) (returns 0) (answered.Returns 0 (change.Removes removed.ranges)) (ap (λ (t : LinkTable). t.events) is) refl
    (λ reason d. let no : returns 0 ≡ over reason = d in cc)
    (by_event (unmaps set) (Unmapped h set) (returns 0) (is_unmapped set) (may_unmap (after old.events) h set finished free))
    (IsAnswered.is_returned 0 (change.Removes removed.ranges) (record {
      first = Unmapped h set;
      behind = [];
      are = refl;
      reserves_none = refl;
      takes = gone.ranges;
      leave = tt;
    }))

pub held_in : (old new : LinkTable) (h : ℕ) (set : List ℕ) (number : ℕ) → HasFinished (after old.events) h set → IsHeldBy (after old.events) set number → new ≡ old
    → AnswersIn old h (unmaps set) (answered.Again (OpenGrant number)) new
held_in old new h set number finished held is = λ w on.
    goes_on w old.events [] new.events new.made h (unmaps set) (again (OpenGrant number)) (answered.Again (OpenGrant number)) (ap (λ (t : LinkTable). t.events) is ∙ sym (append-nil old.events)) refl
    (λ reason d. let no : again (OpenGrant number) ≡ over reason = d in cc)
    (to_again (unmaps set) (OpenGrant number) (by_grant set number finished held)) (IsAnswered.has_to_wait (OpenGrant number) tt)
