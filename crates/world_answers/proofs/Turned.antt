-- The turn of a call that was made.
use Rattle.std.proofs.Common.{◌≡◌, ℕ, IsTrue, List, Option, refl, sym, subst, ◌∙◌}
use Rattle.history_calls.specs.CallLaws.Coming.{NeedsNoRead}
use Rattle.hart_moves.specs.Due.{Due, Return, due}
use Rattle.hart_moves.specs.Harts.{HartState}
use Rattle.hart_seat.specs.HartParts.Views.{back_of, call_in, due_in}
use Rattle.hart_seat.specs.declared.hart_parts.due.Call.{Call as code_call}
use Rattle.hart_seat.specs.declared.hart_parts.due.Due.TheVariants as code
use Rattle.ld_base.specs.declared.linking.File.{File}
use Rattle.history_event.specs.declared.event.Event.{Event}
use Rattle.history_event.specs.declared.event.OpenAsk.{OpenAsk}
use Rattle.history_state.specs.State.{State}
use Rattle.history_calls.specs.Call.{Call, opens}
use Rattle.link_state.specs.Table.{LinkTable}
use Rattle.world_memory.specs.declared.turn_answers.answered.Answered.{Answered}
use Rattle.world_answers.specs.Answers.{AnswersDue, AnswersIn, AnswersOver, is_service}
use Rattle.world_answers.specs.Openings.{AnswersUnlessReadsFail, TurnAnswersUnlessReadsFail, TurnReadsNothing, TurnRefusalIsCounted}

-- ---- what came

pub turned_over : (old new : LinkTable) (folders : List (List ℕ)) (files : Option (List File)) (h : ℕ) (d : Due) (call : Call) (return : Return) (came : Answered) → Due.serve call return ≡ d
    → AnswersOver old folders files h call came new → AnswersDue old folders files h d came new
turned_over old new folders files h d call return came is answers = λ w over.
    let made = answers w over in
    record { call = call; return = return; is = sym is; appended = made.appended; are = made.are; answer = made.answer; serves = made.serves; answered = made.answered }

pub turned : (old new : LinkTable) (folders : List (List ℕ)) (files : Option (List File)) (h : ℕ) (d : Due) (call : Call) (return : Return) (came : Answered) → Due.serve call return ≡ d
    → AnswersIn old h call came new → AnswersDue old folders files h d came new
turned old new folders files h d call return came is answers = turned_over old new folders files h d call return came is (λ w over. answers w over.machine)

-- ---- openings

same_ask : (ask other : OpenAsk) (return back : Return) → Due.serve (opens ask) return ≡ Due.serve (opens other) back → ask ≡ other
same_ask ask other return back is = cc

pub wholly : (old : LinkTable) (folders : List (List ℕ)) (files : Option (List File)) (failures failures' h : ℕ) (d : Due) (ask : OpenAsk) (return : Return) (came : Answered)
    → Due.serve (opens ask) return ≡ d → AnswersUnlessReadsFail old folders files failures failures' h ask came → TurnAnswersUnlessReadsFail old folders files failures failures' h d came
wholly old folders files failures failures' h d ask return came is whole = λ other back due.
    subst (λ (a : OpenAsk). AnswersUnlessReadsFail old folders files failures failures' h a came) (same_ask ask other return back (is ∙ due)) whole

pub needs_none : (s : State) (d : Due) (ask : OpenAsk) (return : Return) → Due.serve (opens ask) return ≡ d → TurnReadsNothing s d → NeedsNoRead s ask
needs_none s d ask return is reads = reads ask return (sym is)

-- ---- other calls

-- the call opens nothing
abbrev pub IsOther : Call → Type 0
IsOther (opens ask) = ⊥
IsOther other = Unit {0}

differs : (call : Call) (ask : OpenAsk) (return back : Return) → IsOther call → Due.serve call return ≡ Due.serve (opens ask) back → ⊥
differs call ask return back other is = let same : call ≡ opens ask = cc in subst IsOther same other

pub other_wholly : (old : LinkTable) (folders : List (List ℕ)) (files : Option (List File)) (failures failures' h : ℕ) (d : Due) (call : Call) (return : Return) (came : Answered) → IsOther call
    → Due.serve call return ≡ d → TurnAnswersUnlessReadsFail old folders files failures failures' h d came
other_wholly old folders files failures failures' h d call return came other is = λ ask back due. absurd (differs call ask return back other (is ∙ due))

pub other_shows : (folders : List (List ℕ)) (past events : List Event) (h : ℕ) (d : Due) (call : Call) (return : Return) (failures failures' misses misses' : ℕ) → IsOther call → Due.serve call return ≡ d
    → TurnRefusalIsCounted folders past events h d failures failures' misses misses'
other_shows folders past events h d call return failures failures' misses misses' other is = λ ask back due. absurd (differs call ask return back other (is ∙ due))

-- ---- what is due

pub serves_call : (d : Due) (call : Call) (return : Return) → Due.serve call return ≡ d → IsTrue (is_service d)
serves_call d call return is = subst (λ (x : Due). IsTrue (is_service x)) is refl

-- what the hart asks for is its next turn
pub due_of : (s : State) (b : HartState) (asked call : code_call) → asked ≡ call → due_in s b (code.Serve asked) ≡ due s b → Due.serve (call_in s call) (back_of b call) ≡ due s b
due_of s b asked call is same = subst (λ (a : code_call). Due.serve (call_in s a) (back_of b a) ≡ due s b) is same
