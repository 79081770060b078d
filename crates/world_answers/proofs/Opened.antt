-- What openings come to, and show in the library's counts.
use Rattle.std.proofs.Common.{◌≡◌, ℕ, false, List, [], ◌∷◌, ◌++◌, Option, Some, None, refl, sym, ap, subst, ◌∙◌, append_assoc}
use Rattle.std.proofs.lemmas.List.{append-nil, append_cancel_left}
use Rattle.history_calls.specs.CallLaws.Coming.{IsOver, refusal_of}
use Rattle.history_calls.specs.CallLaws.Counts.{ArePaths, ShowsInCounts}
use Rattle.history_journal.specs.Following.{machine_of}
use Rattle.ld_base.specs.declared.fault.DlFault.{DlFault}
use Rattle.ld_base.specs.declared.linking.File.{File}
use Rattle.link_calls.specs.Opening.{OpensIn, OpensUnlessReadsFail}
use Rattle.history_event.specs.declared.event.Event.{Event}
use Rattle.history_event.specs.declared.event.Event.TheVariants.{Ended, Open}
use Rattle.history_event.specs.declared.event.OpenAnswer.{OpenAnswer}
use Rattle.history_event.specs.declared.event.OpenAnswer.TheVariants as openings
use Rattle.history_event.specs.declared.event.OpenAsk.{OpenAsk}
use Rattle.history_event.specs.declared.hart_end.HartEnd.TheVariants as ends
use Rattle.history_state.specs.After.{after}
use Rattle.history_state.specs.Objects.{is_startup}
use Rattle.history_state.specs.Setting.{Setting}
use Rattle.history_calls.specs.declared.link_served.served.Served.{Served}
use Rattle.history_calls.specs.declared.link_served.served.Served.TheVariants as served
use Rattle.history_calls.specs.Answer.{Answer, refused, again, over}
use Rattle.history_calls.specs.Call.{Call, opens}
use Rattle.history_calls.specs.Complete.{OpensOr}
use Rattle.history_calls.specs.Gives.{EventAnswers, Gives}
use Rattle.history_calls.specs.Served.{IsServed}
use Rattle.link_state.specs.Table.{LinkTable}
use Rattle.world_memory.specs.declared.turn_answers.answered.Answered.{Answered}
use Rattle.world_memory.specs.declared.turn_answers.answered.MemoryChange.{MemoryChange}
use Rattle.world_memory.specs.declared.turn_answers.answered.MemoryChange.TheVariants as change
use Rattle.world_answers.specs.Answers.{AnswersOver, MayEndIn}
use Rattle.world_answers.specs.Openings.{AnswersUnlessReadsFail, Reaches, RefusalIsCounted}
use Rattle.world_answers.specs.Served.{answer_with, noted}
use Rattle.world_answers.proofs.Came.{given_to, served_in, wanting_may_end}
use Rattle.world_answers.proofs.Quiet.{leaves_value}

pub over_given : (harts : ℕ) (folders : List (List ℕ)) (files : Option (List File)) → IsOver (machine_of harts) folders files (given_to harts folders files)
over_given harts folders files = record { machine = refl; folders_are = refl; files_are = refl }

-- ---- the answer

pub opened_in : (old mid new : LinkTable) (folders : List (List ℕ)) (files : Option (List File)) (h : ℕ) (ask : OpenAsk) (came : Served) (result : Answered) → is_startup (after old.events) ≡ false
    → OpensIn old folders files h (opens ask) came mid → MayEndIn old h → result ≡ answer_with change.Nothing 0 came → new ≡ noted mid h came → AnswersOver old folders files h (opens ask) result new
opened_in old mid new folders files h ask came result started comes may is noted_so =
    served_in (IsOver (machine_of old.harts) folders files) old mid new h (opens ask) change.Nothing 0 came result refl refl comes (λ w of. may w of.machine)
    (λ w value done gives. leaves_value gives started) is noted_so

pub opening_may_end : (old mid : LinkTable) (folders : List (List ℕ)) (files : Option (List File)) (h : ℕ) (call : Call) (came : Served) → OpensIn old folders files h call came mid
    → mid.harts ≡ old.harts → MayEndIn old h → came ≡ served.Memory → MayEndIn mid h
opening_may_end old mid folders files h call came opened harts may memory =
    wanting_may_end (IsOver (machine_of old.harts) folders files) old mid h call came (given_to old.harts folders files) (over_given old.harts folders files) opened harts memory may

-- ---- success

reaches : (root : ℕ) (does : MemoryChange) (denied : ℕ) (came : Served) → OpensOr root came → Reaches root (answer_with does denied came)
reaches root does denied (served.Done value) so = so
reaches root does denied (served.Opened handle installs functions) so = so
reaches root does denied (served.Closing dying functions) so = so
reaches root does denied (served.Refused fault) so = absurd so
reaches root does denied (served.Again for) so = so
reaches root does denied served.Memory so = refl

pub opens_wholly : (old : LinkTable) (folders : List (List ℕ)) (files : Option (List File)) (failures failures' h : ℕ) (ask : OpenAsk) (does : MemoryChange) (denied : ℕ) (came : Served) (result : Answered)
    → OpensUnlessReadsFail old folders files failures failures' h ask came → result ≡ answer_with does denied came → AnswersUnlessReadsFail old folders files failures failures' h ask result
opens_wholly old folders files failures failures' h ask does denied came result whole is = λ told are unrisen w id root added ranges over may.
    subst (Reaches root) (sym is) (reaches root does denied came (whole told are unrisen w id root added ranges over may))

-- ---- refusals

abbrev answer_refusal : OpenAnswer → Option DlFault
answer_refusal (openings.Done id root added ranges) = None
answer_refusal openings.Absent = None
answer_refusal (openings.Refused fault) = Some fault

abbrev event_refusal : Event → Option DlFault
event_refusal (Open h ask answer) = answer_refusal answer
event_refusal other = None

abbrev first_refusal : List Event → Option DlFault
first_refusal [] = None
first_refusal (e ∷ rest) = event_refusal e

abbrev refusal_in : Answer → Option DlFault
refusal_in (refused fault) = Some fault
refusal_in other = None

-- the event of an opening tells whether it is refused
abbrev OpeningTells : Call → Answer → List Event → Type 0
OpeningTells (opens ask) answer given = first_refusal given ≡ refusal_in answer
OpeningTells call answer given = Unit {0}

one_tells : {h : ℕ} {call : Call} {e : Event} {answer : Answer} → EventAnswers h call e answer → OpeningTells call answer (e ∷ [])
one_tells (EventAnswers.is_loaded ask id root first rest ranges) = refl
one_tells (EventAnswers.is_there ask id root ranges) = refl
one_tells (EventAnswers.is_absent ask) = refl
one_tells (EventAnswers.is_not_opened ask fault) = refl
one_tells (EventAnswers.dies handle first rest) = tt
one_tells (EventAnswers.stays handle) = tt
one_tells (EventAnswers.is_not_closed handle fault) = tt
one_tells (EventAnswers.is_unmapped set) = tt
one_tells (EventAnswers.is_granted owner eights slot number choice value eight) = tt
one_tells (EventAnswers.is_unresolved owner eights slot eight) = tt
one_tells (EventAnswers.is_not_code owner eights slot serial index eight) = tt
one_tells (EventAnswers.is_found ask serial index value) = tt
one_tells (EventAnswers.is_not_found ask fault) = tt
one_tells (EventAnswers.is_told fault) = tt
one_tells (EventAnswers.is_written bytes) = tt

none_tells : (call : Call) (answer : Answer) → refusal_in answer ≡ None → OpeningTells call answer []
none_tells (opens ask) answer none = sym none
none_tells call answer none = tt

tells : {w : Setting} {past : List Event} {h : ℕ} {call : Call} {given : List Event} {answer : Answer} → Gives w past h call given answer → OpeningTells call answer given
tells (Gives.by_event call e answer answers may) = one_tells answers
tells (Gives.by_first_block ask e f value first) = tt
tells (Gives.in_new_block number offset block e gets) = tt
tells (Gives.in_block number offset block has) = tt
tells (Gives.to_again call for shows) = none_tells call (again for) refl
tells (Gives.to_end call reason ends) = none_tells call (over reason) refl

-- what is noted behind the call's own events
abbrev behind : ℕ → Served → List Event
behind h (served.Done value) = []
behind h (served.Opened root installs functions) = []
behind h (served.Closing dying functions) = []
behind h (served.Refused fault) = []
behind h (served.Again for) = []
behind h served.Memory = Ended h ends.Memory ∷ []

noted_behind : (mid : LinkTable) (h : ℕ) (came : Served) → (noted mid h came).events ≡ mid.events ++ behind h came
noted_behind mid h (served.Done value) = sym (append-nil mid.events)
noted_behind mid h (served.Opened root installs functions) = sym (append-nil mid.events)
noted_behind mid h (served.Closing dying functions) = sym (append-nil mid.events)
noted_behind mid h (served.Refused fault) = sym (append-nil mid.events)
noted_behind mid h (served.Again for) = sym (append-nil mid.events)
noted_behind mid h served.Memory = refl

tells_served : (w : Setting) (past : List Event) (h : ℕ) (ask : OpenAsk) (came : Served) (given : List Event) → IsServed w past h (opens ask) came given
    → first_refusal (given ++ behind h came) ≡ refusal_of came
tells_served w past h ask (served.Done value) given is = ap first_refusal (append-nil given) ∙ tells is
tells_served w past h ask (served.Opened root installs functions) given is = ap first_refusal (append-nil given) ∙ tells is.gives
tells_served w past h ask (served.Closing dying functions) given is = ap first_refusal (append-nil given) ∙ tells is.gives
tells_served w past h ask (served.Refused fault) given is = ap first_refusal (append-nil given) ∙ tells is
tells_served w past h ask (served.Again for) given is = ap first_refusal (append-nil given) ∙ tells is
tells_served w past h ask served.Memory given is = ap (λ (es : List Event). first_refusal (es ++ Ended h ends.Memory ∷ [])) is

pub shows_refusal : (old mid new : LinkTable) (folders : List (List ℕ)) (files : Option (List File)) (h : ℕ) (ask : OpenAsk) (came : Served) (failures failures' misses misses' : ℕ)
    → OpensIn old folders files h (opens ask) came mid → new ≡ noted mid h came → ShowsInCounts (ArePaths folders) (refusal_of came) failures failures' misses misses'
    → RefusalIsCounted folders old.events new.events h failures failures' misses misses'
shows_refusal old mid new folders files h ask came failures failures' misses misses' comes noted_so shows = λ other fault are.
    let w = given_to old.harts folders files in
    let all : new.events ≡ old.events ++ (comes.given ++ behind h came) =
    ap (λ (t : LinkTable). t.events) noted_so ∙ noted_behind mid h came ∙ ap (λ (es : List Event). es ++ behind h came) comes.are ∙ append_assoc old.events comes.given (behind h came) in
    let same : comes.given ++ behind h came ≡ Open h other (openings.Refused fault) ∷ [] = append_cancel_left old.events _ _ (sym all ∙ are) in
    let some : refusal_of came ≡ Some fault =
    sym (tells_served w old.events h ask came comes.given (comes.served w (over_given old.harts folders files))) ∙ ap first_refusal same in
    subst (λ (f : Option DlFault). ShowsInCounts (ArePaths folders) f failures failures' misses misses') some shows
