-- Calls whose answer is known: what a hart gets of it.
use Rattle.std.proofs.Common.{◌≡◌, ℕ, List, [], ◌∷◌, ◌++◌, refl, sym, ap, subst, ◌∙◌, append_assoc}
use Rattle.std.specs.Prelude.{IsTrue, Option}
use Rattle.std.proofs.lemmas.List.{append-nil}
use Rattle.history_calls.specs.CallLaws.Coming.{Comes}
use Rattle.history_journal.specs.Following.{machine_of}
use Rattle.ld_base.specs.declared.linking.File.{File}
use Rattle.history_event.specs.declared.event.Event.{Event}
use Rattle.history_event.specs.declared.event.Event.TheVariants.{Ended, Open}
use Rattle.history_event.specs.declared.handed.Function.{Function}
use Rattle.history_event.specs.declared.hart_end.HartEnd.{HartEnd}
use Rattle.history_event.specs.declared.hart_end.HartEnd.TheVariants as ends
use Rattle.history_event.specs.declared.event.OpenAnswer.TheVariants as opens
use Rattle.history_state.specs.After.{after}
use Rattle.history_state.specs.Allowed.{MayEnd}
use Rattle.history_state.specs.Setting.{Setting}
use Rattle.history_state.specs.State.{State}
use Rattle.history_state.specs.Lemmas.History.{after_push}
use Rattle.history_calls.specs.declared.link_served.installs.Installs.{Installs}
use Rattle.history_calls.specs.declared.link_served.served.Served.{Served}
use Rattle.history_calls.specs.declared.link_served.served.Served.TheVariants as served
use Rattle.history_calls.specs.Answer.{Answer, returns, loading, closing, refused, again, over, refused_value}
use Rattle.history_calls.specs.Call.{Call}
use Rattle.history_calls.specs.Ends.{no_memory, takes_memory}
use Rattle.history_calls.specs.Gives.{Gives, ending, to_end}
use Rattle.history_calls.specs.Served.{AreInstalls, IsOpened, IsServed}
use Rattle.link_state.specs.Table.{LinkTable, appended}
use Rattle.world_memory.specs.TurnAnswers.Answered.{IsAnswered}
use Rattle.world_memory.specs.TurnAnswers.Changes.{AreReserved, Changes}
use Rattle.world_memory.specs.declared.turn_answers.answered.Answered.{Answered}
use Rattle.world_memory.specs.declared.turn_answers.answered.Answered.TheVariants as answered
use Rattle.world_memory.specs.declared.turn_answers.answered.MemoryChange.{MemoryChange}
use Rattle.world_memory.specs.declared.turn_answers.answered.MemoryChange.TheVariants as change
use Rattle.world_answers.specs.Answers.{AnswersBy, CallIsAnswered, MayEndIn}
use Rattle.world_answers.specs.Served.{answer_with, noted}
use Rattle.world_answers.proofs.Quiet.{leaves}

-- ---- a call that goes on, and one that ends its hart

pub goes_on : (w : Setting) (past given events : List Event) (made : Installs) (h : ℕ) (call : Call) (answer : Answer) (came : Answered) → events ≡ past ++ given → ending h answer ≡ []
    → ((reason : HartEnd) → answer ≡ over reason → ⊥) → Gives w past h call given answer → IsAnswered past given h made call answer came → CallIsAnswered w past events made h call came
goes_on w past given events made h call answer came are none goes gives is = record {
  appended = given;
  are = are;
  answer = answer;
  serves = record { given = given; gives = gives; may_end = λ reason e. absurd (goes reason e); are = sym (append-nil given) ∙ ap (λ (es : List Event). given ++ es) (sym none) };
  answered = is;
}

pub ends_so : (w : Setting) (past given events : List Event) (made : Installs) (h : ℕ) (call : Call) (reason : HartEnd) → events ≡ past ++ (given ++ Ended h reason ∷ []) → MayEnd w (after past) h
    → Gives w past h call given (over reason) → CallIsAnswered w past events made h call (answered.Over reason)
ends_so w past given events made h call reason are may gives = record {
  appended = given ++ Ended h reason ∷ [];
  are = are;
  answer = over reason;
  serves = record { given = given; gives = gives; may_end = λ other e. may; are = refl };
  answered = IsAnswered.is_over reason (leaves gives);
}

-- the journal of a state that has noted the end
end_behind : (old mid new : LinkTable) (h : ℕ) (given : List Event) (reason : HartEnd) → mid.events ≡ old.events ++ given → new ≡ appended mid (Ended h reason)
    → new.events ≡ old.events ++ (given ++ Ended h reason ∷ [])
end_behind old mid new h given reason are noted =
    ap (λ (t : LinkTable). t.events) noted ∙ ap (λ (es : List Event). es ++ Ended h reason ∷ []) are ∙ append_assoc old.events given (Ended h reason ∷ [])

pub over_in : (old mid new : LinkTable) (h : ℕ) (call : Call) (given : List Event) (reason : HartEnd) (result : Answered) → mid.events ≡ old.events ++ given → result ≡ answered.Over reason
    → new ≡ appended mid (Ended h reason) → (w : Setting) → MayEnd w (after old.events) h → Gives w old.events h call given (over reason) → CallIsAnswered w old.events new.events new.made h call result
over_in old mid new h call given reason result are is noted w may gives =
    subst (λ (came : Answered). CallIsAnswered w old.events new.events new.made h call came) (sym is)
    (ends_so w old.events given new.events new.made h call reason (end_behind old mid new h given reason are noted) may gives)

-- ---- a state that may be ended in

pub still_may_end : (old mid : LinkTable) (h : ℕ) → mid.harts ≡ old.harts → after mid.events ≡ after old.events → MayEndIn old h → MayEndIn mid h
still_may_end old mid h harts same may = λ w on. subst (λ (s : State). MayEnd w s h) (sym same) (may w (on ∙ ap machine_of harts))

-- ---- calls of dl functions

-- what is reserved by the event of a load
reserves : (w : Setting) (past given : List Event) (h : ℕ) (call : Call) (root : ℕ) (installs : Installs) (functions : List Function) → IsOpened w past h call root installs functions given
    → AreReserved (after past) given installs
reserves w past given h call root installs functions is = record {
  first = Open h is.ask (opens.Done is.id root is.added is.ranges);
  behind = [];
  are = is.is;
  takes_none = refl;
  installed = subst (λ (s : State). AreInstalls s is.added is.ranges installs)
      (ap (λ (es : List Event). after (past ++ es)) is.is ∙ after_push past (Open h is.ask (opens.Done is.id root is.added is.ranges))) is.installed;
  leave = tt;
}

module _ (old mid : LinkTable) (h : ℕ) (call : Call) (does : MemoryChange) (given : List Event) (are : mid.events ≡ old.events ++ given) (takes : IsTrue (takes_memory call)) (w : Setting)
    (may : MayEnd w (after old.events) h) where
  abbrev Made : LinkTable → Answered → Type 0
  Made new came = CallIsAnswered w old.events new.events new.made h call came

  abbrev Does : Served → Type 0
  Does came = (value : ℕ) → came ≡ served.Done value → Gives w old.events h call given (returns value) → Changes (after old.events) given mid.made does

  served_so : (came : Served) → Does came → IsServed w old.events h call came given → Made (noted mid h came) (answer_with does (refused_value call) came)
  served_so (served.Done value) changes is =
      goes_on w old.events given mid.events mid.made h call (returns value) (answered.Returns value does) are refl (λ reason e. let d : returns value ≡ over reason = e in cc) is
      (IsAnswered.is_returned value does (changes value refl is))
  served_so (served.Opened root installs functions) changes is =
      goes_on w old.events given mid.events mid.made h call (loading root is.added) (answered.Loading root installs functions) are refl
      (λ reason e. let d : loading root is.added ≡ over reason = e in cc) is.gives
      (IsAnswered.is_loaded root is.added installs functions (reserves w old.events given h call root installs functions is) is.constructed)
  served_so (served.Closing dying functions) changes is =
      goes_on w old.events given mid.events mid.made h call (closing dying.list) (answered.Closing dying functions) are refl (λ reason e. let d : closing dying.list ≡ over reason = e in cc) is.gives
      (IsAnswered.is_closing dying functions (leaves is.gives) is.finalised)
  served_so (served.Refused fault) changes is =
      goes_on w old.events given mid.events mid.made h call (refused fault) (answered.Returns (refused_value call) change.Nothing) are refl
      (λ reason e. let d : refused fault ≡ over reason = e in cc) is (IsAnswered.is_refused fault (leaves is))
  served_so (served.Again for) changes is =
      goes_on w old.events given mid.events mid.made h call (again for) (answered.Again for) are refl (λ reason e. let d : again for ≡ over reason = e in cc) is
      (IsAnswered.has_to_wait for (leaves is))
  served_so served.Memory changes is =
      over_in old mid (appended mid (Ended h ends.Memory)) h call [] ends.Memory (answered.Over ends.Memory) (are ∙ ap (λ (es : List Event). old.events ++ es) is) refl refl w may
      (to_end call ends.Memory (no_memory call takes))

-- the same of the state and the answer as they are
pub served_in : (IsOf : Setting → Type 0) (old mid new : LinkTable) (h : ℕ) (call : Call) (does : MemoryChange) (denied : ℕ) (came : Served) (result : Answered) → IsTrue (takes_memory call)
    → refused_value call ≡ denied → (comes : Comes IsOf old.events mid.events h call came) → ((w : Setting) → IsOf w → MayEnd w (after old.events) h)
    → ((w : Setting) (value : ℕ) → came ≡ served.Done value → Gives w old.events h call comes.given (returns value) → Changes (after old.events) comes.given mid.made does)
    → result ≡ answer_with does denied came → new ≡ noted mid h came → AnswersBy IsOf old h call result new
served_in IsOf old mid new h call does denied came result takes value comes may changes is noted_so = λ w of.
    subst (λ (t : LinkTable). CallIsAnswered w old.events t.events t.made h call result) (sym noted_so)
    (subst (λ (r : Answered). CallIsAnswered w old.events (noted mid h came).events (noted mid h came).made h call r) (ap (λ (n : ℕ). answer_with does n came) value ∙ sym is)
    (served_so old mid h call does comes.given comes.are takes w (may w of) came (changes w) (comes.served w of)))

-- one of the runs with these folders and files
abbrev pub given_to : ℕ → List (List ℕ) → Option (List File) → Setting
given_to harts folders files = record { machine = machine_of harts; folders = folders; preload = []; files = files }

-- for want of memory nothing has come of the call, and the hart may end still
pub wanting_may_end : (IsOf : Setting → Type 0) (old mid : LinkTable) (h : ℕ) (call : Call) (came : Served) (w : Setting) → IsOf w → Comes IsOf old.events mid.events h call came
    → mid.harts ≡ old.harts → came ≡ served.Memory → MayEndIn old h → MayEndIn mid h
wanting_may_end IsOf old mid h call came w of comes harts memory may =
    let none : comes.given ≡ [] = subst (λ (c : Served). IsServed w old.events h call c comes.given) memory (comes.served w of) in
    let same : mid.events ≡ old.events = comes.are ∙ ap (λ (es : List Event). old.events ++ es) none ∙ append-nil old.events in
    still_may_end old mid h harts (ap after same) may

pub noted_harts : (mid : LinkTable) (h : ℕ) (came : Served) → (noted mid h came).harts ≡ mid.harts
noted_harts mid h (served.Done value) = refl
noted_harts mid h (served.Opened root installs functions) = refl
noted_harts mid h (served.Closing dying functions) = refl
noted_harts mid h (served.Refused fault) = refl
noted_harts mid h (served.Again for) = refl
noted_harts mid h served.Memory = refl
