-- What an answered call comes to: the room that it takes, what it waits for, and which of its events comes first.
use Rattle.std.proofs.Common.{◌≡◌, inl, ℕ, ◌<◌, Bool, true, false, List, [], ◌∷◌, ◌++◌, Option, Some, None, refl, sym, ap, subst, ◌∙◌, append-nil, append_assoc}
use Rattle.std.proofs.lemmas.Bool.{true≢false}
use Rattle.std.proofs.lemmas.List.{append_cancel_left}
use Rattle.std.specs.Prelude.{IsTrue}
use Rattle.ld_base.specs.declared.fault.DlFault.{DlFault}
use Rattle.ld_base.specs.declared.fault.Shown.{Shown}
use Rattle.ld_base.specs.declared.linking.File.{File}
use Rattle.history_event.specs.declared.event.Event.{Event}
use Rattle.history_event.specs.declared.event.Event.TheVariants as events
use Rattle.history_event.specs.declared.event.OpenAnswer.TheVariants as openings
use Rattle.history_event.specs.declared.event.OpenAsk.{OpenAsk}
use Rattle.history_event.specs.declared.hart_end.HartEnd.TheVariants as ends
use Rattle.history_state.specs.After.{after}
use Rattle.history_state.specs.Setting.{Setting}
use Rattle.history_calls.specs.declared.link_served.installs.Installs.{Installs}
use Rattle.history_calls.specs.Answer.{Answer, returns, loading, closing, refused, granted, told, again, over}
use Rattle.history_calls.specs.Call.{Call, resolves, opens, looks_up, closes, unmaps, asks_fault, locates, writes, stops}
use Rattle.history_calls.specs.Ends.{EndsAs, takes_memory}
use Rattle.history_calls.specs.Gives.{EventAnswers, Gives, ending}
use Rattle.history_calls.specs.Waiting.{Shows}
use Rattle.link_state.specs.Table.{LinkTable, appended}
use Rattle.history_journal.specs.Following.{machine_of}
use Rattle.history_calls.specs.CallLaws.Coming.{IsOver}
use Rattle.hart_moves.specs.Due.{Due, due}
use Rattle.hart_moves.specs.Harts.{HartState}
use Rattle.world_memory.specs.TurnAnswers.Answered.{AnswersTurn, IsAnswered}
use Rattle.world_memory.specs.TurnAnswers.Turn.{TakesService}
use Rattle.world_memory.specs.declared.turn_answers.answered.Answered.{Answered}
use Rattle.world_memory.specs.declared.turn_answers.answered.Answered.TheVariants as answered
use Rattle.world_memory.specs.declared.turn_answers.answered.MemoryChange.{MemoryChange}
use Rattle.world_answers.specs.Answers.{AnswersDue}
use Rattle.world_answers.specs.Openings.{TurnRefusalIsCounted}
use Rattle.world_answers.specs.ReturnsPart.Answering.{WasAnswered, runs_functions}
use Rattle.world_answers.specs.declared.guests.guest_worlds.turn.Turn.{Turn}
use Rattle.world_answers.specs.declared.guests.guest_worlds.turn.Turn.TheVariants as turn
use Rattle.world_answers.specs.GuestsPart.Asking.{may_run_by, may_run_functions}
use Rattle.world_answers.specs.GuestsPart.Next.{HasAnswer, TurnTells, is_again}
use Rattle.world_answers.specs.GuestsPart.Taking.{MakesCall}
use Rattle.world_answers.proofs.GuestsPart.Moved.{is_over, setting_with}
use Rattle.world_answers.proofs.GuestsPart.Openings.{Gave, given_gave}

-- ---- want of memory

takes_room : (call : Call) → may_run_by call ≡ true → IsTrue (takes_memory call)
takes_room (resolves owner eights) runs = refl
takes_room (opens ask) runs = refl
takes_room (looks_up ask) runs = refl
takes_room (closes handle) runs = refl
takes_room (unmaps set) runs = absurd (true≢false (sym runs))
takes_room asks_fault runs = refl
takes_room (locates number offset) runs = refl
takes_room (writes bytes) runs = refl
takes_room (stops reason) runs = absurd (true≢false (sym runs))

module _ (old new : LinkTable) (folders : List (List ℕ)) (files : Option (List File)) (h : ℕ) (b : HartState) (makes : MakesCall old.harts old.events h b)
    (noted : new ≡ appended old (events.Ended h ends.Memory)) where
  -- there is no room for functions
  pub lacks_room : may_run_functions (due (after old.events) b) ≡ true
      → AnswersDue old folders files h (due (after old.events) b) (answered.Over ends.Memory) new
  lacks_room runs = λ w on. record {
    call = makes.call;
    return = makes.back;
    is = makes.is;
    appended = events.Ended h ends.Memory ∷ [];
    are = ap (λ (t : LinkTable). t.events) noted;
    answer = over ends.Memory;
    serves = record {
      given = [];
      gives = Gives.to_end makes.call ends.Memory (EndsAs.no_memory makes.call (takes_room makes.call (sym (ap may_run_functions makes.is) ∙ runs)));
      may_end = λ reason is. makes.may.«end».may w on.machine;
      are = refl;
    };
    answered = IsAnswered.is_over ends.Memory (refl, refl, tt);
  }

  -- which refuses no opening
  pub lack_is_counted : (d : Due) (failures failures' misses misses' : ℕ)
      → TurnRefusalIsCounted folders old.events new.events h d failures failures' misses misses'
  lack_is_counted d failures failures' misses misses' = λ ask back due asked fault is.
      let same : events.Ended h ends.Memory ∷ [] ≡ events.Open h asked (openings.Refused fault) ∷ [] =
      append_cancel_left old.events _ _ (sym (ap (λ (t : LinkTable). t.events) noted) ∙ is) in
      absurd (let e : events.Ended h ends.Memory ≡ events.Open h asked (openings.Refused fault) = cc in cc)

-- ---- answers by which functions are to run

abbrev pub is_refusal : Event → Bool
is_refusal e = elim e [
  | events.Open hart ask answer ↦ elim answer [ openings.Refused fault ↦ true | _ ↦ false ]
  | _ ↦ false
]

-- the call may come to it, and its first event refuses no opening
pub record RunsFirst (call : Call) (given : List Event) : Type 0 where
  pub may : may_run_by call ≡ true
  pub first : Event
  pub behind : List Event
  pub are : given ≡ first ∷ behind
  pub opens_some : is_refusal first ≡ false

abbrev Runs : Call → List Event → Answer → Type 0
Runs call given (returns value) = Unit {0}
Runs call given (loading root added) = RunsFirst call given
Runs call given (closing set) = RunsFirst call given
Runs call given (refused fault) = Unit {0}
Runs call given (granted grant) = Unit {0}
Runs call given (told fault) = Unit {0}
Runs call given (again for) = Unit {0}
Runs call given (over reason) = Unit {0}

answer_runs : (h : ℕ) (call : Call) (e : Event) (answer : Answer) → EventAnswers h call e answer → Runs call (e ∷ ending h answer) answer
answer_runs h call e answer (EventAnswers.is_loaded ask id root first rest ranges) =
    record { may = refl; first = _; behind = []; are = refl; opens_some = refl }
answer_runs h call e answer (EventAnswers.is_there ask id root ranges) = tt
answer_runs h call e answer (EventAnswers.is_absent ask) = tt
answer_runs h call e answer (EventAnswers.is_not_opened ask fault) = tt
answer_runs h call e answer (EventAnswers.dies handle first rest) = record { may = refl; first = _; behind = []; are = refl; opens_some = refl }
answer_runs h call e answer (EventAnswers.stays handle) = tt
answer_runs h call e answer (EventAnswers.is_not_closed handle fault) = tt
answer_runs h call e answer (EventAnswers.is_unmapped set) = tt
answer_runs h call e answer (EventAnswers.is_granted owner eights slot number choice value is) = tt
answer_runs h call e answer (EventAnswers.is_unresolved owner eights slot is) = tt
answer_runs h call e answer (EventAnswers.is_not_code owner eights slot serial index is) = tt
answer_runs h call e answer (EventAnswers.is_found ask serial index value) = tt
answer_runs h call e answer (EventAnswers.is_not_found ask fault) = tt
answer_runs h call e answer (EventAnswers.is_told fault) = tt
answer_runs h call e answer (EventAnswers.is_written bytes) = tt

given_runs : (w : Setting) (past : List Event) (h : ℕ) (call : Call) (given : List Event) (answer : Answer) → Gives w past h call given answer
    → Runs call (given ++ ending h answer) answer
given_runs w past h call given answer (Gives.by_event _ e _ answers may) = answer_runs h call e answer answers
given_runs w past h call given answer (Gives.by_first_block ask e f value finds) = tt
given_runs w past h call given answer (Gives.in_new_block number offset block e gets) = tt
given_runs w past h call given answer (Gives.in_block number offset block has) = tt
given_runs w past h call given answer (Gives.to_again _ for shows) = tt
given_runs w past h call given answer (Gives.to_end _ reason ends) = tt

answered_runs : (past appended : List Event) (h : ℕ) (made : Installs) (call : Call) (answer : Answer) (came : Answered)
    → IsAnswered past appended h made call answer came → Runs call appended answer → runs_functions came ≡ true → RunsFirst call appended
answered_runs past appended h made call answer came (IsAnswered.is_returned value does changes) first runs = absurd (true≢false (sym runs))
answered_runs past appended h made call answer came (IsAnswered.is_refused fault changes) first runs = absurd (true≢false (sym runs))
answered_runs past appended h made call answer came (IsAnswered.is_loaded root added installs functions changes are) first runs = first
answered_runs past appended h made call answer came (IsAnswered.is_closing dying functions changes are) first runs = first
answered_runs past appended h made call answer came (IsAnswered.is_granted grant offered changes offer) first runs = absurd (true≢false (sym runs))
answered_runs past appended h made call answer came (IsAnswered.is_told_none changes) first runs = absurd (true≢false (sym runs))
answered_runs past appended h made call answer came (IsAnswered.is_told fault text is changes) first runs = absurd (true≢false (sym runs))
answered_runs past appended h made call answer came (IsAnswered.has_to_wait for changes) first runs = absurd (true≢false (sym runs))
answered_runs past appended h made call answer came (IsAnswered.is_over reason changes) first runs = absurd (true≢false (sym runs))

turn_runs : (w : Setting) (past linked : List Event) (made : Installs) (h : ℕ) (d : Due) (came : Answered) (t : AnswersTurn w past linked made h d came)
    → runs_functions came ≡ true → RunsFirst t.call t.appended
turn_runs w past linked made h d came t runs =
    answered_runs past t.appended h made t.call t.answer came t.answered
    (subst (λ (es : List Event). Runs t.call es t.answer) (sym t.serves.are) (given_runs w past h t.call t.serves.given t.answer t.serves.gives)) runs

-- there is room for them where the call took it
pub has_room : (old new : LinkTable) (folders : List (List ℕ)) (files : Option (List File)) (h : ℕ) (d : Due) (came : Answered) (spare : ℕ)
    → AnswersDue old folders files h d came new → (may_run_functions d ≡ true → 0 < spare) → IsTrue (runs_functions came) → 0 < spare
has_room old new folders files h d came spare answers room runs =
    let w : Setting = setting_with old.harts folders [] files in
    let t : AnswersTurn w old.events new.events new.made h d came = answers w (is_over old.harts folders [] files) in
    room (ap may_run_functions t.is ∙ (turn_runs w old.events new.events new.made h d came t runs).may)

-- ---- counts

-- what the turn notes behind the answer's events refuses nothing
pub still_counted : (w : Setting) (folders : List (List ℕ)) (past linked journal : List Event) (made : Installs) (h : ℕ) (d : Due) (came : Answered)
    (failures failures' misses misses' : ℕ) → AnswersTurn w past linked made h d came → (noted : List Event) × (journal ≡ linked ++ noted)
    → (runs_functions came ≡ false → journal ≡ linked) → TurnRefusalIsCounted folders past linked h d failures failures' misses misses'
    → TurnRefusalIsCounted folders past journal h d failures failures' misses misses'
still_counted w folders past linked journal made h d came failures failures' misses misses' t noted kept counted = λ ask back due asked fault is.
    counted ask back due asked fault (by asked fault is (runs_functions came) refl ∙ is)
  where
    refused_first : (asked : OpenAsk) (fault : DlFault) → journal ≡ past ++ events.Open h asked (openings.Refused fault) ∷ [] → RunsFirst t.call t.appended → ⊥
    refused_first asked fault is first =
        let long : t.appended ++ noted.0 ≡ events.Open h asked (openings.Refused fault) ∷ [] =
        append_cancel_left past _ _ (sym (append_assoc past t.appended noted.0) ∙ ap (λ (es : List Event). es ++ noted.0) (sym t.are) ∙ sym noted.1 ∙ is) in
        let same : first.first ∷ (first.behind ++ noted.0) ≡ events.Open h asked (openings.Refused fault) ∷ [] =
        ap (λ (es : List Event). es ++ noted.0) (sym first.are) ∙ long in
        let one : first.first ≡ events.Open h asked (openings.Refused fault) = cc in
        true≢false (sym (ap is_refusal one) ∙ first.opens_some)

    by : (asked : OpenAsk) (fault : DlFault) → journal ≡ past ++ events.Open h asked (openings.Refused fault) ∷ [] → (runs : Bool) → runs_functions came ≡ runs → linked ≡ journal
    by asked fault is false none = sym (kept none)
    by asked fault is true runs = absurd (refused_first asked fault is (turn_runs w past linked made h d came t runs))

-- ---- waiting

abbrev Waits : Setting → List Event → ℕ → Call → Answer → Type 0
Waits w past h call (returns value) = Unit {0}
Waits w past h call (loading root added) = Unit {0}
Waits w past h call (closing set) = Unit {0}
Waits w past h call (refused fault) = Unit {0}
Waits w past h call (granted grant) = Unit {0}
Waits w past h call (told fault) = Unit {0}
Waits w past h call (again for) = Shows w (after past) h call for
Waits w past h call (over reason) = Unit {0}

answer_waits : (w : Setting) (past : List Event) (h : ℕ) (call : Call) (e : Event) (answer : Answer) → EventAnswers h call e answer → Waits w past h call answer
answer_waits w past h call e answer (EventAnswers.is_loaded ask id root first rest ranges) = tt
answer_waits w past h call e answer (EventAnswers.is_there ask id root ranges) = tt
answer_waits w past h call e answer (EventAnswers.is_absent ask) = tt
answer_waits w past h call e answer (EventAnswers.is_not_opened ask fault) = tt
answer_waits w past h call e answer (EventAnswers.dies handle first rest) = tt
answer_waits w past h call e answer (EventAnswers.stays handle) = tt
answer_waits w past h call e answer (EventAnswers.is_not_closed handle fault) = tt
answer_waits w past h call e answer (EventAnswers.is_unmapped set) = tt
answer_waits w past h call e answer (EventAnswers.is_granted owner eights slot number choice value is) = tt
answer_waits w past h call e answer (EventAnswers.is_unresolved owner eights slot is) = tt
answer_waits w past h call e answer (EventAnswers.is_not_code owner eights slot serial index is) = tt
answer_waits w past h call e answer (EventAnswers.is_found ask serial index value) = tt
answer_waits w past h call e answer (EventAnswers.is_not_found ask fault) = tt
answer_waits w past h call e answer (EventAnswers.is_told fault) = tt
answer_waits w past h call e answer (EventAnswers.is_written bytes) = tt

given_waits : (w : Setting) (past : List Event) (h : ℕ) (call : Call) (given : List Event) (answer : Answer) → Gives w past h call given answer
    → Waits w past h call answer
given_waits w past h call given answer (Gives.by_event _ e _ answers may) = answer_waits w past h call e answer answers
given_waits w past h call given answer (Gives.by_first_block ask e f value finds) = tt
given_waits w past h call given answer (Gives.in_new_block number offset block e gets) = tt
given_waits w past h call given answer (Gives.in_block number offset block has) = tt
given_waits w past h call given answer (Gives.to_again _ for shows) = shows
given_waits w past h call given answer (Gives.to_end _ reason ends) = tt

answered_waits : (past appended : List Event) (h : ℕ) (made : Installs) (call : Call) (answer : Answer) (came : Answered) (shown : Shown)
    → IsAnswered past appended h made call answer came → came ≡ answered.Again shown → answer ≡ again shown
answered_waits past appended h made call answer came shown (IsAnswered.is_returned value does changes) is = absurd cc
answered_waits past appended h made call answer came shown (IsAnswered.is_refused fault changes) is = absurd cc
answered_waits past appended h made call answer came shown (IsAnswered.is_loaded root added installs functions changes are) is = absurd cc
answered_waits past appended h made call answer came shown (IsAnswered.is_closing dying functions changes are) is = absurd cc
answered_waits past appended h made call answer came shown (IsAnswered.is_granted grant offered changes offer) is = absurd cc
answered_waits past appended h made call answer came shown (IsAnswered.is_told_none changes) is = absurd cc
answered_waits past appended h made call answer came shown (IsAnswered.is_told fault text same changes) is = absurd cc
answered_waits past appended h made call answer came shown (IsAnswered.has_to_wait for changes) is = let same : for ≡ shown = cc in ap again same
answered_waits past appended h made call answer came shown (IsAnswered.is_over reason changes) is = absurd cc

-- one that isn't told to wait has another answer
answered_else : (past appended : List Event) (h : ℕ) (made : Installs) (call : Call) (answer : Answer) (came : Answered)
    → IsAnswered past appended h made call answer came → ((shown : Shown) → came ≡ answered.Again shown → ⊥) → is_again answer ≡ false
answered_else past appended h made call answer came (IsAnswered.is_returned value does changes) other = refl
answered_else past appended h made call answer came (IsAnswered.is_refused fault changes) other = refl
answered_else past appended h made call answer came (IsAnswered.is_loaded root added installs functions changes are) other = refl
answered_else past appended h made call answer came (IsAnswered.is_closing dying functions changes are) other = refl
answered_else past appended h made call answer came (IsAnswered.is_granted grant offered changes offer) other = refl
answered_else past appended h made call answer came (IsAnswered.is_told_none changes) other = refl
answered_else past appended h made call answer came (IsAnswered.is_told fault text same changes) other = refl
answered_else past appended h made call answer came (IsAnswered.has_to_wait for changes) other = absurd (other for refl)
answered_else past appended h made call answer came (IsAnswered.is_over reason changes) other = refl

module _ (old mid : LinkTable) (journal : List Event) (folders : List (List ℕ)) (files : Option (List File)) (h : ℕ) (d : Due) (asked : Answered)
    (waits : Option Shown) (answers : AnswersDue old folders files h d asked mid) (noted : (more : List Event) × (journal ≡ mid.events ++ more))
    (kept : runs_functions asked ≡ false → journal ≡ mid.events) (w : Setting) (on : IsOver (machine_of old.harts) folders files w) where
  abbrev t : AnswersTurn w old.events mid.events mid.made h d asked
  t = answers w on

  has_answer : ((shown : Shown) → asked ≡ answered.Again shown → ⊥) → HasAnswer w old.events journal h t.call
  has_answer other = record {
    appended = t.appended;
    behind = noted.0;
    are = noted.1 ∙ ap (λ (es : List Event). es ++ noted.0) t.are ∙ append_assoc old.events t.appended noted.0;
    answer = t.answer;
    serves = t.serves;
    comes = answered_else old.events t.appended h mid.made t.call t.answer asked t.answered other;
  }

  has_to_wait : (shown : Shown) → asked ≡ answered.Again shown → Shows w (after old.events) h t.call shown × (journal ≡ old.events)
  has_to_wait shown is =
      let answer : t.answer ≡ again shown = answered_waits old.events t.appended h mid.made t.call t.answer asked shown t.answered is in
      let none : t.serves.given ≡ [] =
      subst (λ (a : Answer). Gave h t.call t.serves.given a) answer (given_gave w old.events h t.call t.serves.given t.answer t.serves.gives) in
      let nothing : t.appended ≡ [] = t.serves.are ∙ (λ i. none i ++ ending h (answer i)) in (
        subst (λ (a : Answer). Waits w old.events h t.call a) answer (given_waits w old.events h t.call t.serves.given t.answer t.serves.gives),
        kept (ap runs_functions is) ∙ t.are ∙ ap (λ (es : List Event). old.events ++ es) nothing ∙ append-nil old.events,
      )

  pub turn_tells : (came : Turn) → ((shown : Shown) → came ≡ turn.Again shown → waits ≡ Some shown) → (came ≡ turn.Stepped → waits ≡ None)
      → ((shown : Shown) → waits ≡ Some shown → asked ≡ answered.Again shown)
      → (waits ≡ None → (shown : Shown) → asked ≡ answered.Again shown → ⊥) → TurnTells w old.events journal h d came
  turn_tells turn.Stepped by_turn by_step some none = λ service. (t.call, t.return, t.is, has_answer (none (by_step refl)))
  turn_tells (turn.Again shown) by_turn by_step some none =
      let waits_so = has_to_wait shown (some shown (by_turn shown refl)) in
      (inl (t.call, t.return, t.is, waits_so.0), waits_so.1)
  turn_tells (turn.Ended reason) by_turn by_step some none = tt
  turn_tells turn.Idle by_turn by_step some none = tt

-- ---- what the answer makes of the hart

-- it answers the hart whose next turn it is
pub was_answered : (old mid : LinkTable) (folders : List (List ℕ)) (files : Option (List File)) (h : ℕ) (b b' : HartState) (came : Answered)
    → AnswersDue old folders files h (due (after old.events) b) came mid → mid.harts ≡ old.harts → b' ≡ b → WasAnswered mid h b' came
was_answered old mid folders files h b b' came answers harts same =
    let w : Setting = setting_with old.harts folders [] files in
    record {
      setting = w;
      machine = ap machine_of (sym harts);
      past = old.events;
      answers = subst (λ (y : HartState). AnswersTurn w old.events mid.events mid.made h (due (after old.events) y) came) (sym same)
          (answers w (is_over old.harts folders [] files));
    }

abbrev pub TakesAnswer : LinkTable → LinkTable → ℕ → Answered → MemoryChange → HartState → HartState → Type 0
TakesAnswer mid new h came change b c = (w : Setting) (past : List Event) → AnswersTurn w past mid.events mid.made h (due (after past) b) came
    → TakesService w past new.events new.made h (due (after past) b) b c change

pub takes_answer : (old mid new : LinkTable) (folders : List (List ℕ)) (files : Option (List File)) (h : ℕ) (b b' c : HartState) (came : Answered) (change : MemoryChange)
    → AnswersDue old folders files h (due (after old.events) b) came mid → b' ≡ b → TakesAnswer mid new h came change b' c
    → (w : Setting) → IsOver (machine_of old.harts) folders files w → TakesService w old.events new.events new.made h (due (after old.events) b) b c change
takes_answer old mid new folders files h b b' c came change answers same takes = λ w on.
    subst (λ (y : HartState). TakesAnswer mid new h came change y c) same takes w old.events (answers w on)
