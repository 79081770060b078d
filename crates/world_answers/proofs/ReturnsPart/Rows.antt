-- Turns of answered calls, and those in which an object's functions have run, as rows of the table.
use Rattle.std.proofs.Common.{◌≡◌, ℕ, ◌+◌, ◌^◌, ◌≤◌, true, false, List, [], ◌∷◌, ◌++◌, length, drop, map, Some, None, refl, sym, ap, subst, ◌∙◌, append-nil, arith}
use Rattle.std.proofs.lemmas.List.{append_assoc, length-take}
use Rattle.ld_base.specs.FaultText.{fault_text}
use Rattle.ld_base.specs.declared.fault.DlFault.{DlFault}
use Rattle.ld_base.specs.declared.linking.Loaded.{Loaded}
use Rattle.history_event.specs.declared.event.CloseAnswer.TheVariants as closings
use Rattle.history_event.specs.declared.event.Event.{Event}
use Rattle.history_event.specs.declared.event.Event.TheVariants as events
use Rattle.history_event.specs.declared.event.OpenAnswer.TheVariants as openings
use Rattle.history_event.specs.declared.event.OpenAsk.{OpenAsk}
use Rattle.history_event.specs.declared.event.Range.{Range}
use Rattle.history_event.specs.declared.handed.Dying.{Dying}
use Rattle.history_event.specs.declared.handed.Function.{Function}
use Rattle.history_state.specs.After.{after}
use Rattle.history_state.specs.Allowed.{Allowed}
use Rattle.history_state.specs.Changes.{reserved, taken}
use Rattle.history_state.specs.Laws.{RangesAreApart}
use Rattle.history_state.specs.Legal.{Lawful}
use Rattle.history_state.specs.Objects.{serial_of}
use Rattle.history_state.specs.Setting.{Machine, Setting}
use Rattle.history_state.specs.State.{State}
use Rattle.history_state.specs.Step.{step}
use Rattle.history_journal.specs.Following.{machine_of}
use Rattle.link_state.specs.Table.{LinkTable}
use Rattle.history_calls.specs.declared.link_served.installs.Installs.{Installs}
use Rattle.history_calls.specs.Answer.{Answer, returns, loading, closing, refused, granted, told, again, over}
use Rattle.history_calls.specs.Call.{Call, opens, closes}
use Rattle.history_calls.specs.Functions.{AreConstructors, AreDestructors, left, passed}
use Rattle.history_calls.specs.Gives.{EventAnswers, Gives, Serves, ending}
use Rattle.history_calls.specs.Served.{answer_text}
use Rattle.hart_moves.specs.Copying.{text_words}
use Rattle.hart_moves.specs.Due.{Due, Return, back, due}
use Rattle.hart_moves.specs.Harts.{Frame, HartState, Purpose}
use Rattle.hart_moves.specs.Moves.{AreAllowed, Did, freed, passing, runs, spent, stack_start, telling}
use Rattle.hart_seat.specs.HartParts.Views.{offered_of}
use Rattle.world_memory.specs.TurnAnswers.Answered.{AnswersTurn, IsAnswered}
use Rattle.world_memory.specs.TurnAnswers.Changes.{AreReserved, LeaveMemory}
use Rattle.world_memory.specs.TurnAnswers.Following.{MayFollowAll}
use Rattle.world_memory.specs.TurnAnswers.Turn.{TakesService}
use Rattle.world_memory.specs.declared.turn_answers.answered.Answered.{Answered}
use Rattle.world_memory.specs.declared.turn_answers.answered.Answered.TheVariants as answered
use Rattle.world_memory.specs.declared.turn_answers.answered.MemoryChange.{MemoryChange}
use Rattle.world_memory.specs.declared.turn_answers.answered.MemoryChange.TheVariants as change
use Rattle.world_answers.specs.ReturnsPart.Answering.{WasAnswered, runs_functions}
use Rattle.world_answers.specs.ReturnsPart.Completing.{MayPass}
use Rattle.world_answers.specs.ReturnsPart.Steps.{PassesFirst, ReturnsAs, TextFits, change_by, closing_of, hart_after, noted_with, opening_of, return_by, return_of}
use Rattle.world_answers.specs.declared.returns.returning.CallReturn.{CallReturn}
use Rattle.world_answers.specs.declared.returns.returning.CallReturn.TheVariants as by
use Rattle.world_answers.proofs.ReturnsPart.Passing.{NextLaws, closings_pass, lawful_before, openings_pass, passings_allowed}
use Rattle.world_answers.proofs.ReturnsPart.Stacks.{IsTextPlace, texts_stand}

-- ---- what a call appends

record IsLoading (w : Setting) (past : List Event) (h : ℕ) (call : Call) (given : List Event) (added : List Loaded) : Type 0 where
  pub ask : OpenAsk
  pub id : ℕ
  pub root : ℕ
  pub first : Loaded
  pub rest : List Loaded
  pub ranges : List Range
  pub asked : call ≡ opens ask
  pub are : added ≡ first ∷ rest
  pub is : given ≡ events.Open h ask (openings.Done id root (first ∷ rest) ranges) ∷ []
  pub may : Allowed w past (events.Open h ask (openings.Done id root (first ∷ rest) ranges))

record IsClosing (w : Setting) (past : List Event) (h : ℕ) (call : Call) (given : List Event) (set : List ℕ) : Type 0 where
  pub handle : ℕ
  pub first : ℕ
  pub rest : List ℕ
  pub asked : call ≡ closes handle
  pub are : set ≡ first ∷ rest
  pub is : given ≡ events.Close h handle (closings.Done (first ∷ rest)) ∷ []
  pub may : Allowed w past (events.Close h handle (closings.Done (first ∷ rest)))

abbrev Comes : Setting → List Event → ℕ → Call → List Event → Answer → Type 0
Comes w past h call given (returns value) = Unit {0}
Comes w past h call given (loading root added) = IsLoading w past h call given added
Comes w past h call given (closing set) = IsClosing w past h call given set
Comes w past h call given (refused fault) = Unit {0}
Comes w past h call given (granted g) = Unit {0}
Comes w past h call given (told fault) = Unit {0}
Comes w past h call given (again for) = given ≡ []
Comes w past h call given (over reason) = Unit {0}

answer_comes : (w : Setting) (past : List Event) (h : ℕ) (call : Call) (e : Event) (answer : Answer) → EventAnswers h call e answer → Allowed w past e
    → Comes w past h call (e ∷ ending h answer) answer
answer_comes w past h call e answer (EventAnswers.is_loaded ask id root first rest ranges) may =
    record { ask = ask; id = id; root = root; first = first; rest = rest; ranges = ranges; asked = refl; are = refl; is = refl; may = may }
answer_comes w past h call e answer (EventAnswers.is_there ask id root ranges) may = tt
answer_comes w past h call e answer (EventAnswers.is_absent ask) may = tt
answer_comes w past h call e answer (EventAnswers.is_not_opened ask fault) may = tt
answer_comes w past h call e answer (EventAnswers.dies handle first rest) may =
    record { handle = handle; first = first; rest = rest; asked = refl; are = refl; is = refl; may = may }
answer_comes w past h call e answer (EventAnswers.stays handle) may = tt
answer_comes w past h call e answer (EventAnswers.is_not_closed handle fault) may = tt
answer_comes w past h call e answer (EventAnswers.is_unmapped set) may = tt
answer_comes w past h call e answer (EventAnswers.is_granted owner eights slot number choice value is) may = tt
answer_comes w past h call e answer (EventAnswers.is_unresolved owner eights slot is) may = tt
answer_comes w past h call e answer (EventAnswers.is_not_code owner eights slot serial index is) may = tt
answer_comes w past h call e answer (EventAnswers.is_found ask serial index value) may = tt
answer_comes w past h call e answer (EventAnswers.is_not_found ask fault) may = tt
answer_comes w past h call e answer (EventAnswers.is_told fault) may = tt
answer_comes w past h call e answer (EventAnswers.is_written bytes) may = tt

given_comes : (w : Setting) (past : List Event) (h : ℕ) (call : Call) (given : List Event) (answer : Answer) → Gives w past h call given answer
    → Comes w past h call (given ++ ending h answer) answer
given_comes w past h call given answer (Gives.by_event _ e _ answers may) = answer_comes w past h call e answer answers may
given_comes w past h call given answer (Gives.by_first_block ask e f value finds) = tt
given_comes w past h call given answer (Gives.in_new_block number offset block e gets) = tt
given_comes w past h call given answer (Gives.in_block number offset block has) = tt
given_comes w past h call given answer (Gives.to_again _ for shows) = refl
given_comes w past h call given answer (Gives.to_end _ reason ends) = tt

serves_comes : (w : Setting) (past : List Event) (h : ℕ) (call : Call) (appended : List Event) (answer : Answer) → Serves w past h call appended answer
    → Comes w past h call appended answer
serves_comes w past h call appended answer serves =
    subst (λ (es : List Event). Comes w past h call es answer) (sym serves.are) (given_comes w past h call serves.given answer serves.gives)

-- ---- what passes with it

pub passed_allowed : NextLaws → (m : Machine) (v : Setting) (past appended : List Event) (made : Installs) (h : ℕ) (b : HartState) (call : Call) (answer : Answer)
    (came : Answered) → v.machine ≡ m → Lawful m past → Serves v past h call appended answer → IsAnswered past appended h made call answer came
    → (w : Setting) → AreAllowed w (past ++ appended) (noted_with b h came)
passed_allowed laws m v past appended made h b call answer came same lawful serves (IsAnswered.is_returned value does changes) w = tt
passed_allowed laws m v past appended made h b call answer came same lawful serves (IsAnswered.is_refused fault changes) w = tt
passed_allowed laws m v past appended made h b call answer came same lawful serves (IsAnswered.is_loaded root added installs functions changes are) w =
    let it = serves_comes v past h call appended (loading root added) serves in
    let e : Event = events.Open h it.ask (openings.Done it.id it.root (it.first ∷ it.rest) it.ranges) in
    subst (λ (es : List Event). AreAllowed w (past ++ es) (map (passing (opening_of b root) h) (passed functions))) (sym it.is)
    (openings_pass laws m v past h it.id it.root it.ask it.first it.rest it.ranges functions same lawful it.may
    (subst (λ (es : List Event). AreConstructors (after (past ++ es)) (map serial_of (it.first ∷ it.rest)) functions) it.is
    (subst (λ (os : List Loaded). AreConstructors (after (past ++ appended)) (map serial_of os) functions) it.are are)) w)
passed_allowed laws m v past appended made h b call answer came same lawful serves (IsAnswered.is_closing dying functions changes are) w =
    let it = serves_comes v past h call appended (closing dying.list) serves in
    let e : Event = events.Close h it.handle (closings.Done (it.first ∷ it.rest)) in
    subst (λ (es : List Event). AreAllowed w (past ++ es) (map (passing (closing_of b dying.list) h) (passed functions))) (sym it.is)
    (closings_pass laws m v past h it.handle it.first it.rest functions same lawful it.may
    (subst (λ (es : List Event). AreDestructors (after (past ++ es)) (it.first ∷ it.rest) functions) it.is
    (subst (λ (set : List ℕ). AreDestructors (after (past ++ appended)) set functions) it.are are)) w)
passed_allowed laws m v past appended made h b call answer came same lawful serves (IsAnswered.is_granted grant offered changes offer) w = tt
passed_allowed laws m v past appended made h b call answer came same lawful serves (IsAnswered.is_told_none changes) w = tt
passed_allowed laws m v past appended made h b call answer came same lawful serves (IsAnswered.is_told fault text is changes) w = tt
passed_allowed laws m v past appended made h b call answer came same lawful serves (IsAnswered.has_to_wait for changes) w = tt
passed_allowed laws m v past appended made h b call answer came same lawful serves (IsAnswered.is_over reason changes) w = tt

-- ---- what memory gets

leave_both : (s : State) (xs ys : List Event) → LeaveMemory s xs → ((t : State) → LeaveMemory t ys) → LeaveMemory s (xs ++ ys)
leave_both s [] ys one other = other s
leave_both s (e ∷ rest) ys one other = (one.0, one.1, leave_both (step s e) rest ys one.2 other)

passing_reserves : (purpose : Purpose) (h object : ℕ) (s : State) → reserved s (passing purpose h object) ≡ []
passing_reserves (Purpose.of_startup registers) h object s = refl
passing_reserves (Purpose.of_opening to root) h object s = refl
passing_reserves (Purpose.of_closing to set) h object s = refl
passing_reserves (Purpose.of_end code) h object s = refl

passing_takes : (purpose : Purpose) (h object : ℕ) (s : State) → taken s (passing purpose h object) ≡ []
passing_takes (Purpose.of_startup registers) h object s = refl
passing_takes (Purpose.of_opening to root) h object s = refl
passing_takes (Purpose.of_closing to set) h object s = refl
passing_takes (Purpose.of_end code) h object s = refl

leave_passing : (purpose : Purpose) (h : ℕ) (objects : List ℕ) (s : State) → LeaveMemory s (map (passing purpose h) objects)
leave_passing purpose h [] s = tt
leave_passing purpose h (o ∷ rest) s = (passing_reserves purpose h o s, passing_takes purpose h o s, leave_passing purpose h rest (step s (passing purpose h o)))

reserved_both : (s : State) (xs ys : List Event) (installs : Installs) → AreReserved s xs installs → ((t : State) → LeaveMemory t ys) → AreReserved s (xs ++ ys) installs
reserved_both s xs ys installs x other = record {
  first = x.first;
  behind = x.behind ++ ys;
  are = ap (λ (es : List Event). es ++ ys) x.are;
  takes_none = x.takes_none;
  installed = x.installed;
  leave = leave_both (step s x.first) x.behind ys x.leave other;
}

-- ---- an answered call

module _ (w : Setting) (past : List Event) (h : ℕ) (b : HartState) (made : Installs) (appended : List Event) where
  abbrev After : Answered → List Event
  After came = (past ++ appended) ++ noted_with b h came

  -- the row of a call that returns so
  abbrev Row : Call → Return → Answered → HartState → Type 0
  Row call to came c = TakesService w past (After came) made h (Due.serve call to) b c (change_by came)

  module _ (call : Call) (kind : CallReturn) (c : HartState) where
    none_more : (past ++ appended) ++ [] ≡ past ++ appended
    none_more = append-nil (past ++ appended)

    -- functions are to run, and the call returns to its caller
    to_caller : kind ≡ return_by call → return_by call ≡ by.ToCaller → return_of b kind ≡ back b
    to_caller by_call is = ap (λ (k : CallReturn). return_of b k) (by_call ∙ is)

    loaded_row : (root : ℕ) (added : List Loaded) (installs : Installs) (functions : List Function) → Serves w past h call appended (loading root added)
        → AreConstructors (after (past ++ appended)) (map serial_of added) functions → AreReserved (after past) appended installs
        → AreAllowed w (past ++ appended) (map (passing (opening_of b root) h) (passed functions))
        → c ≡ spent (runs (opening_of b root) (left functions) b.frames (freed b)) → Row call (back b) (answered.Loading root installs functions) c
    loaded_row root added installs functions serves are changes may leaves =
        let passes : List Event = map (passing (opening_of b root) h) (passed functions) in
        record {
          did = Did.serves [] (appended ++ passes);
          moves = record {
            appended = appended;
            answer = loading root added;
            serves = serves;
            takes = record { functions = functions; are = are; passes = record { may = may; is = refl; leaves = leaves } };
          };
          settling = refl;
          are = append_assoc past appended passes;
          changes = reserved_both (after past) appended passes installs changes (leave_passing (opening_of b root) h (passed functions));
        }

    closing_row : (dying : Dying) (functions : List Function) → Serves w past h call appended (closing dying.list)
        → AreDestructors (after (past ++ appended)) dying.list functions → LeaveMemory (after past) appended
        → AreAllowed w (past ++ appended) (map (passing (closing_of b dying.list) h) (passed functions))
        → c ≡ spent (runs (closing_of b dying.list) (left functions) b.frames (freed b)) → Row call (back b) (answered.Closing dying functions) c
    closing_row dying functions serves are changes may leaves =
        let passes : List Event = map (passing (closing_of b dying.list) h) (passed functions) in
        record {
          did = Did.serves [] (appended ++ passes);
          moves = record {
            appended = appended;
            answer = closing dying.list;
            serves = serves;
            takes = record { functions = functions; are = are; passes = record { may = may; is = refl; leaves = leaves } };
          };
          settling = refl;
          are = append_assoc past appended passes;
          changes = leave_both (after past) appended passes changes (leave_passing (closing_of b dying.list) h (passed functions));
        }

    rows : (answer : Answer) (came : Answered) → kind ≡ return_by call → Serves w past h call appended answer → IsAnswered past appended h made call answer came
        → AreAllowed w (past ++ appended) (noted_with b h came) → c ≡ hart_after b kind came → Row call (return_of b kind) came c
    rows answer came by_call serves (IsAnswered.is_returned value does changes) may leaves = record {
      did = Did.serves [] appended;
      moves = record { appended = appended; answer = returns value; serves = serves; takes = record { is = refl; leaves = leaves } };
      settling = refl;
      are = none_more;
      changes = changes;
    }
    rows answer came by_call serves (IsAnswered.is_refused fault changes) may leaves = record {
      did = Did.serves [] appended;
      moves = record { appended = appended; answer = refused fault; serves = serves; takes = record { is = refl; leaves = leaves } };
      settling = refl;
      are = none_more;
      changes = changes;
    }
    rows answer came by_call serves (IsAnswered.is_loaded root added installs functions changes are) may leaves =
        let it = serves_comes w past h call appended (loading root added) serves in
        subst (λ (to : Return). Row call to (answered.Loading root installs functions) c) (sym (to_caller by_call (ap return_by it.asked)))
        (loaded_row root added installs functions serves are changes may leaves)
    rows answer came by_call serves (IsAnswered.is_closing dying functions changes are) may leaves =
        let it = serves_comes w past h call appended (closing dying.list) serves in
        subst (λ (to : Return). Row call to (answered.Closing dying functions) c) (sym (to_caller by_call (ap return_by it.asked)))
        (closing_row dying functions serves are changes may leaves)
    rows answer came by_call serves (IsAnswered.is_granted grant offered changes offer) may leaves = record {
      did = Did.serves [] appended;
      moves = record {
        appended = appended;
        answer = granted grant;
        serves = serves;
        takes = record { offered = offered_of offered; offer = offer; is = refl; leaves = leaves };
      };
      settling = refl;
      are = none_more;
      changes = changes;
    }
    rows answer came by_call serves (IsAnswered.is_told_none changes) may leaves = record {
      did = Did.serves [] appended;
      moves = record { appended = appended; answer = told None; serves = serves; takes = record { is = refl; leaves = leaves } };
      settling = refl;
      are = none_more;
      changes = changes;
    }
    rows answer came by_call serves (IsAnswered.is_told fault text is changes) may leaves = record {
      did = Did.serves [] appended;
      moves = record {
        appended = appended;
        answer = told (Some fault);
        serves = serves;
        takes = record { is = refl; leaves = leaves ∙ ap (λ (bytes : List ℕ). spent (telling (stack_start (after past) h) (text_words bytes) (freed b))) is };
      };
      settling = refl;
      are = none_more;
      changes = changes;
    }
    rows answer came by_call serves (IsAnswered.has_to_wait for changes) may leaves = record {
      did = Did.waits for;
      moves = record { appended = appended; answer = again for; serves = serves; takes = record { is = refl; leaves = leaves } };
      settling = refl;
      are = none_more ∙ ap (λ (es : List Event). past ++ es) (serves_comes w past h call appended (again for) serves);
      changes = tt;
    }
    rows answer came by_call serves (IsAnswered.is_over reason changes) may leaves = record {
      did = Did.serves [] appended;
      moves = record { appended = appended; answer = over reason; serves = serves; takes = record { is = refl; leaves = leaves } };
      settling = refl;
      are = none_more;
      changes = changes;
    }

-- the turn of a hart whose call was answered, and that is left so
pub answered_turn : (w : Setting) (past events : List Event) (made : Installs) (h : ℕ) (d : Due) (b c : HartState) (kind : CallReturn) (came : Answered)
    → AnswersTurn w past events made h d came → ((call : Call) (to : Return) → d ≡ Due.serve call to → ReturnsAs b call to kind)
    → AreAllowed w events (noted_with b h came) → c ≡ hart_after b kind came → TakesService w past (events ++ noted_with b h came) made h d b c (change_by came)
answered_turn w past events made h d b c kind came turn returned may leaves =
    let so = returned turn.call turn.return turn.is in
    let row : TakesService w past ((past ++ turn.appended) ++ noted_with b h came) made h (Due.serve turn.call (return_of b kind)) b c (change_by came) =
    rows w past h b made turn.appended turn.call kind c turn.answer came so.by_call turn.serves turn.answered
    (subst (λ (es : List Event). AreAllowed w es (noted_with b h came)) turn.are may) leaves in
    subst (λ (x : Due). TakesService w past (events ++ noted_with b h came) made h x b c (change_by came)) (sym turn.is)
    (subst (λ (to : Return). TakesService w past (events ++ noted_with b h came) made h (Due.serve turn.call to) b c (change_by came)) (sym so.is)
    (subst (λ (es : List Event). TakesService w past (es ++ noted_with b h came) made h (Due.serve turn.call (return_of b kind)) b c (change_by came)) (sym turn.are) row))

-- the same, of the table
pub answered_table : (w : Setting) (past : List Event) (old new : LinkTable) (h : ℕ) (d : Due) (b c : HartState) (kind : CallReturn) (came : Answered) (does : MemoryChange)
    → AnswersTurn w past old.events old.made h d came → ((call : Call) (to : Return) → d ≡ Due.serve call to → ReturnsAs b call to kind)
    → AreAllowed w old.events (noted_with b h came) → new ≡ record old { events = old.events ++ noted_with b h came } → c ≡ hart_after b kind came → does ≡ change_by came
    → TakesService w past new.events new.made h d b c does
answered_table w past old new h d b c kind came does turn returned may noted leaves is =
    subst (λ (m : MemoryChange). TakesService w past new.events new.made h d b c m) (sym is)
    (subst (λ (t : LinkTable). TakesService w past t.events t.made h d b c (change_by came)) (sym noted)
    (answered_turn w past old.events old.made h d b c kind came turn returned may leaves))

-- ---- a text that is told

few_bytes : (fault : DlFault) → length (answer_text fault) ≤ 511
few_bytes fault = omega (arith, length-take 511 (fault_text fault))

pub told_fits : (past appended : List Event) (h : ℕ) (made : Installs) (call : Call) (answer : Answer) (came : Answered)
    → IsTextPlace (stack_start (after past) h) → IsAnswered past appended h made call answer came → TextFits came
told_fits past appended h made call answer came place (IsAnswered.is_returned value does changes) = tt
told_fits past appended h made call answer came place (IsAnswered.is_refused fault changes) = tt
told_fits past appended h made call answer came place (IsAnswered.is_loaded root added installs functions changes are) = tt
told_fits past appended h made call answer came place (IsAnswered.is_closing dying functions changes are) = tt
told_fits past appended h made call answer came place (IsAnswered.is_granted grant offered changes offer) = tt
told_fits past appended h made call answer came place (IsAnswered.is_told_none changes) = tt
told_fits past appended h made call answer came place (IsAnswered.is_told fault text is changes) =
    (place.aligned, room (stack_start (after past) h) (length text) place.low (subst (λ (bytes : List ℕ). length bytes ≤ 511) (sym is) (few_bytes fault)))
  where
    room : (at n : ℕ) → at ≤ 0x80f000 → n ≤ 511 → at + n + 8 ≤ 2 ^ 64
    room at n low few = omega (arith, low, few)
told_fits past appended h made call answer came place (IsAnswered.has_to_wait for changes) = tt
told_fits past appended h made call answer came place (IsAnswered.is_over reason changes) = tt

-- ---- an object whose functions have run

pub completed_turn : (w : Setting) (past : List Event) (made : Installs) (h : ℕ) (b c : HartState) (purpose : Purpose) (object : ℕ) (rest : List Function) (below : List Frame)
    → AreAllowed w past (map (passing purpose h) (object ∷ passed rest)) → c ≡ spent (runs purpose (left rest) below (freed b))
    → TakesService w past (past ++ map (passing purpose h) (object ∷ passed rest)) made h (Due.complete purpose object rest below) b c change.Nothing
completed_turn w past made h b c purpose object rest below may leaves = record {
  did = Did.serves [] (map (passing purpose h) (object ∷ passed rest));
  moves = record { may = may.0; passes = record { may = may.1; is = refl; leaves = leaves } };
  settling = refl;
  are = refl;
  changes = leave_passing purpose h (object ∷ passed rest) (after past);
}

-- ---- what was answered

module _ (table : LinkTable) (h : ℕ) (b : HartState) (came : Answered) (was : WasAnswered table h b came) (lawful : Lawful (machine_of table.harts) table.events) where
  lawful_past : Lawful (machine_of table.harts) was.past
  lawful_past = lawful_before (machine_of table.harts) was.past was.answers.appended (subst (Lawful (machine_of table.harts)) was.answers.are lawful)

  pub was_allowed : NextLaws → (w : Setting) → AreAllowed w table.events (noted_with b h came)
  was_allowed laws w =
      subst (λ (es : List Event). AreAllowed w es (noted_with b h came)) (sym was.answers.are)
      (passed_allowed laws (machine_of table.harts) was.setting was.past was.answers.appended table.made h b was.answers.call was.answers.answer came was.machine lawful_past
      was.answers.serves was.answers.answered w)

  pub was_may : NextLaws → MayFollowAll table.harts table.events (noted_with b h came)
  was_may laws = record { setting = was.setting; machine = was.machine; may = was_allowed laws was.setting }

  pub was_fits : ((m : Machine) (events : List Event) → Lawful m events → RangesAreApart (after events)) → TextFits came
  was_fits apart =
      told_fits was.past was.answers.appended h table.made was.answers.call was.answers.answer came
      (texts_stand (machine_of table.harts) was.past lawful_past (apart (machine_of table.harts) was.past lawful_past) h) was.answers.answered

-- where no functions are to run nothing is noted
pub notes_none : (table : LinkTable) (b : HartState) (h : ℕ) (came : Answered) → runs_functions came ≡ false
    → record table { events = table.events ++ noted_with b h came } ≡ table
notes_none table b h (answered.Returns value does) kept = ap (λ (es : List Event). record table { events = es }) (append-nil table.events)
notes_none table b h (answered.Loading root installs functions) kept = absurd (let e : true ≡ false = kept in cc)
notes_none table b h (answered.Closing dying functions) kept = absurd (let e : true ≡ false = kept in cc)
notes_none table b h (answered.Granted offered) kept = ap (λ (es : List Event). record table { events = es }) (append-nil table.events)
notes_none table b h (answered.Told text message) kept = ap (λ (es : List Event). record table { events = es }) (append-nil table.events)
notes_none table b h (answered.Again for) kept = ap (λ (es : List Event). record table { events = es }) (append-nil table.events)
notes_none table b h (answered.Over reason) kept = ap (λ (es : List Event). record table { events = es }) (append-nil table.events)

-- ---- an object whose functions have run, of the table

pub completed_table : (w : Setting) (old new : LinkTable) (h count : ℕ) (b now c : HartState) → w.machine ≡ machine_of old.harts
    → MayPass old.harts old.events h (due (after old.events) b) → (first : PassesFirst old new h b count) → now ≡ runs first.purpose (drop count first.rest) first.below (freed b)
    → c ≡ spent now → TakesService w old.events new.events new.made h (due (after old.events) b) b c change.Nothing
completed_table w old new h count b now c on may first moved counted =
    let follow : MayFollowAll old.harts old.events (map (passing first.purpose h) (first.object ∷ passed first.rest)) = subst (MayPass old.harts old.events h) first.is may in
    subst (λ (d : Due). TakesService w old.events new.events new.made h d b c change.Nothing) (sym first.is)
    (subst (λ (t : LinkTable). TakesService w old.events t.events t.made h (Due.complete first.purpose first.object first.rest first.below) b c change.Nothing) (sym first.noted)
    (completed_turn w old.events old.made h b c first.purpose first.object first.rest first.below
    (passings_allowed follow.setting w first.purpose h (first.object ∷ passed first.rest) old.events (on ∙ sym follow.machine) follow.may)
    (counted ∙ ap (λ (x : HartState). spent x) (moved ∙ ap (λ (fs : List Function). runs first.purpose fs first.below (freed b)) first.behind))))
