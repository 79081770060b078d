-- The events of turns that ask.
use Rattle.std.proofs.Common.{◌≡◌, ◌⊎◌, inl, inr, ℕ, ◌<◌, nat_lt, Bool, true, false, if◌then◌else◌, List, [], ◌∷◌, ◌++◌, map, Option, None, Some, refl, sym, ap, ◌∙◌, append-nil}
use Rattle.std.proofs.lemmas.Bool.{false≢true, ltb-true}
use Rattle.ld_base.specs.declared.linking.Loaded.{Loaded}
use Rattle.history_event.specs.declared.event.Event.{Event}
use Rattle.history_event.specs.declared.event.Event.TheVariants as events
use Rattle.history_event.specs.declared.event.OpenAsk.{OpenAsk}
use Rattle.history_event.specs.declared.handed.Function.{Function}
use Rattle.history_event.specs.declared.hart_end.HartEnd.{HartEnd}
use Rattle.history_state.specs.After.{after}
use Rattle.history_state.specs.Setting.{Setting}
use Rattle.history_state.specs.State.{State}
use Rattle.history_calls.specs.Answer.{Answer, returns, loading, closing, refused, granted, told, again, over}
use Rattle.history_calls.specs.Call.{Call, opens}
use Rattle.history_calls.specs.Functions.{left, passed}
use Rattle.history_calls.specs.Gives.{EventAnswers, Gives, ending}
use Rattle.history_calls.specs.Served.{answer_text}
use Rattle.hart_moves.specs.Copying.{text_words}
use Rattle.hart_moves.specs.Due.{Due, Return, by_phase, by_resolving, due}
use Rattle.hart_moves.specs.TurnEvents.Lemmas.Dues.{IsFrom, within_from}
use Rattle.hart_moves.specs.Harts.{Frame, HartState, Purpose, Resolving}
use Rattle.hart_moves.specs.Moves.{Calls, Completes, Did, Takes, after_all, events_of, freed, passing, runs, settled_resolving, stack_start, telling, with_first}
use Rattle.hart_trails.specs.Trails.{is_granting}
use Rattle.hart_linker.specs.Serving.{is_asking}
use Rattle.world_answers.specs.GuestsPart.Counting.{is_refusal}
use Rattle.kept_words.specs.Staying.{leaves_memory}
use Rattle.link_keeper.specs.Acting.{ComesToEvents, OpenNothing, gives_block, is_locating, is_tls}
use Rattle.link_keeper.specs.Entering.{AreQuiet}
use Rattle.link_keeper.specs.Keeping.{is_opening}

quiet_both : (front other : List Event) → AreQuiet front → AreQuiet other → AreQuiet (front ++ other)
quiet_both [] other a b = b
quiet_both (e ∷ rest) other a b = (a.0, quiet_both rest other a.1 b)

-- objects that pass
passing_quiet : (purpose : Purpose) (h object : ℕ) → leaves_memory (passing purpose h object) ≡ true
passing_quiet (Purpose.of_startup registers) h object = refl
passing_quiet (Purpose.of_opening to root) h object = refl
passing_quiet (Purpose.of_closing to set) h object = refl
passing_quiet (Purpose.of_end code) h object = refl

passing_plain : (purpose : Purpose) (h object : ℕ) → is_granting (passing purpose h object) ≡ false
passing_plain (Purpose.of_startup registers) h object = refl
passing_plain (Purpose.of_opening to root) h object = refl
passing_plain (Purpose.of_closing to set) h object = refl
passing_plain (Purpose.of_end code) h object = refl

passing_no_tls : (purpose : Purpose) (h object : ℕ) → is_tls (passing purpose h object) ≡ false
passing_no_tls (Purpose.of_startup registers) h object = refl
passing_no_tls (Purpose.of_opening to root) h object = refl
passing_no_tls (Purpose.of_closing to set) h object = refl
passing_no_tls (Purpose.of_end code) h object = refl

passing_opens_none : (purpose : Purpose) (h object : ℕ) → is_opening (passing purpose h object) ≡ false
passing_opens_none (Purpose.of_startup registers) h object = refl
passing_opens_none (Purpose.of_opening to root) h object = refl
passing_opens_none (Purpose.of_closing to set) h object = refl
passing_opens_none (Purpose.of_end code) h object = refl

passing_no_refusal : (purpose : Purpose) (h object : ℕ) → is_refusal (passing purpose h object) ≡ false
passing_no_refusal (Purpose.of_startup registers) h object = refl
passing_no_refusal (Purpose.of_opening to root) h object = refl
passing_no_refusal (Purpose.of_closing to set) h object = refl
passing_no_refusal (Purpose.of_end code) h object = refl

open_none_both : (front other : List Event) → OpenNothing front → OpenNothing other → OpenNothing (front ++ other)
open_none_both [] other a b = b
open_none_both (e ∷ rest) other a b = (a.0, open_none_both rest other a.1 b)

pub all_open_none : (purpose : Purpose) (h : ℕ) (objects : List ℕ) → OpenNothing (map (passing purpose h) objects)
all_open_none purpose h [] = tt
all_open_none purpose h (o ∷ rest) = (passing_opens_none purpose h o, all_open_none purpose h rest)

pub all_passing : (purpose : Purpose) (h : ℕ) (objects : List ℕ) → AreQuiet (map (passing purpose h) objects)
all_passing purpose h [] = tt
all_passing purpose h (o ∷ rest) = (passing_quiet purpose h o, all_passing purpose h rest)

-- ---- what a call gives

ending_quiet : (h : ℕ) (answer : Answer) → AreQuiet (ending h answer)
ending_quiet h (returns value) = tt
ending_quiet h (loading root added) = tt
ending_quiet h (closing set) = tt
ending_quiet h (refused fault) = tt
ending_quiet h (granted grant) = tt
ending_quiet h (told fault) = tt
ending_quiet h (again for) = tt
ending_quiet h (over reason) = (refl, tt)

ending_opens : (h : ℕ) (answer : Answer) → OpenNothing (ending h answer)
ending_opens h (returns value) = tt
ending_opens h (loading root added) = tt
ending_opens h (closing set) = tt
ending_opens h (refused fault) = tt
ending_opens h (granted grant) = tt
ending_opens h (told fault) = tt
ending_opens h (again for) = tt
ending_opens h (over reason) = (refl, tt)

abbrev pub is_again : Answer → Bool
is_again answer = elim answer [ again for ↦ true | _ ↦ false ]

abbrev pub is_grant : Answer → Bool
is_grant answer = elim answer [ granted g ↦ true | _ ↦ false ]

abbrev is_refused : Answer → Bool
is_refused answer = elim answer [ refused fault ↦ true | _ ↦ false ]

ending_refused : (h : ℕ) (answer : Answer) → is_refused answer ≡ true → ending h answer ≡ []
ending_refused h (refused fault) is = refl
ending_refused h (returns value) is = absurd (false≢true is)
ending_refused h (loading root added) is = absurd (false≢true is)
ending_refused h (closing set) is = absurd (false≢true is)
ending_refused h (granted grant) is = absurd (false≢true is)
ending_refused h (told fault) is = absurd (false≢true is)
ending_refused h (again for) is = absurd (false≢true is)
ending_refused h (over reason) is = absurd (false≢true is)

-- a first event, and quiet ones behind it; it isn't told to try again, and it is granted something exactly where the first event is a grant
pub record HasFirst (call : Call) (appended : List Event) (answer : Answer) : Type 0 where
  pub first : Event
  pub rest : List Event
  pub some : appended ≡ first ∷ rest
  pub quiet : AreQuiet rest
  pub behind : OpenNothing rest
  pub comes : is_again answer ≡ false
  pub grants : is_grant answer ≡ is_granting first
  pub stored : is_tls first ≡ true → gives_block call ≡ true
  pub alone : is_refusal first ≡ true → (rest ≡ []) × (is_refused answer ≡ true)
  pub opening : is_refusal first ≡ true → (ask : OpenAsk) × (call ≡ opens ask)

-- no event: it is told to try again, or asked where a block is
pub record HasNone (call : Call) (appended : List Event) (answer : Answer) : Type 0 where
  pub empty : appended ≡ []
  pub runs : (root : ℕ) (added : List Loaded) → answer ≡ loading root added → ⊥
  pub closes : (set : List ℕ) → answer ≡ closing set → ⊥
  pub why : (is_again answer ≡ true) ⊎ (is_locating call ≡ true)

pub data Shape (call : Call) (appended : List Event) (answer : Answer) : Type 0 where
  some : HasFirst call appended answer → Shape call appended answer
  empty : HasNone call appended answer → Shape call appended answer

first_is : (h : ℕ) (call : Call) (e : Event) (answer : Answer) (appended : List Event) → is_again answer ≡ false → is_grant answer ≡ is_granting e → is_tls e ≡ false
    → (is_refusal e ≡ true → (is_refused answer ≡ true) × ((ask : OpenAsk) × (call ≡ opens ask))) → appended ≡ e ∷ ending h answer → HasFirst call appended answer
first_is h call e answer appended comes grants stored alone are = record {
  first = e;
  rest = ending h answer;
  some = are;
  quiet = ending_quiet h answer;
  behind = ending_opens h answer;
  comes = comes;
  grants = grants;
  stored = λ is. absurd (false≢true (sym stored ∙ is));
  alone = λ is. (ending_refused h answer (alone is).0, (alone is).0);
  opening = λ is. (alone is).1;
}

pub never : {A : Type 0} → false ≡ true → A
never {A} is = absurd (false≢true is)

by_answer : (h : ℕ) (call : Call) (e : Event) (answer : Answer) (appended : List Event) → EventAnswers h call e answer → appended ≡ e ∷ ending h answer → HasFirst call appended answer
by_answer h call e answer appended (EventAnswers.is_loaded ask id root first rest ranges) are = first_is h call e answer appended refl refl refl never are
by_answer h call e answer appended (EventAnswers.is_there ask id root ranges) are = first_is h call e answer appended refl refl refl never are
by_answer h call e answer appended (EventAnswers.is_absent ask) are = first_is h call e answer appended refl refl refl never are
by_answer h call e answer appended (EventAnswers.is_not_opened ask fault) are = first_is h call e answer appended refl refl refl (λ is. (refl, (ask, refl))) are
by_answer h call e answer appended (EventAnswers.dies handle first rest) are = first_is h call e answer appended refl refl refl never are
by_answer h call e answer appended (EventAnswers.stays handle) are = first_is h call e answer appended refl refl refl never are
by_answer h call e answer appended (EventAnswers.is_not_closed handle fault) are = first_is h call e answer appended refl refl refl never are
by_answer h call e answer appended (EventAnswers.is_unmapped set) are = first_is h call e answer appended refl refl refl never are
by_answer h call e answer appended (EventAnswers.is_granted owner eights slot number choice value at) are = first_is h call e answer appended refl refl refl never are
by_answer h call e answer appended (EventAnswers.is_unresolved owner eights slot at) are = first_is h call e answer appended refl refl refl never are
by_answer h call e answer appended (EventAnswers.is_not_code owner eights slot serial index at) are = first_is h call e answer appended refl refl refl never are
by_answer h call e answer appended (EventAnswers.is_found ask serial index value) are = first_is h call e answer appended refl refl refl never are
by_answer h call e answer appended (EventAnswers.is_not_found ask fault) are = first_is h call e answer appended refl refl refl never are
by_answer h call e answer appended (EventAnswers.is_told fault) are = first_is h call e answer appended refl refl refl never are
by_answer h call e answer appended (EventAnswers.is_written bytes) are = first_is h call e answer appended refl refl refl never are

pub shape : (w : Setting) (past : List Event) (h : ℕ) (call : Call) (given appended : List Event) (answer : Answer) → Gives w past h call given answer → appended ≡ given ++ ending h answer
    → Shape call appended answer
shape w past h call given appended answer (Gives.by_event _ e _ answers may) are = Shape.some (by_answer h call e answer appended answers are)
shape w past h call given appended answer (Gives.by_first_block ask e f value finds) are = Shape.some (record {
  first = e;
  rest = f ∷ [];
  some = are;
  quiet = (ap leaves_memory finds.finds, tt);
  behind = (ap is_opening finds.finds, tt);
  comes = refl;
  grants = sym (ap is_granting finds.gets);
  stored = λ is. refl;
  alone = λ is. never (sym (ap is_refusal finds.gets) ∙ is);
  opening = λ is. never (sym (ap is_refusal finds.gets) ∙ is);
})
shape w past h call given appended answer (Gives.in_new_block number offset block e gets) are = Shape.some (record {
  first = e;
  rest = [];
  some = are;
  quiet = tt;
  behind = tt;
  comes = refl;
  grants = sym (ap is_granting gets.is);
  stored = λ is. refl;
  alone = λ is. never (sym (ap is_refusal gets.is) ∙ is);
  opening = λ is. never (sym (ap is_refusal gets.is) ∙ is);
})
shape w past h call given appended answer (Gives.in_block number offset block has) are = Shape.empty (record {
  empty = are;
  runs = λ root added is. (let bad : answer ≡ loading root added = is in cc);
  closes = λ set is. (let bad : answer ≡ closing set = is in cc);
  why = inr refl;
})
shape w past h call given appended answer (Gives.to_again _ for shows) are = Shape.empty (record {
  empty = are;
  runs = λ root added is. (let bad : again for ≡ loading root added = is in cc);
  closes = λ set is. (let bad : again for ≡ closing set = is in cc);
  why = inl refl;
})
shape w past h call given appended answer (Gives.to_end _ reason ends) are = Shape.some (record {
  first = events.Ended h reason;
  rest = [];
  some = are;
  quiet = tt;
  behind = tt;
  comes = refl;
  grants = refl;
  stored = never;
  alone = never;
  opening = never;
})

-- ---- what it leaves

-- its events, and those of the objects that pass with it
record Leads (answer : Answer) (appended : List Event) (did : Did) : Type 0 where
  more : List Event
  quiet : AreQuiet more
  behind : OpenNothing more
  alone : is_refused answer ≡ true → more ≡ []
  is : did ≡ Did.serves [] (appended ++ more)

leads_to : (answer : Answer) (purpose : Purpose) (h : ℕ) (objects : List ℕ) (appended : List Event) (did : Did) → is_refused answer ≡ false
    → did ≡ Did.serves [] (appended ++ map (passing purpose h) objects) → Leads answer appended did
leads_to answer purpose h objects appended did other is = record {
  more = map (passing purpose h) objects;
  quiet = all_passing purpose h objects;
  behind = all_open_none purpose h objects;
  alone = λ refuses. never (sym other ∙ refuses);
  is = is;
}

leads_none : (answer : Answer) (appended : List Event) (did : Did) → did ≡ Did.serves [] appended → Leads answer appended did
leads_none answer appended did is = record { more = []; quiet = tt; behind = tt; alone = λ refuses. refl; is = is ∙ ap (λ (es : List Event). Did.serves [] es) (sym (append-nil appended)) }

takes_lead : (w : Setting) (past : List Event) (h : ℕ) (b : HartState) (call : Call) (back : Return) (answer : Answer) (appended : List Event) (did : Did) (c : HartState)
    → Takes w past h b call back answer appended did c → is_again answer ≡ false → Leads answer appended did
takes_lead w past h b call back (returns value) appended did c x comes = leads_none (returns value) appended did x.is
takes_lead w past h b call back (loading root added) appended did c x comes =
    leads_to (loading root added) (Purpose.of_opening back.to root) h (passed x.functions) appended did refl x.passes.is
takes_lead w past h b call back (closing set) appended did c x comes =
    leads_to (closing set) (Purpose.of_closing back.to set) h (passed x.functions) appended did refl x.passes.is
takes_lead w past h b call back (refused fault) appended did c x comes = leads_none (refused fault) appended did x.is
takes_lead w past h b call back (granted grant) appended did c x comes = leads_none (granted grant) appended did x.is
takes_lead w past h b call back (told (Some fault)) appended did c x comes = leads_none (told (Some fault)) appended did x.is
takes_lead w past h b call back (told None) appended did c x comes = leads_none (told None) appended did x.is
takes_lead w past h b call back (again for) appended did c x comes = never (sym comes)
takes_lead w past h b call back (over reason) appended did c x comes = leads_none (over reason) appended did x.is

-- ---- where it leaves the hart

after_all_rests : (purpose : Purpose) (below : List Frame) (b : HartState) → (after_all purpose below b).resolving ≡ b.resolving
after_all_rests (Purpose.of_startup registers) below b = refl
after_all_rests (Purpose.of_opening to root) below b = refl
after_all_rests (Purpose.of_closing to set) below b = refl
after_all_rests (Purpose.of_end code) below b = refl

with_first_rests : (purpose : Purpose) (object : ℕ) (addresses : List ℕ) (rest : List Function) (below : List Frame) (b : HartState) → (with_first purpose object addresses rest below b).resolving ≡ b.resolving
with_first_rests purpose object [] rest below b = refl
with_first_rests purpose object (a ∷ more) rest below b = refl

runs_rests : (purpose : Purpose) (functions : List Function) (below : List Frame) (b : HartState) → (runs purpose functions below b).resolving ≡ b.resolving
runs_rests purpose [] below b = after_all_rests purpose below b
runs_rests purpose (f ∷ rest) below b = with_first_rests purpose f.object f.addresses rest below b

tells_rests : (text : ℕ) (words : List ℕ) (b : HartState) → (telling text words b).resolving ≡ b.resolving
tells_rests text [] b = refl
tells_rests text (word ∷ more) b = refl

takes_rests : (w : Setting) (past : List Event) (h : ℕ) (b : HartState) (call : Call) (back : Return) (answer : Answer) (appended : List Event) (did : Did) (c : HartState)
    → Takes w past h b call back answer appended did c → settled_resolving b.resolving ≡ Resolving.idle → is_again answer ≡ false → is_grant answer ≡ false → settled_resolving c.resolving ≡ Resolving.idle
takes_rests w past h b call back (returns value) appended did c x rests comes grants = ap (λ (y : HartState). settled_resolving y.resolving) x.leaves ∙ ap settled_resolving rests
takes_rests w past h b call back (loading root added) appended did c x rests comes grants =
    ap (λ (y : HartState). settled_resolving y.resolving) x.passes.leaves ∙ ap settled_resolving (runs_rests (Purpose.of_opening back.to root) (left x.functions) back.frames (freed b)) ∙ ap settled_resolving rests
takes_rests w past h b call back (closing set) appended did c x rests comes grants =
    ap (λ (y : HartState). settled_resolving y.resolving) x.passes.leaves ∙ ap settled_resolving (runs_rests (Purpose.of_closing back.to set) (left x.functions) back.frames (freed b)) ∙ ap settled_resolving rests
takes_rests w past h b call back (refused fault) appended did c x rests comes grants = ap (λ (y : HartState). settled_resolving y.resolving) x.leaves ∙ ap settled_resolving rests
takes_rests w past h b call back (granted grant) appended did c x rests comes grants = never (sym grants)
takes_rests w past h b call back (told (Some fault)) appended did c x rests comes grants =
    ap (λ (y : HartState). settled_resolving y.resolving) x.leaves ∙ ap settled_resolving (tells_rests (stack_start (after past) h) (text_words (answer_text fault)) (freed b)) ∙ ap settled_resolving rests
takes_rests w past h b call back (told None) appended did c x rests comes grants = ap (λ (y : HartState). settled_resolving y.resolving) x.leaves ∙ ap settled_resolving rests
takes_rests w past h b call back (again for) appended did c x rests comes grants = never (sym comes)
takes_rests w past h b call back (over reason) appended did c x rests comes grants = ap (λ (y : HartState). settled_resolving y.resolving) x.leaves ∙ ap settled_resolving rests

-- ---- a turn with events, of which the first isn't a grant

none_not : (e : Event) (es : List Event) → [] ≡ e ∷ es → ⊥
none_not e es is = let bad : [] ≡ e ∷ es = is in cc

empty_not : (w : Setting) (past : List Event) (h : ℕ) (b : HartState) (call : Call) (back : Return) (answer : Answer) (appended : List Event) (did : Did) (c : HartState) (e : Event) (es : List Event)
    → Takes w past h b call back answer appended did c → HasNone call appended answer → events_of did ≡ e ∷ es → ⊥
empty_not w past h b call back (returns value) appended did c e es x none are = none_not e es (sym none.empty ∙ sym (ap events_of x.is) ∙ are)
empty_not w past h b call back (loading root added) appended did c e es x none are = none.runs root added refl
empty_not w past h b call back (closing set) appended did c e es x none are = none.closes set refl
empty_not w past h b call back (refused fault) appended did c e es x none are = none_not e es (sym none.empty ∙ sym (ap events_of x.is) ∙ are)
empty_not w past h b call back (granted grant) appended did c e es x none are = none_not e es (sym none.empty ∙ sym (ap events_of x.is) ∙ are)
empty_not w past h b call back (told (Some fault)) appended did c e es x none are = none_not e es (sym none.empty ∙ sym (ap events_of x.is) ∙ are)
empty_not w past h b call back (told None) appended did c e es x none are = none_not e es (sym none.empty ∙ sym (ap events_of x.is) ∙ are)
empty_not w past h b call back (again for) appended did c e es x none are = none_not e es (sym (ap events_of x.is) ∙ are)
empty_not w past h b call back (over reason) appended did c e es x none are = none_not e es (sym none.empty ∙ sym (ap events_of x.is) ∙ are)

pub calls_come : (w : Setting) (past : List Event) (h : ℕ) (b c : HartState) (call : Call) (back : Return) (did : Did) (e : Event) (es : List Event) → Calls w past h b call back did c
    → settled_resolving b.resolving ≡ Resolving.idle → events_of did ≡ e ∷ es → is_granting e ≡ false → ComesToEvents (Due.serve call back) did c
calls_come w past h b c call back did e es x rests are plain = by (shape w past h call x.serves.given x.appended x.answer x.serves.gives x.serves.are)
  where
    by : Shape call x.appended x.answer → ComesToEvents (Due.serve call back) did c
    by (Shape.empty none) = absurd (empty_not w past h b call back x.answer x.appended did c e es x.takes none are)
    by (Shape.some f) =
        let l : Leads x.answer x.appended did = takes_lead w past h b call back x.answer x.appended did c x.takes f.comes in
        let both : f.first ∷ (f.rest ++ l.more) ≡ e ∷ es = sym (ap (λ (xs : List Event). xs ++ l.more) f.some) ∙ sym (ap events_of l.is) ∙ are in
        let same : f.first ≡ e = cc in
        record {
          first = f.first;
          rest = f.rest ++ l.more;
          is = l.is ∙ ap (λ (xs : List Event). Did.serves [] (xs ++ l.more)) f.some;
          quiet = quiet_both f.rest l.more f.quiet l.quiet;
          behind = open_none_both f.rest l.more f.behind l.behind;
          plain = ap is_granting same ∙ plain;
          stored = f.stored;
          alone = λ refuses.
              let both : (f.rest ≡ []) × (is_refused x.answer ≡ true) = f.alone refuses in
              let asked : (ask : OpenAsk) × (call ≡ opens ask) = f.opening refuses in
              ((λ i. both.0 i ++ l.alone both.1 i), (asked.0, back, ap (λ (x : Call). Due.serve x back) asked.1));
          rests = takes_rests w past h b call back x.answer x.appended did c x.takes rests f.comes (f.grants ∙ ap is_granting same ∙ plain);
        }

pub completes_come : (w : Setting) (past : List Event) (h : ℕ) (b c : HartState) (purpose : Purpose) (object : ℕ) (rest : List Function) (below : List Frame) (did : Did)
    → Completes w past h b purpose object rest below did c → settled_resolving b.resolving ≡ Resolving.idle → ComesToEvents (Due.complete purpose object rest below) did c
completes_come w past h b c purpose object rest below did x rests = record {
  first = passing purpose h object;
  rest = map (passing purpose h) (passed rest);
  is = x.passes.is;
  quiet = all_passing purpose h (passed rest);
  behind = all_open_none purpose h (passed rest);
  plain = passing_plain purpose h object;
  stored = λ is. never (sym (passing_no_tls purpose h object) ∙ is);
  alone = λ is. never (sym (passing_no_refusal purpose h object) ∙ is);
  rests = ap (λ (y : HartState). settled_resolving y.resolving) x.passes.leaves ∙ ap settled_resolving (runs_rests purpose (left rest) below (freed b)) ∙ ap settled_resolving rests;
}

-- ---- a hart whose turn asks

-- it runs, has no slot to bind, and its frames are those that the turn goes on with
pub record IsFree (b : HartState) (d : Due) : Type 0 where
  pub runs : b.«end» ≡ None
  pub rests : settled_resolving b.resolving ≡ Resolving.idle
  pub fuel : b.turns < b.fuel
  pub from : IsFrom b d

in_fuel : (b : HartState) (d : Due) (t : Bool) → nat_lt b.turns b.fuel ≡ t → is_asking (if t then d else Due.fuel_out) ≡ true → b.turns < b.fuel
in_fuel b d true less is = ltb-true b.turns b.fuel less
in_fuel b d false less is = absurd (false≢true is)

free_by : (s : State) (b : HartState) (r : Resolving) → b.resolving ≡ r → b.«end» ≡ None → is_asking (by_resolving s b r) ≡ true → IsFree b (by_resolving s b r)
free_by s b Resolving.idle at runs asks =
    record { runs = runs; rests = ap settled_resolving at; fuel = in_fuel b (by_phase s b b.phase) (nat_lt b.turns b.fuel) refl asks; from = within_from s b }
free_by s b (Resolving.to_exchange o) at runs asks = absurd (false≢true asks)
free_by s b (Resolving.to_finish o found) at runs asks = absurd (false≢true asks)
free_by s b (Resolving.to_settle o found) at runs asks =
    record { runs = runs; rests = ap settled_resolving at; fuel = in_fuel b (by_phase s b b.phase) (nat_lt b.turns b.fuel) refl asks; from = within_from s b }

abbrev due_by : State → HartState → Option HartEnd → Due
due_by s b stopped = elim stopped [ Some reason ↦ Due.nothing | None ↦ by_resolving s b b.resolving ]

free_at : (s : State) (b : HartState) (stopped : Option HartEnd) → b.«end» ≡ stopped → is_asking (due_by s b stopped) ≡ true → IsFree b (due_by s b stopped)
free_at s b (Some reason) is asks = absurd (false≢true asks)
free_at s b None is asks = free_by s b b.resolving refl is asks

pub is_free : (s : State) (b : HartState) → is_asking (due s b) ≡ true → IsFree b (due s b)
unfolding due
is_free s b asks = free_at s b b.«end» refl asks
