-- What a call gives keeps a history legal, and what a refused call leaves.
use Rattle.std.proofs.Common.{◌≡◌, ℕ, Bool, true, false, not, cond, eqb, List, [], ◌∷◌, ◌++◌, Option, Some, None, refl, sym, ap, subst, ◌∙◌}
use Rattle.std.specs.Option.{option_map}
use Rattle.std.specs.List.{Contains, filter, find}
use Rattle.std.proofs.lemmas.Bool.{eq-eqb, not-true}
use Rattle.std.proofs.lemmas.List.{append-nil, append_assoc}
use Rattle.ld_base.specs.declared.fault.DlFault.{DlFault}
use Rattle.ld_base.specs.declared.fault.Shown.{Shown}
use Rattle.history_event.specs.declared.event.Event.{Event}
use Rattle.history_event.specs.declared.event.Event.TheVariants as events
use Rattle.history_event.specs.declared.hart_end.HartEnd.{HartEnd}
use Rattle.history_event.specs.declared.state.Kept.{Kept}
use Rattle.history_state.specs.After.{after}
use Rattle.history_state.specs.Allowed.{Allowed, MayEnd, kept_for}
use Rattle.history_state.specs.Legal.{Lawful, Legal}
use Rattle.history_state.specs.Memory.{role_at, first_word_at}
use Rattle.history_state.specs.Setting.{Machine, Setting}
use Rattle.history_state.specs.Storage.{tls_block, tp_of}
use Rattle.history_state.specs.State.{State}
use Rattle.history_state.specs.Step.{keep, step, tell}
use Rattle.history_state.specs.Lemmas.History.{after_push, lawful_push, legal_push}
use Rattle.history_state.specs.Lemmas.Lists.{from_filter}
use Rattle.history_state.specs.Lemmas.Lookups.{find_behind, find_less}
use Rattle.history_calls.specs.Answer.{Answer, again, over, refused, told, returns, loading, closing, granted}
use Rattle.history_calls.specs.Call.{Call, asks_fault}
use Rattle.history_calls.specs.Gives.{EventAnswers, Gives, Serves, ending}
use Rattle.history_calls.specs.Gives.EventAnswers.{is_loaded, is_there, is_absent, is_not_opened, dies, stays, is_not_closed, is_unmapped, is_granted, is_unresolved, is_not_code, is_found, is_not_found, is_told, is_written}
use Rattle.history_calls.specs.Gives.Gives.{by_event, by_first_block, in_new_block, in_block, to_again, to_end}

-- ---- legality

-- what holds of a history and is kept by each event that is allowed is kept by what a call gives
given_by : {w : Setting} {past : List Event} {h : ℕ} {call : Call} {given : List Event} {answer : Answer} (P : List Event → Type 0)
    → ((events : List Event) (e : Event) → P events → Allowed w events e → P (events ++ e ∷ [])) → P past → Gives w past h call given answer → P (past ++ given)
given_by {w} {past} P push holds (by_event call e answer answers may) = push past e holds may
given_by {w} {past} P push holds (by_first_block ask e f value first) =
    subst P (append_assoc past (e ∷ []) (f ∷ [])) (push (past ++ e ∷ []) f (push past e holds first.may_get) first.may_find)
given_by {w} {past} P push holds (in_new_block number offset block e gets) = push past e holds gets.may
given_by {w} {past} P push holds (in_block number offset block has) = subst P (sym (append-nil past)) holds
given_by {w} {past} P push holds (to_again call for shows) = subst P (sym (append-nil past)) holds
given_by {w} {past} P push holds (to_end call reason ends) = subst P (sym (append-nil past)) holds

pub gives_legal : (w : Setting) (past : List Event) (h : ℕ) (call : Call) (given : List Event) (answer : Answer) → Legal w past → Gives w past h call given answer → Legal w (past ++ given)
gives_legal w past h call given answer legal gives = given_by (Legal w) (legal_push w) legal gives

pub gives_lawful : (m : Machine) (w : Setting) (past : List Event) (h : ℕ) (call : Call) (given : List Event) (answer : Answer) → w.machine ≡ m → Lawful m past → Gives w past h call given answer
    → Lawful m (past ++ given)
gives_lawful m w past h call given answer same lawful gives = given_by (Lawful m) (λ events e. lawful_push m w events e same) lawful gives

-- ---- what stays

abbrev Left : State → ℕ → Answer → State → Type 0
Left s h (returns value) t = Unit {0}
Left s h (loading root added) t = Unit {0}
Left s h (closing set) t = Unit {0}
Left s h (refused fault) t = t ≡ keep h fault s
Left s h (granted grant) t = Unit {0}
Left s h (told fault) t = t ≡ tell h s
Left s h (again for) t = t ≡ s
Left s h (over reason) t = t ≡ s

answered : {h : ℕ} {call : Call} {e : Event} {answer : Answer} (s : State) → EventAnswers h call e answer → Left s h answer (step s e)
answered s (is_loaded ask id root first rest ranges) = tt
answered s (is_there ask id root ranges) = tt
answered s (is_absent ask) = tt
answered s (is_not_opened ask fault) = refl
answered s (dies handle first rest) = tt
answered s (stays handle) = tt
answered s (is_not_closed handle fault) = refl
answered s (is_unmapped set) = tt
answered s (is_granted owner eights slot number choice value eight) = tt
answered s (is_unresolved owner eights slot eight) = refl
answered s (is_not_code owner eights slot serial index eight) = refl
answered s (is_found ask serial index value) = tt
answered s (is_not_found ask fault) = refl
answered s (is_told fault) = refl
answered s (is_written bytes) = tt

pub left : {w : Setting} {past : List Event} {h : ℕ} {call : Call} {given : List Event} {answer : Answer} → Gives w past h call given answer → Left (after past) h answer (after (past ++ given))
left {w} {past} {h} (by_event call e answer answers may) = subst (Left (after past) h answer) (sym (after_push past e)) (answered (after past) answers)
left (by_first_block ask e f value first) = tt
left (in_new_block number offset block e gets) = tt
left (in_block number offset block has) = tt
left {w} {past} (to_again call for shows) = ap after (append-nil past)
left {w} {past} (to_end call reason ends) = ap after (append-nil past)

abbrev Appends : Answer → List Event → Type 0
Appends (returns value) given = Unit {0}
Appends (loading root added) given = Unit {0}
Appends (closing set) given = Unit {0}
Appends (refused fault) given = Unit {0}
Appends (granted grant) given = Unit {0}
Appends (told fault) given = Unit {0}
Appends (again for) given = given ≡ []
Appends (over reason) given = Unit {0}

one_appended : {h : ℕ} {call : Call} {e : Event} {answer : Answer} → EventAnswers h call e answer → Appends answer (e ∷ [])
one_appended (is_loaded ask id root first rest ranges) = tt
one_appended (is_there ask id root ranges) = tt
one_appended (is_absent ask) = tt
one_appended (is_not_opened ask fault) = tt
one_appended (dies handle first rest) = tt
one_appended (stays handle) = tt
one_appended (is_not_closed handle fault) = tt
one_appended (is_unmapped set) = tt
one_appended (is_granted owner eights slot number choice value eight) = tt
one_appended (is_unresolved owner eights slot eight) = tt
one_appended (is_not_code owner eights slot serial index eight) = tt
one_appended (is_found ask serial index value) = tt
one_appended (is_not_found ask fault) = tt
one_appended (is_told fault) = tt
one_appended (is_written bytes) = tt

appends : {w : Setting} {past : List Event} {h : ℕ} {call : Call} {given : List Event} {answer : Answer} → Gives w past h call given answer → Appends answer given
appends (by_event call e answer answers may) = one_appended answers
appends (by_first_block ask e f value first) = tt
appends (in_new_block number offset block e gets) = tt
appends (in_block number offset block has) = tt
appends (to_again call for shows) = refl
appends (to_end call reason ends) = tt

pub refused_keeps : (w : Setting) (past : List Event) (h : ℕ) (call : Call) (given : List Event) (fault : DlFault) → Gives w past h call given (refused fault)
    → after (past ++ given) ≡ keep h fault (after past)
refused_keeps w past h call given fault gives = left gives

kept_role : (h : ℕ) (fault : DlFault) (s : State) (a : ℕ) → role_at (keep h fault s) a ≡ role_at s a
unfolding role_at
kept_role h fault s a = refl

kept_word : (h : ℕ) (fault : DlFault) (s : State) (a : ℕ) → first_word_at (keep h fault s) a ≡ first_word_at s a
unfolding first_word_at tls_block tp_of
kept_word h fault s a = refl

pub refused_leaves_memory : (w : Setting) (past : List Event) (h : ℕ) (call : Call) (given : List Event) (fault : DlFault) (a : ℕ) → Gives w past h call given (refused fault)
    → (role_at (after (past ++ given)) a ≡ role_at (after past) a) × (first_word_at (after (past ++ given)) a ≡ first_word_at (after past) a)
refused_leaves_memory w past h call given fault a gives = (
  ap (λ (s : State). role_at s a) (refused_keeps w past h call given fault gives) ∙ kept_role h fault (after past) a,
  ap (λ (s : State). first_word_at s a) (refused_keeps w past h call given fault gives) ∙ kept_word h fault (after past) a,
)

pub again_appends_nothing : (w : Setting) (past : List Event) (h : ℕ) (call : Call) (given : List Event) (for : Shown) → Gives w past h call given (again for) → given ≡ []
again_appends_nothing w past h call given for gives = appends gives

pub ends_keep : (w : Setting) (past : List Event) (h : ℕ) (call : Call) (given : List Event) (reason : HartEnd) → Gives w past h call given (over reason) → after (past ++ given) ≡ after past
ends_keep w past h call given reason gives = left gives

-- ---- a turn

pub serves_legal : (w : Setting) (past : List Event) (h : ℕ) (call : Call) (appended : List Event) (answer : Answer) → Legal w past → Serves w past h call appended answer → Legal w (past ++ appended)
serves_legal w past h call appended answer legal serves =
    subst (λ (es : List Event). Legal w (past ++ es)) (sym serves.are) (with_end answer serves.gives serves.may_end)
  where
    with_end : (a : Answer) → Gives w past h call serves.given a → ((reason : HartEnd) → a ≡ over reason → MayEnd w (after past) h) → Legal w (past ++ (serves.given ++ ending h a))
    with_end (returns value) gives may = subst (λ (es : List Event). Legal w (past ++ es)) (sym (append-nil serves.given)) (gives_legal w past h call serves.given _ legal gives)
    with_end (loading root added) gives may = subst (λ (es : List Event). Legal w (past ++ es)) (sym (append-nil serves.given)) (gives_legal w past h call serves.given _ legal gives)
    with_end (closing set) gives may = subst (λ (es : List Event). Legal w (past ++ es)) (sym (append-nil serves.given)) (gives_legal w past h call serves.given _ legal gives)
    with_end (refused fault) gives may = subst (λ (es : List Event). Legal w (past ++ es)) (sym (append-nil serves.given)) (gives_legal w past h call serves.given _ legal gives)
    with_end (granted grant) gives may = subst (λ (es : List Event). Legal w (past ++ es)) (sym (append-nil serves.given)) (gives_legal w past h call serves.given _ legal gives)
    with_end (told fault) gives may = subst (λ (es : List Event). Legal w (past ++ es)) (sym (append-nil serves.given)) (gives_legal w past h call serves.given _ legal gives)
    with_end (again for) gives may = subst (λ (es : List Event). Legal w (past ++ es)) (sym (append-nil serves.given)) (gives_legal w past h call serves.given _ legal gives)
    with_end (over reason) gives may =
        subst (Legal w) (append_assoc past serves.given (events.Ended h reason ∷ []))
        (legal_push w (past ++ serves.given) (events.Ended h reason) (gives_legal w past h call serves.given (over reason) legal gives)
        (subst (λ (s : State). MayEnd w s h) (sym (ends_keep w past h call serves.given reason gives)) (may reason refl)))

-- ---- refusals are told

abbrev is_for : ℕ → Kept → Bool
is_for h k = eqb k.hart h

others : (h : ℕ) (xs : List Kept) (x : Kept) → Contains (filter (λ k. not (is_for h k)) xs) x → is_for h x ≡ false
others h xs x there = not-true (is_for h x) (from_filter (λ (k : Kept). not (is_for h k)) xs x there).1

find_last : (h : ℕ) (xs : List Kept) (x : Kept) → is_for h x ≡ true → find (is_for h) (filter (λ k. not (is_for h k)) xs ++ x ∷ []) ≡ Some x
find_last h xs x is =
    find_behind (is_for h) (filter (λ (k : Kept). not (is_for h k)) xs) (x ∷ []) (others h xs) ∙ ap (λ (b : Bool). cond b (Some x) None) is

find_no_more : (h : ℕ) (xs : List Kept) → find (is_for h) (filter (λ k. not (is_for h k)) xs) ≡ None
find_no_more h xs = find_less (is_for h) (λ k. not (is_for h k)) xs (λ x there is. ap not is)

kept_is : (s : State) (h : ℕ) (fault : DlFault) → kept_for (keep h fault s) h ≡ Some fault
kept_is s h fault = ap (option_map (λ (k : Kept). k.fault)) (find_last h s.kept (record { hart = h; fault = fault }) (eq-eqb h h refl))

told_is : (s : State) (h : ℕ) → kept_for (tell h s) h ≡ None
told_is s h = ap (option_map (λ (k : Kept). k.fault)) (find_no_more h s.kept)

pub refusal_is_kept : (w : Setting) (past : List Event) (h : ℕ) (call : Call) (given : List Event) (fault : DlFault) → Gives w past h call given (refused fault)
    → kept_for (after (past ++ given)) h ≡ Some fault
refusal_is_kept w past h call given fault gives = ap (λ (s : State). kept_for s h) (refused_keeps w past h call given fault gives) ∙ kept_is (after past) h fault

-- what is told is what an allowed event tells
abbrev Tells : List Event → ℕ → Answer → Type 0
Tells past h (returns value) = Unit {0}
Tells past h (loading root added) = Unit {0}
Tells past h (closing set) = Unit {0}
Tells past h (refused fault) = Unit {0}
Tells past h (granted grant) = Unit {0}
Tells past h (told fault) = fault ≡ kept_for (after past) h
Tells past h (again for) = Unit {0}
Tells past h (over reason) = Unit {0}

tells_one : (w : Setting) (past : List Event) {h : ℕ} {call : Call} {e : Event} {answer : Answer} → EventAnswers h call e answer → Allowed w past e → Tells past h answer
tells_one w past (is_loaded ask id root first rest ranges) may = tt
tells_one w past (is_there ask id root ranges) may = tt
tells_one w past (is_absent ask) may = tt
tells_one w past (is_not_opened ask fault) may = tt
tells_one w past (dies handle first rest) may = tt
tells_one w past (stays handle) may = tt
tells_one w past (is_not_closed handle fault) may = tt
tells_one w past (is_unmapped set) may = tt
tells_one w past (is_granted owner eights slot number choice value eight) may = tt
tells_one w past (is_unresolved owner eights slot eight) may = tt
tells_one w past (is_not_code owner eights slot serial index eight) may = tt
tells_one w past (is_found ask serial index value) may = tt
tells_one w past (is_not_found ask fault) may = tt
tells_one w past (is_told fault) may = may
tells_one w past (is_written bytes) may = tt

tells : {w : Setting} {past : List Event} {h : ℕ} {call : Call} {given : List Event} {answer : Answer} → Gives w past h call given answer → Tells past h answer
tells {w} {past} (by_event call e answer answers may) = tells_one w past answers may
tells (by_first_block ask e f value first) = tt
tells (in_new_block number offset block e gets) = tt
tells (in_block number offset block has) = tt
tells (to_again call for shows) = tt
tells (to_end call reason ends) = tt

pub refusal_is_told : (w : Setting) (past : List Event) (h : ℕ) (given : List Event) (fault : Option DlFault) → Gives w past h asks_fault given (told fault)
    → (fault ≡ kept_for (after past) h) × (kept_for (after (past ++ given)) h ≡ None)
refusal_is_told w past h given fault gives = (tells gives, ap (λ (s : State). kept_for s h) (left gives) ∙ told_is (after past) h)
