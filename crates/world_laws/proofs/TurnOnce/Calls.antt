-- What a call comes to, failed reads and want of memory apart.
use Rattle.std.proofs.Common.{◌≡◌, ℕ, true, false, List, [], ◌∷◌, ◌++◌, map, Option, Some, None, refl, sym, ap, subst, ◌∙◌}
use Rattle.std.proofs.lemmas.Bool.{or_parts}
use Rattle.ld_base.specs.declared.fault.DlFault.{DlFault}
use Rattle.ld_base.specs.declared.linking.File.{File}
use Rattle.history_event.specs.declared.event.Event.{Event}
use Rattle.history_event.specs.declared.event.Event.TheVariants as events
use Rattle.history_event.specs.declared.event.SymAsk.{SymAsk}
use Rattle.history_event.specs.declared.handed.Function.{Function}
use Rattle.history_state.specs.After.{after}
use Rattle.history_state.specs.Allowed.{Allowed}
use Rattle.history_state.specs.Legal.{Lawful}
use Rattle.history_state.specs.Lookup.{RefusesSymbol}
use Rattle.history_state.specs.Objects.{serial_of}
use Rattle.history_state.specs.Setting.{Setting}
use Rattle.history_state.specs.State.{State}
use Rattle.history_calls.specs.Answer.{Answer, returns, loading, closing, refused, granted, told, again, over}
use Rattle.history_calls.specs.Call.{Call, resolves, opens, looks_up, closes, unmaps, asks_fault, locates, writes, stops}
use Rattle.history_calls.specs.Functions.{passed}
use Rattle.history_calls.specs.Gives.{EventAnswers, Gives, ending}
use Rattle.history_calls.specs.Laws.{OneAnswer, OneOpening, is_chance, is_memory, is_read_fault}
use Rattle.history_calls.specs.Lemmas.OneOrder.{one_finalisation, one_initialisation}
use Rattle.hart_moves.specs.Due.{Return}
use Rattle.hart_moves.specs.Harts.{HartState, Purpose}
use Rattle.hart_moves.specs.Moves.{Calls, Did, Takes, TellsOf, events_of, passing, settles, stack_start}
use Rattle.world_laws.specs.TurnOnce.Laws.{NothingFails, is_from_outside}
use Rattle.world_laws.specs.TurnOnce.Lemmas.Failing.{front_part, last_part}

-- ---- a service settles

telling_settles : (text : ℕ) (b : HartState) (to : Return) (fault : Option DlFault) (appended : List Event) (did : Did) (c : HartState) → TellsOf text b to fault appended did c → settles did ≡ true
telling_settles text b to (Some fault) appended did c x = ap settles x.is
telling_settles text b to None appended did c x = ap settles x.is

pub takes_settles : (w : Setting) (past : List Event) (h : ℕ) (b : HartState) (call : Call) (to : Return) (answer : Answer) (appended : List Event) (did : Did) (c : HartState) → Takes w past h b call to answer appended did c → settles did ≡ true
takes_settles w past h b call to (returns value) appended did c x = ap settles x.is
takes_settles w past h b call to (loading root added) appended did c x = ap settles x.passes.is
takes_settles w past h b call to (closing set) appended did c x = ap settles x.passes.is
takes_settles w past h b call to (refused fault) appended did c x = ap settles x.is
takes_settles w past h b call to (granted g) appended did c x = ap settles x.is
takes_settles w past h b call to (told fault) appended did c x = telling_settles (stack_start (after past) h) b to fault appended did c x
takes_settles w past h b call to (again for) appended did c x = ap settles x.is
takes_settles w past h b call to (over reason) appended did c x = ap settles x.is

-- ---- what fails shows in the journal

abbrev IsSafe : Answer → Type 0
IsSafe (returns value) = Unit {0}
IsSafe (loading root added) = Unit {0}
IsSafe (closing set) = Unit {0}
IsSafe (refused fault) = is_read_fault fault ≡ false
IsSafe (granted g) = Unit {0}
IsSafe (told fault) = Unit {0}
IsSafe (again for) = Unit {0}
IsSafe (over reason) = Unit {0}

not_found : (s : State) (h : ℕ) (ask : SymAsk) (fault : DlFault) → RefusesSymbol s h ask fault → is_read_fault fault ≡ false
not_found s h ask fault (RefusesSymbol.name_too_long long) = refl
not_found s h ask fault (RefusesSymbol.bad_handle short nonzero none) = refl
not_found s h ask fault (RefusesSymbol.missing short found) = refl
not_found s h ask fault (RefusesSymbol.no_room serial index pages short found storage none) = refl

answer_safe : (w : Setting) (past : List Event) (h : ℕ) (call : Call) (e : Event) (answer : Answer) → EventAnswers h call e answer → Allowed w past e → is_from_outside e ≡ false → IsSafe answer
answer_safe w past h call e answer (EventAnswers.is_loaded ask id root first rest ranges) may none = tt
answer_safe w past h call e answer (EventAnswers.is_there ask id root ranges) may none = tt
answer_safe w past h call e answer (EventAnswers.is_absent ask) may none = tt
answer_safe w past h call e answer (EventAnswers.is_not_opened ask fault) may none = none
answer_safe w past h call e answer (EventAnswers.dies handle first rest) may none = tt
answer_safe w past h call e answer (EventAnswers.stays handle) may none = tt
answer_safe w past h call e answer (EventAnswers.is_not_closed handle fault) may none = ap is_read_fault may.is
answer_safe w past h call e answer (EventAnswers.is_unmapped set) may none = tt
answer_safe w past h call e answer (EventAnswers.is_granted owner eights slot number choice value is) may none = tt
answer_safe w past h call e answer (EventAnswers.is_unresolved owner eights slot is) may none = tt
answer_safe w past h call e answer (EventAnswers.is_not_code owner eights slot serial index is) may none = tt
answer_safe w past h call e answer (EventAnswers.is_found ask serial index value) may none = tt
answer_safe w past h call e answer (EventAnswers.is_not_found ask fault) may none = not_found (after past) h ask fault may.1
answer_safe w past h call e answer (EventAnswers.is_told fault) may none = tt
answer_safe w past h call e answer (EventAnswers.is_written bytes) may none = tt

given_safe : (w : Setting) (past : List Event) (h : ℕ) (call : Call) (given : List Event) (answer : Answer) → Gives w past h call given answer → NothingFails given → IsSafe answer
given_safe w past h call given answer (Gives.by_event _ e _ answers may) none = answer_safe w past h call e answer answers may (or_parts (is_from_outside e) false none).0
given_safe w past h call given answer (Gives.by_first_block ask e f value finds) none = tt
given_safe w past h call given answer (Gives.in_new_block number offset block e gets) none = tt
given_safe w past h call given answer (Gives.in_block number offset block has_it) none = tt
given_safe w past h call given answer (Gives.to_again _ for shows) none = tt
given_safe w past h call given answer (Gives.to_end _ reason ends) none = tt

-- what a call appended stands in what its turn did, where it isn't to be made again
no_chance : (w : Setting) (past : List Event) (h : ℕ) (b : HartState) (call : Call) (to : Return) (answer : Answer) (appended given : List Event) (did : Did) (c : HartState) → Takes w past h b call to answer appended did c → appended ≡ given ++ ending h answer
    → Gives w past h call given answer → NothingFails (events_of did) → is_chance answer ≡ false
no_chance w past h b call to (returns value) appended given did c x are gives none = refl
no_chance w past h b call to (loading root added) appended given did c x are gives none = refl
no_chance w past h b call to (closing set) appended given did c x are gives none = refl
no_chance w past h b call to (refused fault) appended given did c x are gives none =
    given_safe w past h call given (refused fault) gives
    (front_part given (ending h (refused fault)) (subst NothingFails (ap events_of x.is ∙ are) none))
no_chance w past h b call to (granted g) appended given did c x are gives none = refl
no_chance w past h b call to (told fault) appended given did c x are gives none = refl
no_chance w past h b call to (again for) appended given did c x are gives none = refl
no_chance w past h b call to (over reason) appended given did c x are gives none =
    (or_parts (is_memory reason) false (last_part given (events.Ended h reason ∷ []) (subst NothingFails (ap events_of x.is ∙ are) none))).0

-- ---- one answer

pub record AnswerLaws : Type 0 where
  pub plain : OneAnswer
  pub openings : OneOpening

one_of : AnswerLaws → (w : Setting) (files : List File) (past : List Event) (h : ℕ) (call : Call) (given others : List Event) (answer other : Answer) → w.files ≡ Some files → Lawful w.machine past → Gives w past h call given answer → Gives w past h call others other
    → is_chance answer ≡ false → is_chance other ≡ false → (given ≡ others) × (answer ≡ other)
one_of laws w files past h (resolves owner eights) given others answer other files_are lawful x y a b = laws.plain w.machine w past h (resolves owner eights) given others answer other refl lawful tt x y a b
one_of laws w files past h (opens ask) given others answer other files_are lawful x y a b = laws.openings w past h ask files given others answer other files_are x y a b
one_of laws w files past h (looks_up ask) given others answer other files_are lawful x y a b = laws.plain w.machine w past h (looks_up ask) given others answer other refl lawful tt x y a b
one_of laws w files past h (closes handle) given others answer other files_are lawful x y a b = laws.plain w.machine w past h (closes handle) given others answer other refl lawful tt x y a b
one_of laws w files past h (unmaps set) given others answer other files_are lawful x y a b = laws.plain w.machine w past h (unmaps set) given others answer other refl lawful tt x y a b
one_of laws w files past h asks_fault given others answer other files_are lawful x y a b = laws.plain w.machine w past h asks_fault given others answer other refl lawful tt x y a b
one_of laws w files past h (locates number offset) given others answer other files_are lawful x y a b = laws.plain w.machine w past h (locates number offset) given others answer other refl lawful tt x y a b
one_of laws w files past h (writes bytes) given others answer other files_are lawful x y a b = laws.plain w.machine w past h (writes bytes) given others answer other refl lawful tt x y a b
one_of laws w files past h (stops reason) given others answer other files_are lawful x y a b = laws.plain w.machine w past h (stops reason) given others answer other refl lawful tt x y a b

-- ---- one turn of a service

telling_same : (text : ℕ) (b : HartState) (to : Return) (fault : Option DlFault) (appended : List Event) (did also : Did) (c d : HartState) → TellsOf text b to fault appended did c → TellsOf text b to fault appended also d → did ≡ also
telling_same text b to (Some fault) appended did also c d x y = x.is ∙ sym y.is
telling_same text b to None appended did also c d x y = x.is ∙ sym y.is

passes_same : (purpose : Purpose) (h : ℕ) (before : List Event) (one other : List Function) (did also : Did) → did ≡ Did.serves [] (before ++ map (passing purpose h) (passed one)) → also ≡ Did.serves [] (before ++ map (passing purpose h) (passed other)) → one ≡ other → did ≡ also
passes_same purpose h before one other did also x y same = x ∙ ap (λ (fs : List Function). Did.serves [] (before ++ map (passing purpose h) (passed fs))) same ∙ sym y

takes_same : (w : Setting) (past : List Event) (h : ℕ) (b : HartState) (call : Call) (to : Return) (answer : Answer) (appended : List Event) (did also : Did) (c d : HartState) → Takes w past h b call to answer appended did c → Takes w past h b call to answer appended also d → did ≡ also
takes_same w past h b call to (returns value) appended did also c d x y = x.is ∙ sym y.is
takes_same w past h b call to (loading root added) appended did also c d x y =
    passes_same (Purpose.of_opening to.to root) h appended x.functions y.functions did also x.passes.is y.passes.is (one_initialisation (after (past ++ appended)) (map serial_of added) x.functions y.functions x.are y.are)
takes_same w past h b call to (closing set) appended did also c d x y =
    passes_same (Purpose.of_closing to.to set) h appended x.functions y.functions did also x.passes.is y.passes.is (one_finalisation (after (past ++ appended)) set x.functions y.functions x.are y.are)
takes_same w past h b call to (refused fault) appended did also c d x y = x.is ∙ sym y.is
takes_same w past h b call to (granted g) appended did also c d x y = x.is ∙ sym y.is
takes_same w past h b call to (told fault) appended did also c d x y = telling_same (stack_start (after past) h) b to fault appended did also c d x y
takes_same w past h b call to (again for) appended did also c d x y = x.is ∙ sym y.is
takes_same w past h b call to (over reason) appended did also c d x y = x.is ∙ sym y.is

pub calls_same : AnswerLaws → (w : Setting) (files : List File) (past : List Event) (h : ℕ) (b : HartState) (call : Call) (to : Return) (did also : Did) (c d : HartState) → w.files ≡ Some files → Lawful w.machine past
    → Calls w past h b call to did c → Calls w past h b call to also d → NothingFails (events_of did) → NothingFails (events_of also) → did ≡ also
calls_same laws w files past h b call to did also c d files_are lawful x y none nor =
    let both = one_of laws w files past h call x.serves.given y.serves.given x.answer y.answer files_are lawful x.serves.gives y.serves.gives
    (no_chance w past h b call to x.answer x.appended x.serves.given did c x.takes x.serves.are x.serves.gives none)
    (no_chance w past h b call to y.answer y.appended y.serves.given also d y.takes y.serves.are y.serves.gives nor) in
    let appended : y.appended ≡ x.appended = y.serves.are ∙ ap (λ (es : List Event). es ++ ending h y.answer) (sym both.0) ∙ ap (λ (a : Answer). x.serves.given ++ ending h a) (sym both.1) ∙ sym x.serves.are in
    takes_same w past h b call to x.answer x.appended did also c d x.takes
    (subst (λ (a : Answer). Takes w past h b call to a x.appended also d) (sym both.1) (subst (λ (es : List Event). Takes w past h b call to y.answer es also d) appended y.takes))
