-- What memory gets of the events of a call, by what the call answers.
use Rattle.std.proofs.Common.{◌≡◌, inl, inr, ℕ, Bool, true, false, List, [], ◌∷◌, ◌++◌, Option, Some, None, refl, sym, ap, subst, ◌∙◌, append_assoc}
use Rattle.std.proofs.lemmas.Bool.{true≢false}
use Rattle.history_event.specs.declared.event.Event.{Event}
use Rattle.history_event.specs.declared.event.Event.TheVariants as events
use Rattle.history_event.specs.declared.event.OpenAsk.{OpenAsk}
use Rattle.history_event.specs.declared.event.Range.{Range}
use Rattle.history_event.specs.declared.event.SymAnswer.TheVariants as syms
use Rattle.history_event.specs.declared.event.SymAsk.{SymAsk}
use Rattle.history_state.specs.After.{after}
use Rattle.history_state.specs.Allowed.{Allowed}
use Rattle.history_state.specs.Areas.{Area, AreGiven, areas, free_pages}
use Rattle.history_state.specs.Objects.{is_startup}
use Rattle.history_state.specs.Opening.{Opens, OpensName, wanted}
use Rattle.history_state.specs.Setting.{Setting}
use Rattle.history_state.specs.State.{State, Statics}
use Rattle.history_state.specs.Step.{step}
use Rattle.history_state.specs.Storage.{statics_with}
use Rattle.history_state.specs.Lemmas.History.{after_push}
use Rattle.history_calls.specs.declared.link_served.installs.Installs.{Installs}
use Rattle.history_calls.specs.Answer.{Answer, returns, loading, closing, refused, granted, told, again, over}
use Rattle.history_calls.specs.Call.{Call, opens, closes, writes, looks_up, locates}
use Rattle.history_calls.specs.Gives.{EventAnswers, Gives}
use Rattle.history_calls.specs.Served.{AreBlockInstalls, InstallsNothing, Makes}
use Rattle.world_memory.specs.TurnAnswers.Changes.{Changes, LeaveMemory}
use Rattle.world_memory.specs.declared.turn_answers.answered.MemoryChange.TheVariants as change

-- ---- an opening that brings no object

none_wanted : (startup : Bool) (st : Statics) (harts : ℕ) → startup ≡ false → areas startup st harts [] ≡ []
none_wanted true st harts past = absurd (true≢false past)
none_wanted false st harts past = refl

none_given : (free : List ℕ) (wanted : List Area) (ranges : List Range) (left : List ℕ) → wanted ≡ [] → AreGiven free wanted ranges left → ranges ≡ []
none_given free [] [] left none given = refl
none_given free [] (r ∷ ranges) left none given = absurd given
none_given free (area ∷ rest) ranges left none given = absurd cc

-- once startup is past it reserves no pages
no_pages : (w : Setting) (s : State) (h : ℕ) (ask : OpenAsk) (id root : ℕ) (ranges : List Range) → is_startup s ≡ false → Opens w s h ask id root [] ranges → ranges ≡ []
no_pages w s h ask id root ranges past may = by ask.name may.name
  where
    by : (name : Option (List ℕ)) → OpensName w s h ask name id root [] ranges → ranges ≡ []
    by (Some name) loads =
        none_given (free_pages s.ranges) (wanted w s []) ranges loads.placed.left (none_wanted (is_startup s) (statics_with [] s.statics) w.machine.harts past) loads.placed.given
    by None program = program.no_pages

-- ---- answers other than values and loads

abbrev Leaves : State → ℕ → Answer → List Event → Type 0
Leaves s h (returns value) given = Unit {0}
Leaves s h (loading root added) given = Unit {0}
Leaves s h (closing set) given = LeaveMemory s given
Leaves s h (refused fault) given = LeaveMemory s given
Leaves s h (granted grant) given = LeaveMemory s given
Leaves s h (told fault) given = LeaveMemory s given
Leaves s h (again for) given = LeaveMemory s given
Leaves s h (over reason) given = LeaveMemory s (given ++ events.Ended h reason ∷ [])

one_leaves : {h : ℕ} {call : Call} {e : Event} {answer : Answer} (s : State) → EventAnswers h call e answer → Leaves s h answer (e ∷ [])
one_leaves s (EventAnswers.is_loaded ask id root first rest ranges) = tt
one_leaves s (EventAnswers.is_there ask id root ranges) = tt
one_leaves s (EventAnswers.is_absent ask) = tt
one_leaves s (EventAnswers.is_not_opened ask fault) = (refl, refl, tt)
one_leaves s (EventAnswers.dies handle first rest) = (refl, refl, tt)
one_leaves s (EventAnswers.stays handle) = tt
one_leaves s (EventAnswers.is_not_closed handle fault) = (refl, refl, tt)
one_leaves s (EventAnswers.is_unmapped set) = tt
one_leaves s (EventAnswers.is_granted owner eights slot number choice value eight) = (refl, refl, tt)
one_leaves s (EventAnswers.is_unresolved owner eights slot eight) = (refl, refl, (refl, refl, tt))
one_leaves s (EventAnswers.is_not_code owner eights slot serial index eight) = (refl, refl, (refl, refl, tt))
one_leaves s (EventAnswers.is_found ask serial index value) = tt
one_leaves s (EventAnswers.is_not_found ask fault) = (refl, refl, tt)
one_leaves s (EventAnswers.is_told fault) = (refl, refl, tt)
one_leaves s (EventAnswers.is_written bytes) = tt

pub leaves : {w : Setting} {past : List Event} {h : ℕ} {call : Call} {given : List Event} {answer : Answer} → Gives w past h call given answer → Leaves (after past) h answer given
leaves {w} {past} (Gives.by_event call e answer answers may) = one_leaves (after past) answers
leaves (Gives.by_first_block ask e f value first) = tt
leaves (Gives.in_new_block number offset block e gets) = tt
leaves (Gives.in_block number offset block has) = tt
leaves (Gives.to_again call for shows) = tt
leaves (Gives.to_end call reason ends) = (refl, refl, tt)

-- ---- values of openings, closings and writes

abbrev LeavesValue : State → Call → Answer → List Event → Type 0
LeavesValue s (opens ask) (returns value) given = is_startup s ≡ false → LeaveMemory s given
LeavesValue s (closes handle) (returns value) given = LeaveMemory s given
LeavesValue s (writes bytes) (returns value) given = LeaveMemory s given
LeavesValue s call answer given = Unit {0}

one_value : {h : ℕ} {call : Call} {e : Event} {answer : Answer} (w : Setting) (past : List Event) → EventAnswers h call e answer → Allowed w past e
    → LeavesValue (after past) call answer (e ∷ [])
one_value {h} w past (EventAnswers.is_there ask id root ranges) may = λ started. (no_pages w (after past) h ask id root ranges started may, refl, tt)
one_value w past (EventAnswers.is_loaded ask id root first rest ranges) may = tt
one_value w past (EventAnswers.is_absent ask) may = λ started. (refl, refl, tt)
one_value w past (EventAnswers.is_not_opened ask fault) may = tt
one_value w past (EventAnswers.dies handle first rest) may = tt
one_value w past (EventAnswers.stays handle) may = (refl, refl, tt)
one_value w past (EventAnswers.is_not_closed handle fault) may = tt
one_value w past (EventAnswers.is_unmapped set) may = tt
one_value w past (EventAnswers.is_granted owner eights slot number choice value eight) may = tt
one_value w past (EventAnswers.is_unresolved owner eights slot eight) may = tt
one_value w past (EventAnswers.is_not_code owner eights slot serial index eight) may = tt
one_value w past (EventAnswers.is_found ask serial index value) may = tt
one_value w past (EventAnswers.is_not_found ask fault) may = tt
one_value w past (EventAnswers.is_told fault) may = tt
one_value w past (EventAnswers.is_written bytes) may = (refl, refl, tt)

-- other answers say nothing of it
abbrev IsOther : Answer → Type 0
IsOther (returns value) = ⊥
IsOther other = Unit {0}

other_value : (s : State) (call : Call) (answer : Answer) (given : List Event) → IsOther answer → LeavesValue s call answer given
other_value s (opens ask) (returns value) given other = absurd other
other_value s (closes handle) (returns value) given other = absurd other
other_value s (writes bytes) (returns value) given other = absurd other
other_value s call answer given other = tt

pub leaves_value : {w : Setting} {past : List Event} {h : ℕ} {call : Call} {given : List Event} {answer : Answer} → Gives w past h call given answer
    → LeavesValue (after past) call answer given
leaves_value {w} {past} (Gives.by_event call e answer answers may) = one_value w past answers may
leaves_value (Gives.by_first_block ask e f value first) = tt
leaves_value (Gives.in_new_block number offset block e gets) = tt
leaves_value (Gives.in_block number offset block has) = tt
leaves_value {w} {past} (Gives.to_again call for shows) = other_value (after past) call (again for) [] tt
leaves_value {w} {past} (Gives.to_end call reason ends) = other_value (after past) call (over reason) [] tt

-- ---- blocks that are made

abbrev MadeFirst : State → Event → Installs → Type 0
MadeFirst s (events.Tls hart serial address) made = AreBlockInstalls s hart serial address made
MadeFirst s (events.Sym hart ask answer) made = InstallsNothing made
MadeFirst s other made = Unit {0}

abbrev MadeOf : State → List Event → Installs → Type 0
MadeOf s [] made = InstallsNothing made
MadeOf s (e ∷ rest) made = MadeFirst s e made

made_of : {s : State} {given : List Event} {made : Installs} → Makes s given made → MadeOf s given made
made_of (Makes.a_block hart serial address rest made installed) = installed
made_of (Makes.no_block hart ask answer made nothing) = nothing
made_of (Makes.no_event made nothing) = nothing

-- the pages are those of the state before the block is there, too
with_block : (past : List Event) (h serial block : ℕ) (rest : List Event) (made : Installs)
    → after (past ++ events.Tls h serial block ∷ rest) ≡ step (after past) (events.Tls h serial block)
    → LeaveMemory (step (after past) (events.Tls h serial block)) rest
    → AreBlockInstalls (after (past ++ events.Tls h serial block ∷ rest)) h serial block made → Changes (after past) (events.Tls h serial block ∷ rest) made change.Made
with_block past h serial block rest made same leave installed = inl (record {
  first = events.Tls h serial block;
  behind = rest;
  are = refl;
  takes_none = refl;
  installed = subst (λ (s : State). AreBlockInstalls s h serial block made) same installed;
  leave = leave;
})

alone : (past : List Event) (h serial block : ℕ) (made : Installs) → MadeOf (after (past ++ events.Tls h serial block ∷ [])) (events.Tls h serial block ∷ []) made
    → Changes (after past) (events.Tls h serial block ∷ []) made change.Made
alone past h serial block made installed = with_block past h serial block [] made (after_push past (events.Tls h serial block)) tt installed

then_found : (past : List Event) (h serial block : ℕ) (ask : SymAsk) (at index value : ℕ) (made : Installs)
    → MadeOf (after (past ++ events.Tls h serial block ∷ events.Sym h ask (syms.Found at index value) ∷ [])) (events.Tls h serial block ∷ events.Sym h ask (syms.Found at index value) ∷ []) made
    → Changes (after past) (events.Tls h serial block ∷ events.Sym h ask (syms.Found at index value) ∷ []) made change.Made
then_found past h serial block ask at index value made installed =
    let e : Event = events.Tls h serial block in
    let f : Event = events.Sym h ask (syms.Found at index value) in
    let same : after (past ++ e ∷ f ∷ []) ≡ step (after past) e =
    ap after (sym (append_assoc past (e ∷ []) (f ∷ []))) ∙ after_push (past ++ e ∷ []) f ∙ after_push past e in
    with_block past h serial block (f ∷ []) made same (refl, refl, tt) installed

abbrev ChangesMade : List Event → Installs → Call → Answer → List Event → Type 0
ChangesMade past made (looks_up ask) (returns value) given = MadeOf (after (past ++ given)) given made → Changes (after past) given made change.Made
ChangesMade past made (locates number offset) (returns value) given = MadeOf (after (past ++ given)) given made → Changes (after past) given made change.Made
ChangesMade past made call answer given = Unit {0}

one_made : {h : ℕ} {call : Call} {e : Event} {answer : Answer} (past : List Event) (made : Installs) → EventAnswers h call e answer → ChangesMade past made call answer (e ∷ [])
one_made past made (EventAnswers.is_loaded ask id root first rest ranges) = tt
one_made past made (EventAnswers.is_there ask id root ranges) = tt
one_made past made (EventAnswers.is_absent ask) = tt
one_made past made (EventAnswers.is_not_opened ask fault) = tt
one_made past made (EventAnswers.dies handle first rest) = tt
one_made past made (EventAnswers.stays handle) = tt
one_made past made (EventAnswers.is_not_closed handle fault) = tt
one_made past made (EventAnswers.is_unmapped set) = tt
one_made past made (EventAnswers.is_granted owner eights slot number choice value eight) = tt
one_made past made (EventAnswers.is_unresolved owner eights slot eight) = tt
one_made past made (EventAnswers.is_not_code owner eights slot serial index eight) = tt
one_made past made (EventAnswers.is_found ask serial index value) = λ nothing. inr (nothing, (refl, refl, tt))
one_made past made (EventAnswers.is_not_found ask fault) = tt
one_made past made (EventAnswers.is_told fault) = tt
one_made past made (EventAnswers.is_written bytes) = tt

other_made : (past : List Event) (made : Installs) (call : Call) (answer : Answer) (given : List Event) → IsOther answer → ChangesMade past made call answer given
other_made past made (looks_up ask) (returns value) given other = absurd other
other_made past made (locates number offset) (returns value) given other = absurd other
other_made past made call answer given other = tt

changes_made : {w : Setting} {past : List Event} {h : ℕ} {call : Call} {given : List Event} {answer : Answer} (made : Installs) → Gives w past h call given answer
    → ChangesMade past made call answer given
changes_made {w} {past} made (Gives.by_event call e answer answers may) = one_made past made answers
changes_made {w} {past} {h} made (Gives.by_first_block ask e f value first) =
    subst (λ (d : Event). MadeOf (after (past ++ d ∷ f ∷ [])) (d ∷ f ∷ []) made → Changes (after past) (d ∷ f ∷ []) made change.Made) (sym first.gets)
    (subst (λ (d : Event). MadeOf (after (past ++ events.Tls h first.serial first.block ∷ d ∷ [])) (events.Tls h first.serial first.block ∷ d ∷ []) made
    → Changes (after past) (events.Tls h first.serial first.block ∷ d ∷ []) made change.Made) (sym first.finds)
    (then_found past h first.serial first.block ask first.serial first.index value made))
changes_made {w} {past} {h} made (Gives.in_new_block number offset block e gets) =
    subst (λ (d : Event). MadeOf (after (past ++ d ∷ [])) (d ∷ []) made → Changes (after past) (d ∷ []) made change.Made) (sym gets.is) (alone past h gets.of.serial block made)
changes_made made (Gives.in_block number offset block has) = λ nothing. inr (nothing, tt)
changes_made {w} {past} made (Gives.to_again call for shows) = other_made past made call (again for) [] tt
changes_made {w} {past} made (Gives.to_end call reason ends) = other_made past made call (over reason) [] tt

pub look_changes : {w : Setting} {past : List Event} {h value : ℕ} {ask : SymAsk} {given : List Event} (made : Installs) → Gives w past h (looks_up ask) given (returns value)
    → Makes (after (past ++ given)) given made → Changes (after past) given made change.Made
look_changes made gives makes = changes_made made gives (made_of makes)

pub locate_changes : {w : Setting} {past : List Event} {h value number offset : ℕ} {given : List Event} (made : Installs) → Gives w past h (locates number offset) given (returns value)
    → Makes (after (past ++ given)) given made → Changes (after past) given made change.Made
locate_changes made gives makes = changes_made made gives (made_of makes)
