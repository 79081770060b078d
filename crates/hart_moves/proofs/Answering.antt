-- The events that a call appends tell what it comes to.
use Rattle.std.proofs.Common.{◌≡◌, ℕ, List, [], ◌∷◌, ◌++◌, length, Option, refl, sym, ap, subst, ◌∙◌}
use Rattle.std.specs.Option.{option_map_or}
use Rattle.ld_base.specs.declared.linking.Choice.{Choice}
use Rattle.ld_base.specs.declared.linking.Choice.TheVariants.{Def, WeakZero, Missing}
use Rattle.ld_base.specs.declared.linking.Loaded.{Loaded}
use Rattle.history_event.specs.declared.event.CloseAnswer.{CloseAnswer}
use Rattle.history_event.specs.declared.event.CloseAnswer.TheVariants as closings
use Rattle.history_event.specs.declared.event.Event.{Event}
use Rattle.history_event.specs.declared.event.Event.TheVariants as events
use Rattle.history_event.specs.declared.event.OpenAnswer.{OpenAnswer}
use Rattle.history_event.specs.declared.event.OpenAnswer.TheVariants as openings
use Rattle.history_event.specs.declared.event.SymAnswer.{SymAnswer}
use Rattle.history_event.specs.declared.event.SymAnswer.TheVariants as symbols
use Rattle.history_event.specs.declared.hart_end.HartEnd.TheVariants as ends
use Rattle.history_event.specs.declared.state.Module.{Module}
use Rattle.history_event.specs.declared.state.Standing.TheVariants.{Open}
use Rattle.history_state.specs.After.{after}
use Rattle.history_state.specs.Setting.{Setting}
use Rattle.history_state.specs.State.{State}
use Rattle.history_state.specs.Storage.{tls_block}
use Rattle.tls_blocks.specs.Numbers.{module_at}
use Rattle.history_calls.specs.Answer.{Answer, returns, loading, closing, refused, granted, told, again, over}
use Rattle.history_calls.specs.Call.{Call, resolves, opens, looks_up, closes, unmaps, asks_fault, locates, writes, stops}
use Rattle.history_calls.specs.Gives.{EventAnswers, Gives, Serves, ending, variable_at}

-- ---- an answer, read off the first events

abbrev loaded_answer : ℕ → List Loaded → Answer
loaded_answer root [] = returns root
loaded_answer root (o ∷ rest) = loading root (o ∷ rest)

abbrev open_answer : OpenAnswer → Answer
open_answer (openings.Done id root added ranges) = loaded_answer root added
open_answer openings.Absent = returns 0
open_answer (openings.Refused fault) = refused fault

abbrev dying_answer : List ℕ → Answer
dying_answer [] = returns 0
dying_answer (d ∷ rest) = closing (d ∷ rest)

abbrev close_answer : CloseAnswer → Answer
close_answer (closings.Done set) = dying_answer set
close_answer (closings.Refused fault) = refused fault

abbrev sym_answer : SymAnswer → Answer
sym_answer (symbols.Found serial index value) = returns value
sym_answer (symbols.Refused fault) = refused fault

abbrev unresolved_answer : ℕ → ℕ → Choice → Answer
unresolved_answer owner slot (Def serial index) = over (ends.NotCode owner slot)
unresolved_answer owner slot WeakZero = returns 0
unresolved_answer owner slot Missing = over (ends.Unresolved owner slot)

-- an event alone
abbrev event_answer : Event → Answer
event_answer (events.Open hart ask answer) = open_answer answer
event_answer (events.Close hart handle answer) = close_answer answer
event_answer (events.Unmapped hart set) = returns 0
event_answer (events.Grant number hart owner slot choice value) =
    granted (record { number = number; hart = hart; owner = owner; slot = slot; choice = choice; value = value; standing = Open })
event_answer (events.Bound number) = returns 0
event_answer (events.Lost number saw) = returns 0
event_answer (events.Unresolved hart owner slot choice) = unresolved_answer owner slot choice
event_answer (events.Sym hart ask answer) = sym_answer answer
event_answer (events.Tls hart owner address) = returns 0
event_answer (events.Init hart object) = returns 0
event_answer (events.Fini hart object) = returns 0
event_answer (events.Wrote hart bytes) = returns (length bytes)
event_answer (events.Told hart fault) = told fault
event_answer (events.Ended hart reason) = over reason

-- a block, and what follows it
abbrev block_answer : Call → ℕ → List Event → Answer
block_answer (locates number offset) block rest = returns (variable_at block offset)
block_answer (looks_up ask) block (f ∷ rest) = event_answer f
block_answer (looks_up ask) block [] = returns 0
block_answer (resolves owner eights) block rest = returns 0
block_answer (opens ask) block rest = returns 0
block_answer (closes handle) block rest = returns 0
block_answer (unmaps set) block rest = returns 0
block_answer asks_fault block rest = returns 0
block_answer (writes bytes) block rest = returns 0
block_answer (stops reason) block rest = returns 0

abbrev pub first_answer : Call → Event → List Event → Answer
first_answer call (events.Tls hart owner address) rest = block_answer call address rest
first_answer call (events.Open hart ask answer) rest = event_answer (events.Open hart ask answer)
first_answer call (events.Close hart handle answer) rest = event_answer (events.Close hart handle answer)
first_answer call (events.Unmapped hart set) rest = event_answer (events.Unmapped hart set)
first_answer call (events.Grant number hart owner slot choice value) rest = event_answer (events.Grant number hart owner slot choice value)
first_answer call (events.Bound number) rest = event_answer (events.Bound number)
first_answer call (events.Lost number saw) rest = event_answer (events.Lost number saw)
first_answer call (events.Unresolved hart owner slot choice) rest = event_answer (events.Unresolved hart owner slot choice)
first_answer call (events.Sym hart ask answer) rest = event_answer (events.Sym hart ask answer)
first_answer call (events.Init hart object) rest = event_answer (events.Init hart object)
first_answer call (events.Fini hart object) rest = event_answer (events.Fini hart object)
first_answer call (events.Wrote hart bytes) rest = event_answer (events.Wrote hart bytes)
first_answer call (events.Told hart fault) rest = event_answer (events.Told hart fault)
first_answer call (events.Ended hart reason) rest = event_answer (events.Ended hart reason)

-- nothing: a block that is there already
abbrev kept_address : State → ℕ → ℕ → ℕ → ℕ
kept_address s h number offset = option_map_or (λ (m : Module). option_map_or (λ block. variable_at block offset) (tls_block s h m.serial) 0) (module_at s.modules number) 0

abbrev kept_answer : State → ℕ → Call → Answer
kept_answer s h (locates number offset) = returns (kept_address s h number offset)
kept_answer s h (looks_up ask) = returns 0
kept_answer s h (resolves owner eights) = returns 0
kept_answer s h (opens ask) = returns 0
kept_answer s h (closes handle) = returns 0
kept_answer s h (unmaps set) = returns 0
kept_answer s h asks_fault = returns 0
kept_answer s h (writes bytes) = returns 0
kept_answer s h (stops reason) = returns 0

abbrev pub answer_from : State → ℕ → Call → List Event → Answer
answer_from s h call [] = kept_answer s h call
answer_from s h call (e ∷ rest) = first_answer call e rest

-- ---- it is the answer

-- the answer, of what comes first
pub record Leads (call : Call) (appended : List Event) (answer : Answer) : Type 0 where
  pub first : Event
  pub alone : appended ≡ first ∷ []
  pub answers : (rest : List Event) → first_answer call first rest ≡ answer

-- what functions follow on is told by one event, that a call has to be made again by none
abbrev pub Tells : State → ℕ → Call → List Event → Answer → Type 0
Tells s h call appended (returns value) = answer_from s h call appended ≡ returns value
Tells s h call appended (loading root added) = Leads call appended (loading root added)
Tells s h call appended (closing set) = Leads call appended (closing set)
Tells s h call appended (refused fault) = answer_from s h call appended ≡ refused fault
Tells s h call appended (granted grant) = answer_from s h call appended ≡ granted grant
Tells s h call appended (told fault) = answer_from s h call appended ≡ told fault
Tells s h call appended (again for) = Unit {0}
Tells s h call appended (over reason) = answer_from s h call appended ≡ over reason

tells_one : (s : State) (h : ℕ) (call : Call) (e : Event) (answer : Answer) → EventAnswers h call e answer → Tells s h call (e ∷ ending h answer) answer
tells_one s h call e answer (EventAnswers.is_loaded ask id root first rest ranges) = record { first = e; alone = refl; answers = λ more. refl }
tells_one s h call e answer (EventAnswers.is_there ask id root ranges) = refl
tells_one s h call e answer (EventAnswers.is_absent ask) = refl
tells_one s h call e answer (EventAnswers.is_not_opened ask fault) = refl
tells_one s h call e answer (EventAnswers.dies handle first rest) = record { first = e; alone = refl; answers = λ more. refl }
tells_one s h call e answer (EventAnswers.stays handle) = refl
tells_one s h call e answer (EventAnswers.is_not_closed handle fault) = refl
tells_one s h call e answer (EventAnswers.is_unmapped set) = refl
tells_one s h call e answer (EventAnswers.is_granted owner eights slot number choice value is) = refl
tells_one s h call e answer (EventAnswers.is_unresolved owner eights slot is) = refl
tells_one s h call e answer (EventAnswers.is_not_code owner eights slot serial index is) = refl
tells_one s h call e answer (EventAnswers.is_found ask serial index value) = refl
tells_one s h call e answer (EventAnswers.is_not_found ask fault) = refl
tells_one s h call e answer (EventAnswers.is_told fault) = refl
tells_one s h call e answer (EventAnswers.is_written bytes) = refl

tells_given : (w : Setting) (past : List Event) (h : ℕ) (call : Call) (given : List Event) (answer : Answer) → Gives w past h call given answer
    → Tells (after past) h call (given ++ ending h answer) answer
tells_given w past h call given answer (Gives.by_event _ e _ answers may) = tells_one (after past) h call e answer answers
tells_given w past h call given answer (Gives.by_first_block ask e f value finds) =
    ap (λ (d : Event). first_answer (looks_up ask) d (f ∷ [])) finds.gets ∙ ap (λ (d : Event). event_answer d) finds.finds
tells_given w past h call given answer (Gives.in_new_block number offset block e gets) = ap (λ (d : Event). first_answer (locates number offset) d []) gets.is
tells_given w past h call given answer (Gives.in_block number offset block has) =
    ap (λ (m : Option Module). returns (option_map_or (λ (n : Module). option_map_or (λ b. variable_at b offset) (tls_block (after past) h n.serial) 0) m 0)) has.there
    ∙ ap (λ (b : Option ℕ). returns (option_map_or (λ x. variable_at x offset) b 0)) has.is
tells_given w past h call given answer (Gives.to_again _ for shows) = tt
tells_given w past h call given answer (Gives.to_end _ reason ends) = refl

pub tells : (w : Setting) (past : List Event) (h : ℕ) (call : Call) (appended : List Event) (answer : Answer) → Serves w past h call appended answer
    → Tells (after past) h call appended answer
tells w past h call appended answer serves =
    subst (λ (es : List Event). Tells (after past) h call es answer) (sym serves.are) (tells_given w past h call serves.given answer serves.gives)
