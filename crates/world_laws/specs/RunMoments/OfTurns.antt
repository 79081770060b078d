-- What is true of a hart's next turn behind a journal, on one thread and on many: what it is granted, what it is answered on thread-local storage, and
-- how its dlclose returns.
use Rattle.std.specs.Prelude.{◌≡◌, ◌⊎◌, ℕ, ◌*◌, ◌-◌, ◌^◌, false, List, [], ◌∷◌, ◌++◌, map, Some, Contains, IsTrue}
use Rattle.ld_base.specs.declared.fault.DlFault.{DlFault}
use Rattle.ld_base.specs.declared.linking.Choice.{Choice}
use Rattle.ld_base.specs.declared.linking.Role.TheVariants.{None as NoRole}
use Rattle.history_event.specs.declared.event.CloseAnswer.TheVariants as closings
use Rattle.history_event.specs.declared.event.Event.{Event}
use Rattle.history_event.specs.declared.event.Event.TheVariants.{Close, Fini, Grant, Sym, Unmapped}
use Rattle.history_event.specs.declared.event.Range.{Range}
use Rattle.history_event.specs.declared.handed.Function.{Function}
use Rattle.history_event.specs.declared.event.SymAnswer.TheVariants as symbols
use Rattle.history_event.specs.declared.event.SymAsk.{SymAsk}
use Rattle.history_event.specs.declared.hart_end.HartEnd.{HartEnd}
use Rattle.history_state.specs.After.{after}
use Rattle.history_state.specs.Changes.{taken}
use Rattle.history_state.specs.Memory.{covers, role_at}
use Rattle.history_calls.specs.Call.{closes, locates, looks_up, resolves}
use Rattle.history_calls.specs.Ends.{EndsAs}
use Rattle.history_calls.specs.Gives.{HasBlock, variable_at}
use Rattle.hart_moves.specs.Due.{Due, Return, due}
use Rattle.hart_moves.specs.Harts.{Frame, HartState, Offered, Resolving}
use Rattle.hart_moves.specs.Moves.{Did, events_of, freed, returning, spent, word_left}
use Rattle.hart_moves.specs.Registers.{at, returned}
use Rattle.hart_moves.specs.TurnEvents.Appends.{has_finals}
use Rattle.hart_moves.specs.TurnFrames.Closings.{closing_frame}

-- ---- the choices

-- the grant is made inside the hart's own call of its slot's resolver, which is due: its pc stands at the resolver, t0 holds the owner and t1 eight times
-- the slot. What was chosen is offered to the hart's exchange, which comes next
pub record IsGrantedInCall (past : List Event) (h : ℕ) (b c : HartState) (number hart owner slot value : ℕ) : Type 0 where
  pub own : hart ≡ h
  pub back : Return
  pub is_due : due (after past) b ≡ Due.serve (resolves owner (8 * slot)) back
  pub offered : Offered
  pub exchanges : c.resolving ≡ Resolving.to_exchange offered
  pub number_is : offered.number ≡ number
  pub value_is : offered.value ≡ value

-- so is each grant that the turn appends
abbrev pub GrantsInCalls : List Event → ℕ → HartState → Did → HartState → Type 0
GrantsInCalls past h b did c = (number hart owner slot value : ℕ) (choice : Choice)
    → Contains (events_of did) (Grant number hart owner slot choice value) → IsGrantedInCall past h b c number hart owner slot value

-- behind its exchange the hart goes on at its own choice, where it found the lazy word, and else at the word that it found, which is the winner's choice
abbrev pub EntersItsSlot : List Event → HartState → HartState → Type 0
EntersItsSlot past b c = (o : Offered) (found : ℕ) → due (after past) b ≡ Due.finish o found
    → c ≡ spent (record b { registers = at (word_left o found) b.registers; resolving = Resolving.to_settle o found })

-- ---- the storage

-- what the call comes to: it returns the address of the variable, counted from the hart's own block of the module with this number, or ends the hart
pub data LocatesSo (past : List Event) (h number offset : ℕ) (back : Return) (b : HartState) (did : Did) (c : HartState) : Type 0 where
  is_own : (block : ℕ) → HasBlock (after (past ++ events_of did)) h number block → c ≡ spent (returning back (variable_at block offset) (freed b))
      → LocatesSo past h number offset back b did c
  ends : (reason : HartEnd) → EndsAs (after past) h (locates number offset) reason → c.«end» ≡ Some reason → LocatesSo past h number offset back b did c

-- where a hart's call of __tls_get_addr is due
abbrev pub LocatesFromOwnBlock : List Event → ℕ → HartState → Did → HartState → Type 0
LocatesFromOwnBlock past h b did c = (number offset : ℕ) (back : Return) → due (after past) b ≡ Due.serve (locates number offset) back
    → LocatesSo past h number offset back b did c

-- what a look-up comes to: it returns the value that its event says was found, or 0 where the event says that it is refused; or it ends the hart
pub data FindsSo (past : List Event) (h : ℕ) (ask : SymAsk) (back : Return) (b : HartState) (did : Did) (c : HartState) : Type 0 where
  found : (before : List Event) (serial index value : ℕ) → events_of did ≡ before ++ Sym h ask (symbols.Found serial index value) ∷ []
      → c ≡ spent (returning back value (freed b)) → FindsSo past h ask back b did c
  refused : (fault : DlFault) → events_of did ≡ Sym h ask (symbols.Refused fault) ∷ [] → c ≡ spent (returning back 0 (freed b))
      → FindsSo past h ask back b did c
  ends : (reason : HartEnd) → EndsAs (after past) h (looks_up ask) reason → c.«end» ≡ Some reason → FindsSo past h ask back b did c

-- where a hart's dlsym or dlvsym is due
abbrev pub AnswersLookUp : List Event → ℕ → HartState → Did → HartState → Type 0
AnswersLookUp past h b did c = (ask : SymAsk) (back : Return) → due (after past) b ≡ Due.serve (looks_up ask) back → FindsSo past h ask back b did c

-- ---- the closings

-- what a dlclose comes to: nothing dies by it, and it returns 0; or some objects do, whose destructors and unmapping the hart is to pass before it
-- returns; or it is refused, and returns -1; or it ends the hart
pub data ClosesSo (past : List Event) (h handle : ℕ) (back : Return) (b : HartState) (did : Did) (c : HartState) : Type 0 where
  none_dies : events_of did ≡ Close h handle (closings.Done []) ∷ [] → c ≡ spent (returning back 0 (freed b)) → ClosesSo past h handle back b did c
  some_die : (first : ℕ) (rest finalised : List ℕ) (queue : List Function)
      → events_of did ≡ Close h handle (closings.Done (first ∷ rest)) ∷ map (λ object. Fini h object) finalised
      → c.frames ≡ closing_frame back.to (first ∷ rest) queue ∷ back.frames → ClosesSo past h handle back b did c
  refused : (fault : DlFault) → events_of did ≡ Close h handle (closings.Refused fault) ∷ [] → c ≡ spent (returning back (2 ^ 64 - 1) (freed b))
      → ClosesSo past h handle back b did c
  ends : (reason : HartEnd) → EndsAs (after past) h (closes handle) reason → c.«end» ≡ Some reason → ClosesSo past h handle back b did c

-- where a hart's dlclose is due
abbrev pub AnswersDlclose : List Event → ℕ → HartState → Did → HartState → Type 0
AnswersDlclose past h b did c = (handle : ℕ) (back : Return) → due (after past) b ≡ Due.serve (closes handle) back → ClosesSo past h handle back b did c

-- all that died is unmapped, no word of it has a role, and the dlclose returns 0 to where it was called
pub record ReturnsUnmapped (past : List Event) (h to : ℕ) (set : List ℕ) (b : HartState) (did : Did) (c : HartState) : Type 0 where
  pub events : events_of did ≡ Unmapped h set ∷ []
  pub returns : c.registers ≡ returned to 0 b.registers
  pub roles : (r : Range) (a : ℕ) → Contains (taken (after past) (Unmapped h set)) r → IsTrue (covers a r)
      → role_at (after (past ++ events_of did)) a ≡ NoRole

-- so ends a turn by which a closing goes from what the linker has the hart run
abbrev pub ReturnsBehindUnmapping : List Event → ℕ → HartState → Did → HartState → Type 0
ReturnsBehindUnmapping past h b did c = (to : ℕ) (set : List ℕ) (queue : List Function) (below : List Frame)
    → b.frames ≡ closing_frame to set queue ∷ below → c.frames ≡ below → ReturnsUnmapped past h to set b did c

-- the closing of a dlclose that was called stands on what its hart ran then, below what has begun since
pub record ClosingStands (frames : List Frame) (to : ℕ) (set : List ℕ) (below : List Frame) : Type 0 where
  pub above : List Frame
  pub queue : List Function
  pub are : frames ≡ above ++ closing_frame to set queue ∷ below
  pub before_end : has_finals above ≡ false

-- it stands so until the dlclose returns
abbrev pub ClosingsStand : List Event → ℕ → HartState → Did → HartState → Type 0
ClosingsStand past h b did c = (to : ℕ) (set : List ℕ) (below : List Frame) → ClosingStands b.frames to set below
    → ClosingStands c.frames to set below ⊎ (ReturnsUnmapped past h to set b did c × (c.frames ≡ below))

-- ---- a turn

-- a hart that was so did this behind the journal, and is left so
pub record TurnIsTrue (past : List Event) (h : ℕ) (b : HartState) (did : Did) (c : HartState) : Type 0 where
  pub grants : GrantsInCalls past h b did c
  pub enters : EntersItsSlot past b c
  pub locates : LocatesFromOwnBlock past h b did c
  pub finds : AnswersLookUp past h b did c
  pub closes : AnswersDlclose past h b did c
  pub stand : ClosingsStand past h b did c
  pub returns_behind : ReturnsBehindUnmapping past h b did c
