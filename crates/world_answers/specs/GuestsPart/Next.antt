-- What a turn shows beside what it does, by what it is behind the settling (dlopen(3), dlmopen(3)).
use Rattle.std.specs.Prelude.{◌≡◌, ◌≢◌, ◌⊎◌, ℕ, Bool, true, false, List, ◌∷◌, ◌++◌, Option, Some}
use Rattle.std.specs.List.{slice_get}
use Rattle.ld_base.specs.declared.fault.Shown.{Shown}
use Rattle.ld_base.specs.declared.linking.File.{File}
use Rattle.ld_base.specs.declared.linking.Loaded.{Loaded}
use Rattle.library_source.specs.Count.{Rises}
use Rattle.history_event.specs.declared.event.Event.{Event}
use Rattle.history_event.specs.declared.event.Event.TheVariants.{Open}
use Rattle.history_event.specs.declared.event.OpenAnswer.TheVariants.{Done}
use Rattle.history_event.specs.declared.event.OpenAsk.{OpenAsk}
use Rattle.history_event.specs.declared.event.Range.{Range}
use Rattle.history_event.specs.declared.hart_end.HartEnd.TheVariants as ends
use Rattle.history_state.specs.After.{after}
use Rattle.history_state.specs.Opening.{Opens}
use Rattle.history_state.specs.Setting.{Setting}
use Rattle.history_calls.specs.Answer.{Answer, again}
use Rattle.history_calls.specs.Call.{Call, opens}
use Rattle.history_calls.specs.Gives.{Serves}
use Rattle.history_calls.specs.Waiting.{Shows}
use Rattle.history_journal.specs.Following.{machine_of}
use Rattle.history_calls.specs.CallLaws.Coming.{IsOver}
use Rattle.hart_moves.specs.Due.{Due, Return, due}
use Rattle.hart_moves.specs.Harts.{HartState}
use Rattle.world_answers.specs.Answers.{is_service}
use Rattle.world_answers.specs.Openings.{TurnReadsNothing, TurnRefusalIsCounted}
use Rattle.world_turns.specs.Run.{settled}
use Rattle.world_turns.specs.World.{World}
use Rattle.world_answers.specs.declared.guests.guest_worlds.turn.Turn.{Turn}
use Rattle.world_answers.specs.declared.guests.guest_worlds.turn.Turn.TheVariants as turn

-- this holds of the events behind the settling, and of the hart's next turn there
abbrev pub OfNext : World → ℕ → (List Event → Due → Type 0) → Type 0
OfNext world h Holds =
    (b : HartState) → slice_get world.harts h ≡ Some b → Holds (settled world).journal (due (after (settled world).journal) b)

-- it is no call of the linker
abbrev pub NextIsNoCall : World → ℕ → Type 0
NextIsNoCall world h = OfNext world h (λ past d. is_service d ≡ false)

-- ---- reading

-- no other turn than an opening reads files, and not each opening does
abbrev pub NextReadsNothing : World → ℕ → Type 0
NextReadsNothing world h = OfNext world h (λ past d. TurnReadsNothing (after past) d)

-- an opening that was refused for a read that failed, or for a missing library, shows that in the library's counts
abbrev pub NextRefusalIsCounted : List (List ℕ) → World → List Event → ℕ → (failures failures' misses misses' : ℕ) → Type 0
NextRefusalIsCounted folders world events h failures failures' misses misses' =
    OfNext world h (λ past d. TurnRefusalIsCounted folders past events h d failures failures' misses misses')

-- ---- success

-- this is the first of the events from `past` on
abbrev pub ComesFirst : (past events : List Event) → Event → Type 0
ComesFirst past events e = (behind : List Event) × (events ≡ past ++ e ∷ behind)

-- where the library tells its files and no read failed, an opening that finds all that it needs opens, or its hart ends for want of memory
abbrev pub TurnOpens : ℕ → List (List ℕ) → Option (List File) → (failures failures' : ℕ) → (past events : List Event) → ℕ → Turn → Due → Type 0
TurnOpens count folders files failures failures' past events h came d =
    (ask : OpenAsk) (back : Return) (told : List File) → d ≡ Due.serve (opens ask) back → files ≡ Some told → ¬ (Rises failures failures')
    → (w : Setting) (id root : ℕ) (added : List Loaded) (ranges : List Range) → IsOver (machine_of count) folders (Some told) w
    → Opens w (after past) h ask id root added ranges
    → ComesFirst past events (Open h ask (Done id root added ranges)) ⊎ (came ≡ turn.Ended ends.Memory)

abbrev pub NextOpens : ℕ → List (List ℕ) → Option (List File) → (failures failures' : ℕ) → World → List Event → ℕ → Turn → Type 0
NextOpens count folders files failures failures' world events h came =
    OfNext world h (λ past d. TurnOpens count folders files failures failures' past events h came d)

-- ---- answers

-- the turn is a call, of which this holds
abbrev pub OfCall : Due → (Call → Type 0) → Type 0
OfCall d Holds = (call : Call) × (back : Return) × (d ≡ Due.serve call back) × Holds call

-- the call has to be made again
abbrev pub is_again : Answer → Bool
is_again answer = elim answer [ again for ↦ true | _ ↦ false ]

-- it was answered otherwise, and the events of that answer come first
pub record HasAnswer (w : Setting) (past events : List Event) (h : ℕ) (call : Call) : Type 0 where
  pub appended : List Event
  pub behind : List Event
  pub are : events ≡ past ++ (appended ++ behind)
  pub answer : Answer
  pub serves : Serves w past h call appended answer
  pub comes : is_again answer ≡ false

-- its call has to wait for this; or it waits for that since another call, and it is so still
abbrev pub HasToWait : Setting → List Event → ℕ → Due → Shown → Type 0
HasToWait w past h d shown = OfCall d (λ call. Shows w (after past) h call shown) ⊎ (d ≡ Due.wait shown)

-- what is told of a hart that runs on: it has to wait for this, and nothing was appended; or its call, if it made one, was answered
abbrev pub TurnTells : Setting → (past events : List Event) → ℕ → Due → Turn → Type 0
TurnTells w past events h d turn.Stepped = is_service d ≡ true → OfCall d (λ call. HasAnswer w past events h call)
TurnTells w past events h d (turn.Again shown) = HasToWait w past h d shown × (events ≡ past)
TurnTells w past events h d (turn.Ended reason) = Unit {0}
TurnTells w past events h d turn.Idle = Unit {0}

-- in each run with these folders, and with the files as the library tells them
abbrev pub TurnTellsOver : ℕ → List (List ℕ) → Option (List File) → (past events : List Event) → ℕ → Due → Turn → Type 0
TurnTellsOver count folders files past events h d came = (w : Setting) → IsOver (machine_of count) folders files w → TurnTells w past events h d came

abbrev pub NextTells : ℕ → List (List ℕ) → Option (List File) → World → List Event → ℕ → Turn → Type 0
NextTells count folders files world events h came = OfNext world h (λ past d. TurnTellsOver count folders files past events h d came)

-- the hart isn't to wait
abbrev pub NeverWaits : Turn → Type 0
NeverWaits came = (shown : Shown) → came ≢ turn.Again shown
