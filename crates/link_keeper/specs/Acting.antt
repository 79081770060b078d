-- Turns that the linker's state takes alone, and by what each is answered. For the code of this crate alone.
use Rattle.std.specs.Prelude.{◌≡◌, ℕ, ◌<◌, Bool, true, false, List, [], ◌∷◌, ◌++◌}
use Rattle.std.specs.List.{AllByRecursion}
use Rattle.ld_base.specs.declared.fault.Shown.{Shown}
use Rattle.history_event.specs.declared.event.Event.{Event}
use Rattle.history_event.specs.declared.event.Event.TheVariants as events
use Rattle.history_event.specs.declared.event.OpenAsk.{OpenAsk}
use Rattle.history_state.specs.After.{after}
use Rattle.history_state.specs.Legal.{Legal}
use Rattle.history_state.specs.Objects.{is_startup}
use Rattle.history_state.specs.Setting.{Setting}
use Rattle.history_state.specs.Slots.{HasNoGrant}
use Rattle.history_calls.specs.Call.{Call, locates, looks_up, opens}
use Rattle.history_calls.specs.Gives.{HasBlock}
use Rattle.history_calls.specs.Waiting.{Shows}
use Rattle.history_journal.specs.Following.{machine_of}
use Rattle.hart_fits.specs.Fits.{HartFits}
use Rattle.hart_linker.specs.Serving.{is_asking}
use Rattle.hart_moves.specs.Due.{Due, Return, back, due}
use Rattle.hart_moves.specs.Harts.{HartState, Resolving}
use Rattle.hart_moves.specs.Moves.{Did, IsOffer, Moves, events_of, settled_resolving}
use Rattle.hart_seat.specs.HartParts.Views.{offered_of}
use Rattle.hart_seat.specs.declared.hart_parts.due.Offered.{Offered}
use Rattle.hart_trails.specs.Trails.{is_granting}
use Rattle.link_state.specs.Table.{LinkTable}
use Rattle.world_memory.specs.TurnAnswers.Changes.{Changes}
use Rattle.world_memory.specs.declared.turn_answers.answered.MemoryChange.{MemoryChange}
use Rattle.world_answers.specs.Answers.{is_service}
use Rattle.world_answers.specs.GuestsPart.Counting.{is_refusal}
use Rattle.kept_words.specs.Posting.{NewGrant, event_of, granting_of}
use Rattle.link_keeper.specs.Entering.{AreQuiet}
use Rattle.link_keeper.specs.Keeping.{is_opening}
use Rattle.link_keeper.specs.declared.acting.Reply.{Reply}
use Rattle.link_keeper.specs.declared.acting.Reply.TheVariants as reply
use Rattle.link_keeper.specs.declared.acting.Storage.{Storage}
use Rattle.link_keeper.specs.declared.acting.Storage.TheVariants as storage

-- ---- events

-- a block of thread-local storage came
abbrev pub is_tls : Event → Bool
is_tls e = elim e [ events.Tls hart owner address ↦ true | _ ↦ false ]

-- none of these is an opening
abbrev pub OpenNothing : List Event → Type 0
OpenNothing events = AllByRecursion (λ e. is_opening e ≡ false) events

-- ---- calls

-- it asks where a block of thread-local storage is
abbrev pub is_locating : Call → Bool
is_locating call = elim call [ locates number offset ↦ true | _ ↦ false ]

-- its hart may get a block by it
abbrev pub gives_block : Call → Bool
gives_block call = elim call [ looks_up ask ↦ true | locates number offset ↦ true | _ ↦ false ]

abbrev pub may_give_block : Due → Bool
may_give_block d = elim d [ Due.serve call back ↦ gives_block call | _ ↦ false ]

abbrev pub IsOpening : Due → Type 0
IsOpening d = (ask : OpenAsk) × (to : Return) × (d ≡ Due.serve (opens ask) to)

-- ---- turns

-- a turn comes to events, of which the first isn't a grant; those behind it are quiet and open nothing, and there is none behind a refused opening
pub record ComesToEvents (d : Due) (did : Did) (c : HartState) : Type 0 where
  pub first : Event
  pub rest : List Event
  pub is : did ≡ Did.serves [] (first ∷ rest)
  pub quiet : AreQuiet rest
  pub behind : OpenNothing rest
  pub plain : is_granting first ≡ false
  pub stored : is_tls first ≡ true → may_give_block d ≡ true
  pub alone : is_refusal first ≡ true → (rest ≡ []) × IsOpening d
  -- the hart is done with its last grant
  pub rests : settled_resolving c.resolving ≡ Resolving.idle

-- ---- by what a turn is answered

-- the hart is done with its last grant
abbrev pub IsDone : HartState → Type 0
IsDone c = settled_resolving c.resolving ≡ Resolving.idle

pub data Answers (w : Setting) (past : List Event) (h : ℕ) (b c : HartState) (did : Did) : Reply → Type 0 where
  by_events : ComesToEvents (due (after past) b) did c → Answers w past h b c did reply.Events
  -- by a grant, of which the hart gets the offer
  by_grant : (g : NewGrant) (o : Offered) → did ≡ Did.serves [] (event_of g ∷ []) → g.hart ≡ h → IsOffer (after past) (granting_of g) (offered_of o)
      → c.resolving ≡ Resolving.to_exchange (offered_of o) → Answers w past h b c did (reply.Granted o)
  -- by a block that was there
  by_block : (number offset block : ℕ) (back : Return) → due (after past) b ≡ Due.serve (locates number offset) back → did ≡ Did.serves [] []
      → HasBlock (after past) h number block → IsDone c → Answers w past h b c did (reply.Block number block)
  -- its call is to be tried again, or it waits still
  by_again : (call : Call) (for : Shown) → did ≡ Did.waits for → Shows w (after past) h call for → IsDone c → Answers w past h b c did (reply.Again for)
  by_waiting : (for : Shown) → due (after past) b ≡ Due.wait for → did ≡ Did.waits for → IsDone c → Answers w past h b c did (reply.Again for)

-- the hart is to keep a block of it
abbrev pub is_storing : Did → Reply → Bool
is_storing did answer = elim answer [
  | reply.Events ↦ elim (events_of did) [ e ∷ rest ↦ is_tls e | _ ↦ false ]
  | reply.Block number block ↦ true
  | _ ↦ false
]

-- the state took a hart's turn that asks: its events stand there, and memory is to get this. Where the hart is to keep a block there is room for it
pub record Acts (w : Setting) (past : List Event) (state : LinkTable) (h : ℕ) (b c : HartState) (spare : ℕ) (does : MemoryChange) (answer : Reply)
    : Type 0 where
  pub did : Did
  pub moves : Moves w past h b did c
  pub are : state.events ≡ past ++ events_of did
  pub changes : Changes (after past) (events_of did) state.made does
  pub answers : Answers w past h b c did answer
  pub room : is_storing did answer ≡ true → 0 < spare

-- ---- what is asked for

-- a hart's turn that asks may be taken: the history is legal and behind startup, and the hart fits it and has no open grant
pub record MayAct (w : Setting) (state : LinkTable) (h : ℕ) (b : HartState) : Type 0 where
  pub machine : w.machine ≡ machine_of state.harts
  pub legal : Legal w state.events
  pub started : is_startup (after state.events) ≡ false
  pub fits : HartFits w state.events h b
  pub free : HasNoGrant (after state.events) h
  pub asks : is_asking (due (after state.events) b) ≡ true

-- and it is a call
pub record MayCall (w : Setting) (state : LinkTable) (h : ℕ) (b : HartState) : Type 0 where
  pub may : MayAct w state h b
  pub calls : is_service (due (after state.events) b) ≡ true

-- it is no request of thread-local storage
abbrev pub NotLocating : Due → Type 0
NotLocating d = (number offset : ℕ) (to : Return) → d ≡ Due.serve (locates number offset) to → ⊥

-- what a call asks of thread-local storage
abbrev pub AsksStorage : HartState → Due → Storage → Type 0
AsksStorage b d storage.Nothing = may_give_block d ≡ false
AsksStorage b d storage.LookUp = (may_give_block d ≡ true) × NotLocating d
AsksStorage b d (storage.Locate number offset) = d ≡ Due.serve (locates number offset) (back b)

-- by the call
abbrev pub storage_of : Call → Storage
storage_of call = elim call [ looks_up ask ↦ storage.LookUp | locates number offset ↦ storage.Locate number offset | _ ↦ storage.Nothing ]

-- it asks something
abbrev pub asks : Storage → Bool
asks asked = elim asked [ storage.Nothing ↦ false | _ ↦ true ]
