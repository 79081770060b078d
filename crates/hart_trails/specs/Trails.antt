-- What a hart's turns leave in its trail. For whoever shows that a trail is of turns: a hart follows by its trail, from its start to its end.
use Rattle.std.specs.Prelude.{◌≡◌, ◌≢◌, ℕ, ◌+◌, ◌≤◌, Bool, true, false, if◌then◌else◌, List, [], ◌∷◌, ◌++◌, length, map, take, Option, Some, None}
use Rattle.history_event.specs.declared.event.Event.{Event}
use Rattle.history_event.specs.declared.event.Event.TheVariants.{Ended, Grant}
use Rattle.history_event.specs.declared.hart_end.HartEnd.{HartEnd}
use Rattle.history_event.specs.declared.hart_end.HartEnd.TheVariants.{Memory}
use Rattle.ld_base.specs.declared.fault.Shown.{Shown}
use Rattle.rv_hart.specs.declared.bus.Item.{Item}
use Rattle.rv_hart.specs.Items.{items_left}
use Rattle.rv_hart.specs.Registers.{Registers}
use Rattle.word_rule.specs.declared.entry.Exchange.{Exchange}
use Rattle.word_rule.specs.declared.view.TrailItem.{TrailItem}
use Rattle.word_rule.specs.declared.view.TrailItem.TheVariants.{Call, Took, Exchanged, Done, Generation as ReadGeneration}
use Rattle.word_access.specs.Accesses.{in_memory}
use Rattle.history_state.specs.After.{after}
use Rattle.history_state.specs.Setting.{Setting, have_exited}
use Rattle.history_state.specs.State.{State}
use Rattle.history_calls.specs.Call.{locates}
use Rattle.hart_moves.specs.Due.{Due, Return, due}
use Rattle.hart_moves.specs.Follows.{BeginsFinals, HasNone, LacksList, Turned, TurnsAt}
use Rattle.hart_moves.specs.Harts.{HartState, Offered}
use Rattle.hart_moves.specs.Moves.{Did, all_finis, events_of}
use Rattle.hart_moves.specs.Starting.{HartStart}
use Rattle.hart_moves.specs.Trails.{Beside, Located}
use Rattle.hart_moves.specs.TurnEvents.Appends.{has_finals}
use Rattle.hart_trails.specs.Entries.{IsExchange, again_entry, block_entry, entry_behind}

-- ---- a turn

abbrev pub is_granting : Event → Bool
is_granting e = elim e [ Grant number hart owner slot choice value ↦ true | _ ↦ false ]

-- the entries of these events, in order; but that of a grant comes with its exchange
abbrev pub took_by : List Event → Event → List TrailItem
took_by past e = if is_granting e then [] else Took (entry_behind past e) ∷ []

abbrev pub took_behind : List Event → List Event → List TrailItem
took_behind past [] = []
took_behind past (e ∷ rest) = took_by past e ++ took_behind (past ++ e ∷ []) rest

abbrev pub is_located : Due → Bool
is_located turn = elim turn [ Due.serve call back ↦ elim call [ locates number offset ↦ true | _ ↦ false ] | _ ↦ false ]

-- no block is kept at the generation that was read. In the final destructors, where no other hart makes a new one, this is said of the linker's alone
pub record FindsNone (s : State) (b : HartState) (generation : ℕ) (block : Option ℕ) : Type 0 where
  pub before_finals : has_finals b.frames ≡ false → block ≡ None
  pub of_linker : generation ≡ s.generation → block ≡ None

-- before thread-local storage is asked for, the generation is read for the module. It is none later than the one at which the linker then answers, and
-- no block is kept at it
pub data Reads (s : State) (b : HartState) : List TrailItem → Type 0 where
  is_another : is_located (due s b) ≡ false → Reads s b []
  none_kept : (number offset generation : ℕ) (block : Option ℕ) (back : Return) → due s b ≡ Due.serve (locates number offset) back
      → generation ≤ s.generation → FindsNone s b generation block → Reads s b (ReadGeneration generation number block ∷ [])

-- what a turn behind these events leaves
pub data Leaves (past : List Event) (b : HartState) (beside : Beside) : Did → List TrailItem → Type 0 where
  calls : (items : List Item) → Leaves past b beside (Did.quiet items) (map Call (items_left in_memory items))
  entries : (items : List Item) (e : Event) (rest : List Event) (read : List TrailItem) → Reads (after past) b read
      → Leaves past b beside (Did.serves items (e ∷ rest)) (read ++ map Call (items_left in_memory items) ++ took_behind past (e ∷ rest))
  -- a block that is there is no event: the linker answers it, or the hart kept the linker's answer of this generation
  answers : (l : Located) (read : List TrailItem) → beside.located ≡ Some l → Reads (after past) b read
      → Leaves past b beside (Did.serves [] []) (read ++ Took (block_entry past l) ∷ [])
  is_kept : (l : Located) → beside.located ≡ Some l
      → Leaves past b beside (Did.serves [] []) (ReadGeneration (after past).generation l.number (Some l.block) ∷ [])
  tries_again : (for : Shown) (read : List TrailItem) → Reads (after past) b read
      → Leaves past b beside (Did.waits for) (read ++ Took (again_entry past for) ∷ [])
  exchanges : (o : Offered) (found : ℕ) (x : Exchange) → IsExchange past beside.granted o found x
      → Leaves past b beside (Did.exchanges o found) (Exchanged x ∷ [])
  finishes : Leaves past b beside Did.finishes (Done ∷ [])

-- ---- turns

-- the hart's turns from one moment of the journal on to another, as it follows there, and what they left, turn after turn
pub data FollowsBy (w : Setting) (journal : List Event) (h : ℕ) : ℕ → HartState → List Turned → List TrailItem → ℕ → HartState → Type 0 where
  no_more : (from : ℕ) (b : HartState) → FollowsBy w journal h from b [] [] from b
  one_more : (from to : ℕ) (b c d : HartState) (turn : Turned) (rest : List Turned) (items more : List TrailItem) → from ≤ turn.at
      → HasNone journal h from turn.at → TurnsAt w journal h turn b c → Leaves (take turn.at journal) b turn.beside turn.did items
      → FollowsBy w journal h (turn.at + length (events_of turn.did)) c rest more to d
      → FollowsBy w journal h from b (turn ∷ rest) (items ++ more) to d

-- ---- the whole way

-- what comes behind a hart's first end, the end that counts for it, and what that leaves
pub data LeavesBehind (w : Setting) (journal : List Event) (h : ℕ) (registers : Registers) (from : ℕ) (ended : HartState) (first : HartEnd) : HartEnd
    → List TrailItem → Type 0 where
  is_another : h ≢ 0 → HasNone journal h from (length journal) → LeavesBehind w journal h registers from ended first first []
  none_runs : h ≡ 0 → HasNone journal h from (length journal) → have_exited w (after journal) ≡ false
      → LeavesBehind w journal h registers from ended first first []
  none_is_left : h ≡ 0 → HasNone journal h from (length journal) → all_finis (after journal) ≡ []
      → LeavesBehind w journal h registers from ended first first []
  no_memory : h ≡ 0 → (at : ℕ) → LacksList w journal from ended at → HasNone journal h (at + 1) (length journal)
      → LeavesBehind w journal h registers from ended first Memory (Took (entry_behind (take at journal) (Ended 0 Memory)) ∷ [])
  all_run : h ≡ 0 → (at to : ℕ) (begun last : HartState) (turns : List Turned) (trail : List TrailItem) (reason : HartEnd)
      → BeginsFinals w journal registers from ended at begun → FollowsBy w journal h at begun turns trail to last → last.«end» ≡ Some reason
      → HasNone journal h to (length journal) → LeavesBehind w journal h registers from ended first reason trail

-- a hart's whole trail is what its way leaves, from its start to its end
pub record LeavesToItsEnd (w : Setting) (journal : List Event) (start : HartStart) (h : ℕ) (reason : HartEnd) (trail : List TrailItem) : Type 0 where
  pub turns : List Turned
  pub own : List TrailItem
  pub to : ℕ
  pub ended : HartState
  pub follows : FollowsBy w journal h start.from start.hart turns own to ended
  pub first : HartEnd
  pub ends : ended.«end» ≡ Some first
  pub rest : List TrailItem
  pub behind : LeavesBehind w journal h start.registers to ended first reason rest
  pub whole : trail ≡ own ++ rest
