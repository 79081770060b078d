-- What a turn came to is passed to its hart. For the code of this crate alone.
use Rattle.std.specs.Prelude.{◌≡◌, ◌≢◌, ℕ, ◌≤◌, ◌<◌, ◌==◌, ◌&&◌, Bool, true, false, if◌then◌else◌, None, List, [], ◌∷◌, ◌++◌, length, Some, Contains}
use Rattle.history_event.specs.declared.event.Event.{Event}
use Rattle.word_rule.specs.declared.entry.Entry.{Entry}
use Rattle.word_rule.specs.declared.view.HartView.{HartView}
use Rattle.word_rule.specs.declared.view.KeeperView.{KeeperView}
use Rattle.word_rule.specs.declared.view.TrailItem.{TrailItem}
use Rattle.word_rule.specs.Views.{known_of, row_of}
use Rattle.history_state.specs.After.{after}
use Rattle.history_state.specs.Allowed.{Allowed}
use Rattle.history_state.specs.Setting.{Setting}
use Rattle.history_calls.specs.Laws.{hart_of}
use Rattle.history_journal.specs.Following.{machine_of}
use Rattle.hart_moves.specs.Harts.{Offered}
use Rattle.hart_moves.specs.Moves.{AreAllowed, IsOffer}
use Rattle.hart_trails.specs.Trails.{is_granting}
use Rattle.tls_blocks.specs.Blocks.{BlockTable, block_at}
use Rattle.link_state.specs.Table.{LinkTable}
use Rattle.world_memory.specs.TurnAnswers.Changes.{Changes}
use Rattle.world_memory.specs.declared.turn_answers.answered.MemoryChange.{MemoryChange}
use Rattle.kept_words.specs.Handed.{is_event_mark}
use Rattle.kept_words.specs.Posting.{NewGrant, event_of, granting_of}
use Rattle.link_keeper.specs.Entering.{AreQuiet}
use Rattle.link_keeper.specs.Keeping.{KeepsView, WasOver}
use Rattle.link_keeper.specs.Passing.{InStep, IsCalling, MayPass}
use Rattle.link_keeper.specs.Settling.{IsFoundOpen}

-- the hart is known to call, and the keeper's record is as it has to be
pub record MayHandOver (w : Setting) (begun : List Event) (k : KeeperView) (h : HartView) (id : ℕ) : Type 0 where
  pub view : KeepsView w begun k
  pub low : id < w.machine.harts
  pub number : id ≡ h.number
  pub calling : IsCalling h
  pub step : InStep k h
  pub may : MayPass k id
  pub found : (m : ℕ) → m < 16 → IsFoundOpen (row_of k m)

-- the state is ahead by these events of the hart, of which the first isn't a grant, and those behind it are quiet; memory is to get this of them
pub record HasEvents (w : Setting) (state : LinkTable) (k : KeeperView) (id : ℕ) (e : Event) (rest : List Event) (does : MemoryChange) : Type 0 where
  pub machine : w.machine ≡ machine_of state.harts
  pub ahead : state.events ≡ k.events ++ e ∷ rest
  pub plain : is_granting e ≡ false
  pub quiet : AreQuiet rest
  pub of : (x : Event) → Contains (e ∷ rest) x → hart_of x ≡ Some id
  pub may : AreAllowed w k.events (e ∷ rest)
  pub alone : (front behind : List Event) (x : Event) → e ∷ rest ≡ front ++ x ∷ behind → WasOver w (k.events ++ front) → id ≡ 0
  pub changes : Changes (after k.events) (e ∷ rest) state.made does

-- the state is ahead by a grant to the hart, of which this is the offer
pub record HasGrantEvent (w : Setting) (state : LinkTable) (k : KeeperView) (id : ℕ) (g : NewGrant) (o : Offered) : Type 0 where
  pub machine : w.machine ≡ machine_of state.harts
  pub ahead : state.events ≡ k.events ++ event_of g ∷ []
  pub hart : g.hart ≡ id
  pub may : Allowed w k.events (event_of g)
  pub offer : IsOffer (after k.events) (granting_of g) o
  pub alone : WasOver w k.events → id ≡ 0

-- the keeper has counted these events, and the hart has what they came to: it has heard of them, its trail has these items, and it knows this entry
-- and behind it those of events that are no answers on thread-local storage
pub record IsPassed (w : Setting) (begun : List Event) (k l : KeeperView) (h i : HartView) (own : List Event) (items : List TrailItem) (first : Entry)
    : Type 0 where
  pub view : KeepsView w begun l
  pub events : l.events ≡ k.events ++ own
  pub number : i.number ≡ h.number
  pub heard : i.heard ≡ l.events
  pub step : InStep l i
  pub trail : i.trail ≡ h.trail ++ items
  pub more : List Entry
  pub known : known_of i.lane ≡ h.lane.taken ++ first ∷ more
  pub low : is_event_mark first.mark ≡ true → first.number ≤ length l.events
  pub plain : (e : Entry) → Contains more e → (e.mark ≡ 1) × (e.slot ≡ 0) × (e.number ≤ length l.events)
  -- none of the other harts' grants was asked for or settled
  pub opens : l.opens ≡ k.opens
  pub pending : (m : ℕ) → m ≢ h.number → (row_of l m).pending ≡ (row_of k m).pending

-- ---- the hart's blocks

-- an answer on thread-local storage: of mark 2, or of an event with a module
abbrev pub is_stored : Entry → Bool
is_stored e = if e.mark == 2 then true else (if e.mark == 1 then (if e.slot == 0 then false else true) else false)

-- the blocks are those of this generation: the one of the answer, if it is one, and what was kept at this generation already
pub record KeepsAnswer (generation : ℕ) (e : Entry) (d d' : BlockTable) : Type 0 where
  pub generation_is : d'.generation ≡ generation
  pub blocks : (number : ℕ) → block_at d'.entries number
      ≡ (if (e.slot == number) && is_stored e then Some e.value else (if d.generation == generation then block_at d.entries number else None))
